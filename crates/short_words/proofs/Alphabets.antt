-- The numbers that pass a test, ascending: each is followed by the least after it, all of them are there, and they are counted. Assumes nothing.
use mathlib.Core.Path.{◌≡◌, refl, sym, ap, ap₂, ◌∙◌}
use mathlib.Core.Bool.{Bool, true, false, cond}
use mathlib.Core.List.{List, [], ◌∷◌}
use mathlib.Core.Logic.{◌⊎◌, inl, inr}
use mathlib.Core.Option.{Option, none, some}
use Prim.Native.Nat.{ℕ, zero, suc, ◌+◌, ◌-◌, ◌<◌, ◌≤◌}
use native.Mathlib.Nat.{eq-or-lt_of_le, add-zero, zero-add, add_comm}
use native.Mathlib.Numerals.{add-one}
use native.Mathlib.Omega.{arith}
use lib.ListN.{length, get_elem?}
use Rattle.index.specs.Index.{how_many}
use Rattle.index.proofs.Tests.{one, many_ext, many_add}
use Rattle.letter_set.specs.LetterSets.{letter_in, alphabet_size, least_from, letter_from}
use Rattle.letter_set.proofs.Least.{least_zero, least_suc}
use Rattle.short_words.specs.ShortWords.{passing_from, alphabet}
use Rattle.short_words.proofs.Chains.{first_or, Each, no_one, one_more, Follows, done, then}

shifted : (c i : ℕ) → c + (1 + i) ≡ suc c + i
shifted c i = omega arith

module _ (p : ℕ → Bool) where
  passing_zero : (c : ℕ) → passing_from 0 c p ≡ []
  unfolding passing_from
  passing_zero c = refl

  passing_suc : (n c : ℕ) → passing_from (suc n) c p ≡ cond (p c) (c ∷ passing_from n (suc c) p) (passing_from n (suc c) p)
  unfolding passing_from
  passing_suc n c = refl

  -- the first is the least
  first_by : (n c : ℕ) (t : Bool) → first_or (passing_from n (suc c) p) none ≡ least_from n (suc c) p →
      first_or (cond t (c ∷ passing_from n (suc c) p) (passing_from n (suc c) p)) none ≡ cond t (some c) (least_from n (suc c) p)
  first_by n c true h = refl
  first_by n c false h = h

  pub passing_first : (n c : ℕ) → first_or (passing_from n c p) none ≡ least_from n c p
  passing_first zero c = rw (passing_zero c) (sym (least_zero p c))
  passing_first (suc n) c = rw (passing_suc n c) (first_by n c (p c) (passing_first n (suc c)) ∙ sym (least_suc p n c))

  -- each is followed by the least after it, of those below m
  follows_step : (m n c : ℕ) (t : Bool) → n ≡ m - suc c → Follows (λ x. least_from (m - suc x) (suc x) p) none (passing_from n (suc c) p) →
      Follows (λ x. least_from (m - suc x) (suc x) p) none (cond t (c ∷ passing_from n (suc c) p) (passing_from n (suc c) p))
  follows_step m n c true e h = then (ap (λ (k : ℕ). least_from k (suc c) p) (sym e) ∙ sym (passing_first n (suc c))) h
  follows_step m n c false e h = h

  pub passing_follows : (m n c : ℕ) → c + n ≡ m → Follows (λ x. least_from (m - suc x) (suc x) p) none (passing_from n c p)
  passing_follows m zero c e = rw (passing_zero c) done
  passing_follows m (suc n) c e = rw (passing_suc n c) (follows_step m n c (p c) (omega arith) (passing_follows m n (suc c) (omega arith)))

  -- each passes
  each_by : (n c : ℕ) (t : Bool) → p c ≡ t → Each (λ x. p x ≡ true) (passing_from n (suc c) p) →
      Each (λ x. p x ≡ true) (cond t (c ∷ passing_from n (suc c) p) (passing_from n (suc c) p))
  each_by n c true e h = one_more e h
  each_by n c false e h = h

  pub passing_each : (n c : ℕ) → Each (λ x. p x ≡ true) (passing_from n c p)
  passing_each zero c = rw (passing_zero c) no_one
  passing_each (suc n) c = rw (passing_suc n c) (each_by n c (p c) refl (passing_each n (suc c)))

  -- each that passes is there
  at_by : (n c x : ℕ) (t : Bool) → p c ≡ t → p x ≡ true → (c ≡ x) ⊎ (c < x) → (c < x → (k : ℕ) × (get_elem? (passing_from n (suc c) p) k ≡ some x)) →
      (k : ℕ) × (get_elem? (cond t (c ∷ passing_from n (suc c) p) (passing_from n (suc c) p)) k ≡ some x)
  at_by n c x true e q (inl s) h = (0, ap some s)
  at_by n c x true e q (inr s) h = let r = h s in (suc r.0, r.1)
  at_by n c x false e q (inl s) h = absurd (let g : p c ≡ p x = ap p s in let z : ◌≡◌ {A = ℕ} 0 1 = cc in omega arith)
  at_by n c x false e q (inr s) h = h s

  pub passing_at : (n c x : ℕ) → p x ≡ true → c ≤ x → x < c + n → (k : ℕ) × (get_elem? (passing_from n c p) k ≡ some x)
  passing_at zero c x q l g = absurd (omega arith)
  passing_at (suc n) c x q l g =
      rw (passing_suc n c) (at_by n c x (p c) refl q (eq-or-lt_of_le l) (λ s. passing_at n (suc c) x q s (omega arith)))

  -- how many there are
  length_by : (n c : ℕ) (t : Bool) → length (cond t (c ∷ passing_from n (suc c) p) (passing_from n (suc c) p)) ≡ one t + length (passing_from n (suc c) p)
  length_by n c true = sym (add_comm 1 (length (passing_from n (suc c) p)) ∙ add-one (length (passing_from n (suc c) p)))
  length_by n c false = sym (zero-add (length (passing_from n (suc c) p)))

  many_first : (n c : ℕ) → how_many (suc n) (λ i. p (c + i)) ≡ one (p c) + how_many n (λ i. p (suc c + i))
  unfolding how_many
  many_first n c =
      ap (λ (m : ℕ). how_many m (λ i. p (c + i))) (sym (add_comm 1 n ∙ add-one n)) ∙ many_add 1 n (λ i. p (c + i))
      ∙ ap₂ (λ (a b : ℕ). a + b) (zero-add (one (p (c + 0))) ∙ ap (λ (k : ℕ). one (p k)) (add-zero c))
      (many_ext n (λ i. p (c + (1 + i))) (λ i. p (suc c + i)) (λ i _. ap p (shifted c i)))

  pub passing_length : (n c : ℕ) → length (passing_from n c p) ≡ how_many n (λ i. p (c + i))
  unfolding how_many
  passing_length zero c = rw (passing_zero c)
  passing_length (suc n) c =
      rw (passing_suc n c) (length_by n c (p c) ∙ ap (λ (k : ℕ). one (p c) + k) (passing_length n (suc c)) ∙ sym (many_first n c))

-- ---- the letters of a set

module _ (letters : List ℕ) where
  pub alphabet_first : first_or (alphabet letters) none ≡ letter_from letters 0
  alphabet_first = passing_first (letter_in letters) 256 0

  pub alphabet_follows : Follows (λ c. letter_from letters (suc c)) none (alphabet letters)
  alphabet_follows = passing_follows (letter_in letters) 256 256 0 (omega arith)

  pub alphabet_length : length (alphabet letters) ≡ alphabet_size letters
  alphabet_length =
      passing_length (letter_in letters) 256 0
      ∙ many_ext 256 (λ i. letter_in letters (0 + i)) (letter_in letters) (λ i _. ap (letter_in letters) (zero-add i))
