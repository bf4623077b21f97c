-- A program without kern indices whose kerns are shared: it is taken by writing, and packed again it is the program.
-- Assumes nothing.
use mathlib.Core.Path.{◌≡◌, refl, ap, sym, ◌∙◌, subst}
use mathlib.Core.Bool.{Bool, true, false, cond}
use mathlib.Core.List.{List, [], ◌∷◌, ◌++◌}
use mathlib.Core.Logic.{◌⊎◌, inl, inr}
use Prim.Native.Nat.{ℕ, zero, suc, ◌+◌, ◌*◌, ◌/◌, ◌%◌, ◌<◌, ◌≤◌}
use native.Mathlib.Omega.{arith}
use lib.Dec.{ltb, eqb}
use lib.IntN.{ℤ, pos}
use lib.ListN.{length, get_or, get_or-eq_default}
use mir.Syntax.{w32}
use mir.Val.{SFits}
use borrow.Author.Tests.{ltb-true, ltb-false, lt-ltb, eqb-true, ne_eqb}
use Rattle.words.specs.Words.{word_of, number_of}
use Rattle.words.specs.Lists.{tabulate}
use Rattle.words.proofs.Bits.{number_word}
use Rattle.words.proofs.Lists.{length_tabulate, get_d_tabulate, tabulate_ext}
use Rattle.words.proofs.Tests.{same_or_not}
use Rattle.lang.specs.Records.{count, field, is_kind}
use Rattle.lang.specs.Checks.{program_refusal}
use Rattle.lang.proofs.Refusals.{program_size, program_fours}
use Rattle.program_kerns.specs.Kerns.{changed, kern_at, packed, unpacked, kern_place, values, kerns_of}
use Rattle.program_kerns.proofs.Places.{place_le, snoc_at, snoc_end, snoc_length}
use Rattle.pack.proofs.Packing.{tabulate_get_d}
use Rattle.files.specs.Purpose.{AreI32}
use Rattle.files.proofs.Shared.{shared_by, changed_count, changed_kind, changed_operand, changed_not, changed_first, shared_index, shared_taken, kerns_few}
use Rattle.files.proofs.Kerns.{fits_kerns}
use Rattle.pl_programs.proofs.Sound.{small_fits}

-- ---- the value at its place

place_at : (v : ℤ) (ks : List ℤ) → kern_place v ks < length ks → word_of (get_or ks (kern_place v ks) (pos 0)) ≡ word_of v
unfolding kern_place
place_at v [] h = absurd (omega arith)
place_at v (k ∷ ks) h = by (eqb (word_of k) (word_of v)) refl (place_at v ks) h
  where
    by : (t : Bool) → eqb (word_of k) (word_of v) ≡ t → (kern_place v ks < length ks → word_of (get_or ks (kern_place v ks) (pos 0)) ≡ word_of v) →
        cond t 0 (suc (kern_place v ks)) < suc (length ks) → word_of (get_or (k ∷ ks) (cond t 0 (suc (kern_place v ks))) (pos 0)) ≡ word_of v
    by true e r l = eqb-true (word_of k) (word_of v) e
    by false e r l = r (omega arith)

word_same : (a b : ℤ) → SFits w32 a → SFits w32 b → word_of a ≡ word_of b → a ≡ b
word_same a b f g e = sym (number_word a f) ∙ ap number_of e ∙ number_word b g

-- ---- what holds of each kern value holds of all kerns

module _ (P : ℤ → Bool) (s : List ℤ) (each : (i : ℕ) → i < count s → is_kind 0 s i ≡ true → P (field s i 3) ≡ true) where
  shared_all : (ks : List ℤ) (v : ℤ) (t : Bool) → ((j : ℕ) → j < length ks → P (get_or ks j (pos 0)) ≡ true) → P v ≡ true → (j : ℕ) →
      j < length (cond t (ks ++ (v ∷ [])) ks) → P (get_or (cond t (ks ++ (v ∷ [])) ks) j (pos 0)) ≡ true
  shared_all ks v false h e j l = h j l
  shared_all ks v true h e j l = by (same_or_not j (length ks))
    where
      by : (j ≡ length ks) ⊎ (j ≡ length ks → ⊥) → P (get_or (ks ++ (v ∷ [])) j (pos 0)) ≡ true
      by (inl q) = rw (q, snoc_end ks v) e
      by (inr n) =
          let m : j < length ks = omega (arith, snoc_length ks v) in
          rw (snoc_at ks v j m) (h j m)

  values_all : (n : ℕ) → n ≤ count s → (j : ℕ) → j < length (values s n) → P (get_or (values s n) j (pos 0)) ≡ true
  unfolding values
  values_all zero h j l = absurd (omega arith)
  values_all (suc n) h j l = by (is_kind 0 s n) refl (values_all n (omega arith)) j l
    where
      by : (t : Bool) → is_kind 0 s n ≡ t → ((j : ℕ) → j < length (values s n) → P (get_or (values s n) j (pos 0)) ≡ true) → (j : ℕ) →
          j < length (cond t (cond (eqb (kern_place (field s n 3) (values s n)) (length (values s n))) (values s n ++ (field s n 3 ∷ [])) (values s n))
          (values s n)) →
          P (get_or (cond t (cond (eqb (kern_place (field s n 3) (values s n)) (length (values s n))) (values s n ++ (field s n 3 ∷ [])) (values s n))
          (values s n))
          j (pos 0)) ≡ true
      by true e g =
          shared_all (values s n) (field s n 3) (eqb (kern_place (field s n 3) (values s n)) (length (values s n))) g (each n (omega arith) e)
      by false e g = g

  pub kerns_all : (j : ℕ) → j < length (kerns_of s) → P (get_or (kerns_of s) j (pos 0)) ≡ true
  kerns_all = values_all (count s) (omega arith)

-- ---- a program without indices

module _ (p : List ℤ) (ok : program_refusal p ≡ 0) (fits : AreI32 p) (none : (i : ℕ) → i < count p → is_kind 1 p i ≡ false) where
  inside : (j : ℕ) → j < length p → j / 4 < count p
  inside j h = omega (arith, program_fours p ok)

  -- packed as it stands
  same : packed p [] ≡ p
  same =
      tabulate_ext (length p) (changed p (is_kind 1 p) (pos 0) (kern_at p [])) (λ j. get_or p j (pos 0)) (λ j h. rw (none (j / 4) (inside j h)))
      ∙ tabulate_get_d p (pos 0)

  abbrev place : ℕ → ℤ
  place i = pos (kern_place (field p i 3) (kerns_of p))

  pub shared_program : program_refusal (unpacked p) ≡ 0
  shared_program = ap (λ (q : List ℤ). program_refusal (unpacked q)) (sym same) ∙ shared_taken p [] ok

  pub shared_count : count (unpacked p) ≡ count p
  shared_count = changed_count p (is_kind 0 p) (pos 1) place

  shared_length : length (unpacked p) ≡ length p
  shared_length = length_tabulate (length p) (changed p (is_kind 0 p) (pos 1) place)

  pub few_kerns : length (kerns_of p) ≤ 32767
  few_kerns = subst (λ (q : List ℤ). length (kerns_of q) ≤ 32767) same (kerns_few p [] ok)

  pub kerns_fit : AreI32 (kerns_of p)
  kerns_fit = subst (λ (q : List ℤ). AreI32 (kerns_of q)) same (fits_kerns p [] fits (λ i. small_fits 0 (omega arith)))

  module _ (i : ℕ) (h : i < count p) where
    pub shared_first : (m : ℕ) → m < 2 → field (unpacked p) i m ≡ field p i m
    shared_first m l = changed_first p (is_kind 0 p) (pos 1) place i m h l

    pub shared_kern : is_kind 0 p i ≡ true → (field (unpacked p) i 2 ≡ pos 1) × (field (unpacked p) i 3 ≡ pos (kern_place (field p i 3) (kerns_of p)))
    shared_kern t = (changed_kind p (is_kind 0 p) (pos 1) place i h t, changed_operand p (is_kind 0 p) (pos 1) place i h t)

    pub shared_other : is_kind 0 p i ≡ false → (m : ℕ) → m < 4 → field (unpacked p) i m ≡ field p i m
    shared_other t m l = changed_not p (is_kind 0 p) (pos 1) place i m h l t

    kind_is : (t : Bool) → is_kind 0 p i ≡ t → is_kind 1 (unpacked p) i ≡ t
    kind_is true t = ap (λ (z : ℤ). eqb (word_of z) 1) (shared_kern t).0
    kind_is false t = ap (λ (z : ℤ). eqb (word_of z) 1) (shared_other t 2 (omega arith)) ∙ none i h

    pub placed : is_kind 0 p i ≡ true → kern_place (field p i 3) (kerns_of p) < length (kerns_of p)
    placed t =
        let a : is_kind 1 (unpacked p) i ≡ true → word_of (field (unpacked p) i 3) < length (kerns_of p) =
        subst (λ (q : List ℤ). is_kind 1 (unpacked q) i ≡ true → word_of (field (unpacked q) i 3) < length (kerns_of q)) same (shared_index p [] i h) in
        rw (shared_kern t).1 at (a (kind_is true t))

    fits_field : (m : ℕ) → SFits w32 (field p i m)
    fits_field m = rw (lt-ltb i (count p) h) (fits (4 * i + m))

    value-back : is_kind 0 p i ≡ true → get_or (kerns_of p) (kern_place (field p i 3) (kerns_of p)) (pos 0) ≡ field p i 3
    value-back t =
        word_same (get_or (kerns_of p) (kern_place (field p i 3) (kerns_of p)) (pos 0)) (field p i 3) (kerns_fit (kern_place (field p i 3) (kerns_of p)))
        (fits_field 3)
        (place_at (field p i 3) (kerns_of p) (placed t))

    kind-zero : is_kind 0 p i ≡ true → field p i 2 ≡ pos 0
    kind-zero t = word_same (field p i 2) (pos 0) (fits_field 2) (small_fits 0 (omega arith)) (eqb-true (word_of (field p i 2)) 0 t)

  -- its numbers are i32
  pub shared_fits : AreI32 (unpacked p)
  shared_fits j = by (ltb j (length p)) refl
    where
      either : (t : Bool) {x y : ℤ} → SFits w32 x → SFits w32 y → SFits w32 (cond t x y)
      either true a b = a
      either false a b = b

      by : (t : Bool) → ltb j (length p) ≡ t → SFits w32 (get_or (unpacked p) j (pos 0))
      by true e =
          rw (get_d_tabulate (length p) (changed p (is_kind 0 p) (pos 1) place) j (pos 0) (ltb-true j (length p) e))
          (either (is_kind 0 p (j / 4))
          (either (eqb (j % 4) 2) (small_fits 1 (omega arith))
          (either (eqb (j % 4) 3)
          (small_fits (kern_place (field p (j / 4) 3) (kerns_of p)) (omega (arith, place_le (field p (j / 4) 3) (kerns_of p), few_kerns))) (fits j)))
          (fits j))
      by false e =
          let l : length (unpacked p) ≤ j = omega (arith, shared_length, ltb-false j (length p) e) in
          rw (get_or-eq_default (unpacked p) (pos 0) {n = j} l) (small_fits 0 (omega arith))

  -- number j, packed again
  number_back : (j : ℕ) → j < length p → changed (unpacked p) (is_kind 1 (unpacked p)) (pos 0) (kern_at (unpacked p) (kerns_of p)) j ≡ get_or p j (pos 0)
  number_back j h = by (is_kind 0 p (j / 4)) refl
    where
      i : ℕ
      i = j / 4

      at : (m : ℕ) → j % 4 ≡ m → field p (j / 4) m ≡ get_or p j (pos 0)
      at m e =
          rw (lt-ltb (j / 4) (count p) (inside j h))
          (ap (λ (k : ℕ). get_or p k (pos 0)) (let q : 4 * (j / 4) + m ≡ j = omega arith in q))

      here : get_or (unpacked p) j (pos 0) ≡ changed p (is_kind 0 p) (pos 1) place j
      here = get_d_tabulate (length p) (changed p (is_kind 0 p) (pos 1) place) j (pos 0) h

      kinds : (a : Bool) → eqb (j % 4) 2 ≡ a → (b : Bool) → eqb (j % 4) 3 ≡ b → is_kind 0 p (j / 4) ≡ true →
          cond a (pos 0) (cond b (kern_at (unpacked p) (kerns_of p) (j / 4)) (get_or (unpacked p) j (pos 0))) ≡ get_or p j (pos 0)
      kinds true e b f t = sym (kind-zero (j / 4) (inside j h) t) ∙ at 2 (eqb-true (j % 4) 2 e)
      kinds false e true f t =
          ap (λ (z : ℤ). get_or (kerns_of p) (word_of z) (pos 0)) (shared_kern (j / 4) (inside j h) t).1 ∙ value-back (j / 4) (inside j h) t
          ∙ at 3 (eqb-true (j % 4) 3 f)
      kinds false e false f t = here ∙ rw (t, e, f)

      by : (t : Bool) → is_kind 0 p (j / 4) ≡ t →
          changed (unpacked p) (is_kind 1 (unpacked p)) (pos 0) (kern_at (unpacked p) (kerns_of p)) j ≡ get_or p j (pos 0)
      by true t = rw (kind_is (j / 4) (inside j h) true t) (kinds (eqb (j % 4) 2) refl (eqb (j % 4) 3) refl t)
      by false t = rw (kind_is (j / 4) (inside j h) false t) (here ∙ rw t)

  pub packed_back : packed (unpacked p) (kerns_of p) ≡ p
  packed_back =
      ap (λ (n : ℕ). tabulate n (changed (unpacked p) (is_kind 1 (unpacked p)) (pos 0) (kern_at (unpacked p) (kerns_of p)))) shared_length
      ∙ tabulate_ext (length p) (changed (unpacked p) (is_kind 1 (unpacked p)) (pos 0) (kern_at (unpacked p) (kerns_of p))) (λ j. get_or p j (pos 0)) number_back
      ∙ tabulate_get_d p (pos 0)
