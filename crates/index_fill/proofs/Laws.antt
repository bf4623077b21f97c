-- An index while it is filled: zeros; one pair more; one left more; and at the end it is the index of the table.
-- Assumes nothing.
use mathlib.Core.Path.{◌≡◌, refl, sym, ap, ◌∙◌}
use mathlib.Core.Bool.{Bool, true, cond}
use mathlib.Core.List.{List}
use mathlib.Core.Logic.{◌⊎◌, inl, inr}
use Prim.Native.Nat.{ℕ, ◌+◌, ◌-◌, ◌*◌, ◌/◌, ◌%◌, ◌^◌, ◌<◌, ◌≤◌}
use native.Mathlib.Omega.{arith}
use lib.IntN.{ℤ}
use lib.Bits.{bit_or}
use lib.Dec.{ltb, eqb}
use lib.ListN.{length, get_or, set, replicate, length-append, length-replicate, length-set, get_or-replicate, get_or-append, get_or-eq_default}
use lib.Seq.{get_or-set_same, get_or-set_other, get_or-append-add, ext_get_or}
use borrow.Author.Tests.{lt-ltb, le-ltb, ne_eqb}
use Rattle.words.specs.Words.{Word, word_of}
use Rattle.words.proofs.Lists.{length_tabulate, get_d_tabulate}
use Rattle.words.proofs.Tests.{same_or_not, less_or_not}
use Rattle.lang.proofs.Records.{eqb_both}
use Rattle.lang.specs.Answers.{padded}
use Rattle.captions.specs.Tables.{pair_count, number, key_by, left_place, key_at}
use Rattle.index.specs.Index.{is_among, rights_of, pairs_before, index_number, index_of_table}
use Rattle.index.proofs.Tests.{any_none, any_more}
use Rattle.index.proofs.Bits.{bits_ext, bits_none, bits_or, and_also}
use Rattle.index_fill.specs.Filling.{filled_number, Filled}

-- ---- zeros

zero_at : (n i : ℕ) → ◌≡◌ {A = ℕ} (get_or (replicate n 0) i 0) 0
zero_at n i = go (less_or_not i n)
  where
    go : (i < n) ⊎ (n ≤ i) → ◌≡◌ {A = ℕ} (get_or (replicate n 0) i 0) 0
    go (inl h) = get_or-replicate n i 0 0 h
    go (inr h) = get_or-eq_default (replicate n 0) 0 {n = i} (simp length-replicate h)

-- number i is past the index, a count, or a word of rights
data Kind (i : ℕ) : Type 0 where
  past : 1285 ≤ i → Kind i
  count : i < 1285 → i % 5 ≡ 4 → Kind i
  rights : i < 1285 → i % 5 < 4 → Kind i

kind_of : (i : ℕ) → Kind i
kind_of i = go (less_or_not i 1285) (less_or_not (i % 5) 4)
  where
    go : (i < 1285) ⊎ (1285 ≤ i) → (i % 5 < 4) ⊎ (4 ≤ i % 5) → Kind i
    go (inr h) e = past h
    go (inl h) (inl e) = rights h e
    go (inl h) (inr e) = count h (omega arith)

module _ (pairs : List ℤ) (n m i : ℕ) where
  past_is : 1285 ≤ i → filled_number pairs n m i ≡ 0
  past_is h = rw (le-ltb i 1285 h)

  count_is : i < 1285 → i % 5 ≡ 4 → filled_number pairs n m i ≡ cond (ltb (i / 5) m) (pairs_before pairs (i / 5)) 0
  count_is h e = rw (lt-ltb i 1285 h, e)

  rights_is : i < 1285 → i % 5 < 4 → filled_number pairs n m i ≡ rights_of pairs n (i / 5) (i % 5)
  rights_is h e = rw (lt-ltb i 1285 h, ne_eqb (i % 5) 4 (λ z. omega arith))

none_filled : (pairs : List ℤ) (i : ℕ) → Kind i → filled_number pairs 0 0 i ≡ 0
none_filled pairs i (past h) = past_is pairs 0 0 i h
none_filled pairs i (count h e) = count_is pairs 0 0 i h e ∙ rw (le-ltb (i / 5) 0 (omega arith))
none_filled pairs i (rights h e) =
    rights_is pairs 0 0 i h e
    ∙ bits_none 64 (λ b. is_among pairs 0 (key_by (i / 5) (64 * (i % 5) + b))) (λ b. any_none (λ k. eqb (key_at pairs k) (key_by (i / 5) (64 * (i % 5) + b))))

pub filled_none : (pairs : List ℤ) {d : List ℕ} (k : ℕ) → d ≡ replicate k 0 → Filled pairs 0 0 d d
filled_none pairs k e =
    record { same = refl; numbers = λ i. ap (λ (t : List ℕ). get_or t i 0) e ∙ zero_at k i ∙ sym (none_filled pairs i (kind_of i)) }

-- ---- one pair more

module _ (pairs : List ℤ) (k l r : ℕ) (ls : left_place (number pairs k 0) ≡ l) (rs : word_of (number pairs k 1) ≡ r) (hl : l ≤ 256) (hr : r ≤ 255) where
  key_is : key_at pairs k ≡ key_by l r
  key_is = rw (ls, rs)

  -- its own word
  own_word : bit_or (rights_of pairs k l (r / 64)) (2 ^ (r % 64)) ≡ rights_of pairs (k + 1) l (r / 64)
  own_word =
      bits_or (λ b. is_among pairs k (key_by l (64 * (r / 64) + b))) 64 (r % 64) (omega arith)
      ∙ bits_ext 64 (and_also (λ b. is_among pairs k (key_by l (64 * (r / 64) + b))) (r % 64)) (λ b. is_among pairs (k + 1) (key_by l (64 * (r / 64) + b)))
      (λ b h. sym (any_more k (λ j. eqb (key_at pairs j) (key_by l (64 * (r / 64) + b)))
      ∙ ap (λ (t : Bool). cond t true (is_among pairs k (key_by l (64 * (r / 64) + b))))
      (ap (λ (x : ℕ). eqb x (key_by l (64 * (r / 64) + b))) key_is
      ∙ eqb_both (key_by l r) (key_by l (64 * (r / 64) + b)) b (r % 64) (λ e. omega arith) (λ e. omega arith))))

  -- any other word
  other_word : (m w : ℕ) → w < 4 → (5 * m + w ≡ 5 * l + r / 64 → ⊥) → rights_of pairs k m w ≡ rights_of pairs (k + 1) m w
  other_word m w h o =
      bits_ext 64 (λ b. is_among pairs k (key_by m (64 * w + b))) (λ b. is_among pairs (k + 1) (key_by m (64 * w + b)))
      (λ b i. sym (any_more k (λ j. eqb (key_at pairs j) (key_by m (64 * w + b)))
      ∙ ap (λ (t : Bool). cond t true (is_among pairs k (key_by m (64 * w + b))))
      (ap (λ (x : ℕ). eqb x (key_by m (64 * w + b))) key_is ∙ ne_eqb (key_by l r) (key_by m (64 * w + b)) (λ e. o (omega arith)))))

  own_is : (j : ℕ) → filled_number pairs j 0 (5 * l + r / 64) ≡ rights_of pairs j l (r / 64)
  own_is j =
      let a : (5 * l + r / 64) / 5 ≡ l = omega arith in
      let b : (5 * l + r / 64) % 5 ≡ r / 64 = omega arith in
      rights_is pairs j 0 (5 * l + r / 64) (omega arith) (omega arith) ∙ rw (a, b)

  others_kept : (i : ℕ) → Kind i → (i ≡ 5 * l + r / 64 → ⊥) → filled_number pairs k 0 i ≡ filled_number pairs (k + 1) 0 i
  others_kept i (past h) o = past_is pairs k 0 i h ∙ sym (past_is pairs (k + 1) 0 i h)
  others_kept i (count h e) o = count_is pairs k 0 i h e ∙ sym (count_is pairs (k + 1) 0 i h e)
  others_kept i (rights h e) o =
      rights_is pairs k 0 i h e ∙ other_word (i / 5) (i % 5) e (λ z. o (omega arith)) ∙ sym (rights_is pairs (k + 1) 0 i h e)

  module _ {d₀ d : List ℕ} (f : Filled pairs k 0 d₀ d) (room : 5 * l + r / 64 < length d) where
    pair-number : (i : ℕ) → (i ≡ 5 * l + r / 64) ⊎ (i ≡ 5 * l + r / 64 → ⊥) →
        get_or (set d (5 * l + r / 64) (bit_or (get_or d (5 * l + r / 64) 0) (2 ^ (r % 64)))) i 0 ≡ filled_number pairs (k + 1) 0 i
    pair-number i (inl e) =
        rw e
        (get_or-set_same d (5 * l + r / 64) (bit_or (get_or d (5 * l + r / 64) 0) (2 ^ (r % 64))) 0 room
        ∙ ap (λ (x : ℕ). bit_or x (2 ^ (r % 64))) (f.numbers (5 * l + r / 64) ∙ own_is k) ∙ own_word ∙ sym (own_is (k + 1)))
    pair-number i (inr o) =
        get_or-set_other d (5 * l + r / 64) i (bit_or (get_or d (5 * l + r / 64) 0) (2 ^ (r % 64))) 0 o ∙ f.numbers i ∙ others_kept i (kind_of i) o

    pub filled_pair : {d' : List ℕ} → d' ≡ set d (5 * l + r / 64) (bit_or (get_or d (5 * l + r / 64) 0) (2 ^ (r % 64))) → Filled pairs (k + 1) 0 d₀ d'
    filled_pair e =
        record {
          same = ap length e ∙ simp length-set f.same;
          numbers = λ i. ap (λ (t : List ℕ). get_or t i 0) e ∙ pair-number i (same_or_not i (5 * l + r / 64));
        }

-- ---- one left more

module _ (pairs : List ℤ) (n m : ℕ) where
  counts_kept : (i : ℕ) → Kind i → (i ≡ 5 * m + 4 → ⊥) → filled_number pairs n m i ≡ filled_number pairs n (m + 1) i
  counts_kept i (past h) o = past_is pairs n m i h ∙ sym (past_is pairs n (m + 1) i h)
  counts_kept i (rights h e) o = rights_is pairs n m i h e ∙ sym (rights_is pairs n (m + 1) i h e)
  counts_kept i (count h e) o = count_is pairs n m i h e ∙ go (less_or_not (i / 5) m) ∙ sym (count_is pairs n (m + 1) i h e)
    where
      go : (i / 5 < m) ⊎ (m ≤ i / 5) → cond (ltb (i / 5) m) (pairs_before pairs (i / 5)) 0 ≡ cond (ltb (i / 5) (m + 1)) (pairs_before pairs (i / 5)) 0
      go (inl l) = rw (lt-ltb (i / 5) m l, lt-ltb (i / 5) (m + 1) (omega arith))
      go (inr l) = rw (le-ltb (i / 5) m l, le-ltb (i / 5) (m + 1) (let q : i / 5 ≡ m → ⊥ = λ z. o (omega arith) in let s = same_or_not (i / 5) m in after s q))
        where
          after : (i / 5 ≡ m) ⊎ (i / 5 ≡ m → ⊥) → (i / 5 ≡ m → ⊥) → m + 1 ≤ i / 5
          after (inl z) q = absurd (q z)
          after (inr z) q = omega arith

  module _ {d₀ d : List ℕ} (f : Filled pairs n m d₀ d) (hm : m ≤ 256) (room : 5 * m + 4 < length d) where
    left_number_lem : (i : ℕ) → (i ≡ 5 * m + 4) ⊎ (i ≡ 5 * m + 4 → ⊥) → get_or (set d (5 * m + 4) (pairs_before pairs m)) i 0 ≡ filled_number pairs n (m + 1) i
    left_number_lem i (inl e) =
        let a : (5 * m + 4) / 5 ≡ m = omega arith in
        rw e
        (get_or-set_same d (5 * m + 4) (pairs_before pairs m) 0 room
        ∙ sym (count_is pairs n (m + 1) (5 * m + 4) (omega arith) (omega arith) ∙ rw (a, lt-ltb m (m + 1) (omega arith))))
    left_number_lem i (inr o) = get_or-set_other d (5 * m + 4) i (pairs_before pairs m) 0 o ∙ f.numbers i ∙ counts_kept i (kind_of i) o

    pub filled_left : {d' : List ℕ} {c : ℕ} → c ≡ pairs_before pairs m → d' ≡ set d (5 * m + 4) c → Filled pairs n (m + 1) d₀ d'
    filled_left {d'} {c} z e =
        let g : d' ≡ set d (5 * m + 4) (pairs_before pairs m) = rw z at e in
        record {
          same = ap length g ∙ simp length-set f.same;
          numbers = λ i. ap (λ (t : List ℕ). get_or t i 0) g ∙ left_number_lem i (same_or_not i (5 * m + 4));
        }

-- ---- all of it

module _ (pairs : List ℤ) {d₀ d : List ℕ} (f : Filled pairs (pair_count pairs) 257 d₀ d) (room : 1285 ≤ length d₀) where
  all_number : (i : ℕ) → (i < 1285) ⊎ (1285 ≤ i) → filled_number pairs (pair_count pairs) 257 i ≡ get_or (padded 0 (length d₀) (index_of_table pairs)) i 0
  all_number i (inl h) =
      rw (lt-ltb i 1285 h, lt-ltb (i / 5) 257 (omega arith))
      (sym (get_or-append (index_of_table pairs) (replicate (length d₀ - length (index_of_table pairs)) 0) 0 i
      (rw (length_tabulate 1285 (index_number pairs)) h) ∙ get_d_tabulate 1285 (index_number pairs) i 0 h))
  all_number i (inr h) =
      let e : length (index_of_table pairs) + (i - 1285) ≡ i = rw (length_tabulate 1285 (index_number pairs)) (omega arith) in
      past_is pairs (pair_count pairs) 257 i h
      ∙ sym (ap (λ (j : ℕ). get_or (padded 0 (length d₀) (index_of_table pairs)) j 0) (sym e)
      ∙ get_or-append-add (index_of_table pairs) (replicate (length d₀ - length (index_of_table pairs)) 0) (i - 1285) 0
      ∙ zero_at (length d₀ - length (index_of_table pairs)) (i - 1285))

  pub filled_all : d ≡ padded 0 (length d₀) (index_of_table pairs)
  filled_all =
      ext_get_or 0 d (padded 0 (length d₀) (index_of_table pairs))
      (f.same ∙ sym (simp (length-append, length-replicate, length_tabulate) (omega arith)))
      (λ i h. f.numbers i ∙ all_number i (less_or_not i 1285))

-- ---- a left that is read

pub place_read : {z : ℤ} {w p : ℕ} → Word z w → p ≡ (w + 1) % 4294967296 → left_place z ≡ p
place_read r e = sym (e ∙ ap (λ (w : ℕ). (w + 1) % 4294967296) r.is)
