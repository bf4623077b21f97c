-- On a table whose keys are of the form: the lefts ascend; as many keys come before that of a pair as the pair has pairs
-- before it; and the keys that come before a left and a right are those of the lefts before it, and one for each smaller right that has a pair. Where the pairs
-- of a left begin. Assumes nothing.
use mathlib.Core.Path.{◌≡◌, sym, ap, ap₂, ◌∙◌}
use mathlib.Core.Bool.{Bool, true}
use mathlib.Core.List.{List}
use mathlib.Core.Logic.{◌⊎◌, inl, inr}
use Prim.Native.Nat.{ℕ, zero, suc, ◌+◌, ◌-◌, ◌*◌, ◌<◌, ◌≤◌}
use native.Mathlib.Nat.{add-suc, add_assoc, eq-or-lt_of_le, le_of_suc-le-suc}
use native.Mathlib.Numerals.{add-one}
use native.Mathlib.Omega.{arith}
use lib.IntN.{ℤ}
use lib.Dec.{ltb, eqb}
use borrow.Author.Tests.{ltb-true, lt-ltb, le-ltb, eqb-true, eq-eqb, ne_eqb}
use Rattle.words.specs.Words.{word_of}
use Rattle.words.proofs.Tests.{less_or_not}
use Rattle.lang.specs.Every.{every}
use Rattle.captions.specs.Tables.{pair_count, number, key_by, left_place, key_at}
use Rattle.captions.specs.Form.{key_form}
use Rattle.captions.proofs.Bisecting.{right_small, keys_ascend}
use Rattle.index.specs.Index.{how_many, is_among, pairs_before}
use Rattle.index.proofs.Tests.{one, many_ext, many_all, many_none, many_add, many_sum, many_once, many_mono, many_le}

-- how many keys come before this one
abbrev pub keys_below : List ℤ → ℕ → ℕ
keys_below pairs key = how_many (pair_count pairs) (λ k. ltb (key_at pairs k) key)

-- a number is below the next of another where it is below it or the same
below_suc : (x k : ℕ) → one (ltb x (suc k)) ≡ one (ltb x k) + one (eqb x k)
below_suc x k = go (less_or_not x k)
  where
    go : (x < k) ⊎ (k ≤ x) → one (ltb x (suc k)) ≡ one (ltb x k) + one (eqb x k)
    go (inl h) = rw (lt-ltb x (suc k) (omega arith), lt-ltb x k h, ne_eqb x k (λ e. omega arith))
    go (inr h) = at (eq-or-lt_of_le h)
      where
        at : (k ≡ x) ⊎ (k < x) → one (ltb x (suc k)) ≡ one (ltb x k) + one (eqb x k)
        at (inl e) = rw (lt-ltb x (suc k) (omega arith), le-ltb x k h, eq-eqb x k (sym e))
        at (inr l) = rw (le-ltb x (suc k) l, le-ltb x k h, ne_eqb x k (λ e. omega arith))

-- a left decides, the rights being below 2 ^ 32
by_left : (a b l : ℕ) → b < 4294967296 → ltb (key_by a b) (key_by l 0) ≡ ltb a l
by_left a b l h = go (less_or_not a l)
  where
    go : (a < l) ⊎ (l ≤ a) → ltb (key_by a b) (key_by l 0) ≡ ltb a l
    go (inl e) = rw (lt-ltb (key_by a b) (key_by l 0) (omega arith), lt-ltb a l e)
    go (inr e) = rw (le-ltb (key_by a b) (key_by l 0) (omega arith), le-ltb a l e)

module _ (pairs : List ℤ) (form : every (pair_count pairs) (key_form pairs) ≡ true) where
  -- before a left's first right
  before_left : (l : ℕ) → keys_below pairs (key_by l 0) ≡ pairs_before pairs l
  before_left l =
      many_ext (pair_count pairs) (λ k. ltb (key_at pairs k) (key_by l 0)) (λ k. ltb (left_place (number pairs k 0)) l)
      (λ k h. by_left (left_place (number pairs k 0)) (word_of (number pairs k 1)) l (omega (arith, right_small pairs form k h)))

  -- one key more
  one_more : (key : ℕ) → keys_below pairs (suc key) ≡ keys_below pairs key + one (is_among pairs (pair_count pairs) key)
  one_more key =
      many_sum (pair_count pairs) (λ k. ltb (key_at pairs k) (suc key)) (λ k. ltb (key_at pairs k) key) (λ k. eqb (key_at pairs k) key)
      (λ k. below_suc (key_at pairs k) key)
      ∙ ap (λ (m : ℕ). keys_below pairs key + m)
      (many_once (pair_count pairs) (λ k. eqb (key_at pairs k) key)
      (λ i j h l a b. omega (arith, keys_ascend pairs form i j h l, eqb-true (key_at pairs i) key a, eqb-true (key_at pairs j) key b)))

  pub before_right : (l r : ℕ) → keys_below pairs (key_by l r) ≡ pairs_before pairs l + how_many r (λ i. is_among pairs (pair_count pairs) (key_by l i))
  unfolding how_many
  before_right l zero = before_left l ∙ omega arith
  before_right l (suc r) =
      ap (keys_below pairs) (add-suc (4294967296 * l) r) ∙ one_more (key_by l r)
      ∙ ap (λ (m : ℕ). m + one (is_among pairs (pair_count pairs) (key_by l r))) (before_right l r)
      ∙ add_assoc (pairs_before pairs l) (how_many r (λ i. is_among pairs (pair_count pairs) (key_by l i))) (one (is_among pairs (pair_count pairs) (key_by l r)))

  -- before a pair's own key
  pub before_pair : (k : ℕ) → k < pair_count pairs → keys_below pairs (key_at pairs k) ≡ k
  before_pair k h =
      let n : k + (pair_count pairs - k) ≡ pair_count pairs = omega arith in
      ap (λ (m : ℕ). how_many m (λ j. ltb (key_at pairs j) (key_at pairs k))) (sym n)
      ∙ many_add k (pair_count pairs - k) (λ j. ltb (key_at pairs j) (key_at pairs k))
      ∙ ap₂ (λ (a b : ℕ). a + b)
      (many_all k (λ j. ltb (key_at pairs j) (key_at pairs k)) (λ j l. lt-ltb (key_at pairs j) (key_at pairs k) (keys_ascend pairs form j k l h)))
      (many_none (pair_count pairs - k) (λ j. ltb (key_at pairs (k + j)) (key_at pairs k)) (λ j l. le-ltb (key_at pairs (k + j)) (key_at pairs k) (from_on j l)))
      ∙ omega arith
    where
      from_on : (j : ℕ) → j < pair_count pairs - k → key_at pairs k ≤ key_at pairs (k + j)
      from_on zero l = let e : k + 0 ≡ k = omega arith in let z : key_at pairs (k + 0) ≡ key_at pairs k = ap (key_at pairs) e in omega arith
      from_on (suc j) l = omega (arith, keys_ascend pairs form k (k + suc j) (omega arith) (omega arith))

  -- ---- where the pairs of a left begin

  lefts_ascend : (i j : ℕ) → i < j → j < pair_count pairs → left_place (number pairs i 0) ≤ left_place (number pairs j 0)
  lefts_ascend i j h l = omega (arith, keys_ascend pairs form i j h l, right_small pairs form i (omega arith), right_small pairs form j l)

  pub before_mono : (l m : ℕ) → l ≤ m → pairs_before pairs l ≤ pairs_before pairs m
  before_mono l m h =
      many_mono (pair_count pairs) (λ k. ltb (left_place (number pairs k 0)) l) (λ k. ltb (left_place (number pairs k 0)) m)
      (λ k _ e. lt-ltb (left_place (number pairs k 0)) m (omega (arith, ltb-true (left_place (number pairs k 0)) l e)))

  pub before_all : (l : ℕ) → pairs_before pairs l ≤ pair_count pairs
  before_all l = many_le (pair_count pairs) (λ k. ltb (left_place (number pairs k 0)) l)

  module _ (l k : ℕ) (h : k < pair_count pairs) where
    abbrev isBefore : ℕ → Bool
    isBefore j = ltb (left_place (number pairs j 0)) l

    -- pair k is of a left before it, and so are those before k
    pub goes_on : left_place (number pairs k 0) < l → k + 1 ≤ pairs_before pairs l
    goes_on e =
        let n : k + 1 + (pair_count pairs - (k + 1)) ≡ pair_count pairs = omega arith in
        let s = many_add (k + 1) (pair_count pairs - (k + 1)) isBefore in
        omega (
          arith,
          rw n at s,
          many_all (k + 1) isBefore (λ j i. lt-ltb (left_place (number pairs j 0)) l (smaller j (eq-or-lt_of_le (le_of_suc-le-suc (rw add-one at i))))),
        )
      where
        smaller : (j : ℕ) → (j ≡ k) ⊎ (j < k) → left_place (number pairs j 0) < l
        smaller j (inl i) = rw i e
        smaller j (inr i) = omega (arith, lefts_ascend j k i h)

    -- pair k is not, and none after it is
    pub begins_by : l ≤ left_place (number pairs k 0) → pairs_before pairs l ≤ k
    begins_by e =
        let n : k + (pair_count pairs - k) ≡ pair_count pairs = omega arith in
        let s = many_add k (pair_count pairs - k) isBefore in
        omega (
          arith,
          rw n at s,
          many_le k isBefore,
          many_none (pair_count pairs - k) (λ j. isBefore (k + j)) (λ j i. le-ltb (left_place (number pairs (k + j) 0)) l (later j i)),
        )
      where
        later : (j : ℕ) → j < pair_count pairs - k → l ≤ left_place (number pairs (k + j) 0)
        later zero i = let z : k + 0 ≡ k = omega arith in rw z e
        later (suc j) i = omega (arith, lefts_ascend k (k + suc j) (omega arith) (omega arith))
