-- An index over a pair table (R135 to R137): 257 lefts (0 the boundary, 1 + c the character c) of five numbers each, 1,285 in all. The
-- first four are the rights 0 to 63, 64 to 127, 128 to 191 and 192 to 255 as bits, the lowest first: a bit is set where the left and that
-- right have a pair. The fifth is how many pairs come before those of the left. So a pair is found by a test of one bit and a count of the
-- ones below it. A look-up is said of any index and any table: a bit that is missing is no pair, and a place at which the pair does not
-- stand is wrong (R140).
use Rattle.std.specs.Prelude.{◌≡◌, Bool, true, false, cond, List, ℕ, zero, suc, ◌+◌, ◌*◌, ◌/◌, ◌%◌, ◌^◌, ℤ, ltb, leb, eqb, length, get_or}
use Rattle.std.proofs.Math.Option.{Option, none, some}
use Rattle.std.specs.Int.Count.{ones}
use Rattle.words.specs.Lists.{tabulate}
use Rattle.lang.specs.Every.{both, every}
use Rattle.lang.specs.Checks.{unless, or_else}
use Rattle.lang.specs.Answers.{list_of, room_refusal}
use Rattle.captions.specs.Tables.{pair_count, number, key_by, left_place, key_at}
use Rattle.captions.specs.Form.{key_form}
use Rattle.index.specs.declared.Looked.{Looked}
use Rattle.index.specs.declared.Looked.TheVariants.{Missing, At, Wrong}

-- ---- tests of the numbers below n

-- some number below n passes
unfoldable pub any_below : ℕ → (ℕ → Bool) → Bool
any_below zero p = false
any_below (suc n) p = cond (p n) true (any_below n p)

-- how many of them pass
unfoldable pub how_many : ℕ → (ℕ → Bool) → ℕ
how_many zero p = 0
how_many (suc n) p = how_many n p + cond (p n) 1 0

-- those that pass, as the bits of a number
unfoldable pub bits_by : ℕ → (ℕ → Bool) → ℕ
bits_by zero p = 0
bits_by (suc n) p = bits_by n p + cond (p n) (2 ^ n) 0

-- ---- the index of a table

-- one of the first n pairs has this key
abbrev pub is_among : List ℤ → ℕ → ℕ → Bool
is_among pairs n key = any_below n (λ k. eqb (key_at pairs k) key)

-- the rights from 64 × w on that have a pair with left l, among the first n pairs (R136)
abbrev pub rights_of : List ℤ → ℕ → ℕ → ℕ → ℕ
rights_of pairs n l w = bits_by 64 (λ b. is_among pairs n (key_by l (64 * w + b)))

-- how many pairs come before those of left l (R137)
abbrev pub pairs_before : List ℤ → ℕ → ℕ
pairs_before pairs l = how_many (pair_count pairs) (λ k. ltb (left_place (number pairs k 0)) l)

-- number i of the index, one of the five of left i / 5: 64 of its rights as bits, or how many pairs come before its own
abbrev pub index_number : List ℤ → ℕ → ℕ
index_number pairs i = cond (eqb (i % 5) 4) (pairs_before pairs (i / 5)) (rights_of pairs (pair_count pairs) (i / 5) (i % 5))

-- all 1,285 numbers
abbrev pub index_of_table : List ℤ → List ℕ
index_of_table pairs = tabulate 1285 (index_number pairs)

-- 7 (R138): pairs not in sixes, out of range or not ascending; 15 (R244)
abbrev pub index_refusal : List ℤ → ℕ → ℕ
index_refusal pairs room =
    or_else (unless 7 (both (eqb (length pairs % 6) 0) (every (pair_count pairs) (key_form pairs)))) (room_refusal 1285 room)

-- THE contract of fill_index: `index` is the list as it was lent, index' as it comes back
pub record FillsIndex (pairs : List ℤ) (index : List ℕ) (r : ℕ) (index' : List ℕ) : Type 0 where
  pub answer : r ≡ index_refusal pairs (length index)
  pub list : index' ≡ list_of (index_refusal pairs (length index)) 0 (length index) (index_of_table pairs)

-- ---- a pair looked up, in any index; a number past its end is 0

-- the bit of left l and right r is set
abbrev pub has_bit : List ℕ → ℕ → ℕ → Bool
has_bit index l r = both (leb r 255) (eqb (get_or index (5 * l + r / 64) 0 / 2 ^ (r % 64) % 2) 1)

-- how many ones the w numbers from `at` on have
unfoldable pub ones_from : List ℕ → ℕ → ℕ → ℕ
ones_from index at zero = 0
ones_from index at (suc w) = ones_from index at w + ones (get_or index (at + w) 0)

-- how many bits of left l are set below that of right r: those of the words before its own, and the low bits of its own
abbrev pub ones_below : List ℕ → ℕ → ℕ → ℕ
ones_below index l r = ones_from index (5 * l) (r / 64) + ones (get_or index (5 * l + r / 64) 0 % 2 ^ (r % 64))

-- where the pair of left l and right r stands (R137)
abbrev pub place_in : List ℕ → ℕ → ℕ → ℕ
place_in index l r = get_or index (5 * l + 4) 0 + ones_below index l r

-- the pair of this key stands at place k
abbrev pub stands_at : List ℤ → ℕ → ℕ → Bool
stands_at pairs key k = both (ltb k (pair_count pairs)) (eqb (key_at pairs k) key)

-- the pair of left l and right r: missing where its bit is not set, wrong where it does not stand at the place that the index says
abbrev pub looked_up : List ℕ → List ℤ → ℕ → ℕ → Looked
looked_up index pairs l r =
    cond (has_bit index l r) (cond (stands_at pairs (key_by l r) (place_in index l r)) (At (place_in index l r)) Wrong) Missing

-- what bisection finds, as a look-up answers it
abbrev pub looked_at : Option ℕ → Looked
looked_at none = Missing
looked_at (some k) = At k

-- what a look-up answers, as a place among n pairs: n where there is no pair, and more where the index is wrong
abbrev pub looked_place : ℕ → Looked → ℕ
looked_place n Missing = n
looked_place n (At k) = k
looked_place n Wrong = suc n
