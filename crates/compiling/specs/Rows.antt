-- The work buffer of compiling (R92): a row of sixteen u32 for each pair that has a rule, in ascending order. What a row says of its pair
-- is decoded here, so that each pass can be said of the rows alone.
--    0 left: 0 the boundary, else 1 + character     8 the search's path at this place; later the rows that are listed
--    1 right character                              9 the row that this one waits for
--    2 index of the rule's instruction             10 the row that finished so many-th
--    3 op byte, or 128 for a kern                  11 how many rows finished before this one
--    4 inserted character, or scaled kern          12 how many ops, at most 2 ^ 31
--    5 status: 0 new, 1 open, 2 finished, 3 never  13 first op
--    6 last code                                   14 the walk that met this one
--    7 last flag                                   15 within a left: the row that is so many-th by rule index
use Rattle.std.specs.Prelude.{◌≡◌, Bool, true, false, cond, List, ℕ, zero, suc, ◌+◌, ◌*◌, ◌<◌, ◌≤◌, ltb, eqb, length, get_or, Option as Answer, Some, None}
use Rattle.std.proofs.Math.Option.{Option, none, some}
use Rattle.words.specs.Words.{number_of}
use Rattle.words.specs.Lists.{tabulate}
use Rattle.lang.specs.Bisection.{found_by}
use Rattle.lang.specs.Operations.{retains, keeps_left, keeps_right, advance, is_standard}
use Rattle.reading.specs.Items.{Rule, free, kerned, lig, Rules}
use Rattle.reading.specs.Depth.{Pair}
use Rattle.reading.specs.Loops.{Ruled}
use Rattle.fonts.specs.Fonts.{left_of, number_of_left}

-- number f of row k
abbrev pub at : List ℕ → ℕ → ℕ → ℕ
at w k f = get_or w (16 * k + f) 0

-- the pair of row k
abbrev pub pair_at : List ℕ → ℕ → Pair
pair_at w k = record { left = left_of (at w k 0); right = at w k 1 }

-- the pair of row k, and its rule's index
abbrev pub ruled_at : List ℕ → ℕ → Ruled
ruled_at w k = record { pair = pair_at w k; index = at w k 2 }

-- the rule of numbers 3 and 4: a scaled kern by its bits where the first is 128, else a ligature that inserts the second
abbrev pub rule_of : ℕ → ℕ → Rule
rule_of op value =
    cond (eqb op 128) (kerned (number_of value)) (lig (retains (keeps_left op) (keeps_right op) (advance op)) value)

-- the rule of row k
abbrev pub rule_at : List ℕ → ℕ → Rule
rule_at w k = rule_of (at w k 3) (at w k 4)

-- the pairs of the first n rows
abbrev pub pairs : ℕ → List ℕ → List Ruled
pairs n w = tabulate n (ruled_at w)

-- row k is that of left t (0 the boundary, else 1 + character) and right r
abbrev pub is_pair : List ℕ → ℕ → ℕ → ℕ → Bool
is_pair w k t r = cond (eqb (at w k 0) t) (eqb (at w k 1) r) false

-- the row that was found before; else row n, where it passes the test
abbrev pub or_row : Option ℕ → Bool → ℕ → Option ℕ
or_row (some k) t n = some k
or_row none true n = some n
or_row none false n = none

-- the row of left t and right r among the first n
unfoldable pub row_of : List ℕ → ℕ → ℕ → ℕ → Option ℕ
row_of w zero t r = none
row_of w (suc n) t r = or_row (row_of w n t r) (is_pair w n t r) n

-- the place of row k's pair in the order of rows
abbrev pub row_key : List ℕ → ℕ → ℕ
row_key w k = 256 * at w k 0 + at w k 1

-- the row of left t and right r among the first n, as a search by halves finds it; on rows that ascend it is `row_of`
abbrev pub search_row : List ℕ → ℕ → ℕ → ℕ → Option ℕ
search_row w n t r = found_by (row_key w) n (256 * t + r)

-- what a search answers: the row of the pair, or that it is missing
abbrev pub found_row : Option ℕ → Answer ℕ
found_row none = None
found_row (some k) = Some k

-- the rule of the row that was found; a pair without a row is free
abbrev pub rule_by : List ℕ → Option ℕ → Rule
rule_by w none = free
rule_by w (some k) = rule_at w k

-- the rules that the first n rows say
abbrev pub rules : ℕ → List ℕ → Rules
rules n w l r = rule_by w (row_of w n (number_of_left l) r)

-- an op that a row can hold: a kern, or a standard op byte with a character
abbrev pub rule_fits : ℕ → ℕ → Bool
rule_fits op value = cond (eqb op 128) true (cond (ltb op 128) (cond (is_standard op) (ltb value 256) false) false)

-- Rows in ascending order, the boundary first; sixteen numbers each.
pub record Ascending (n : ℕ) (w : List ℕ) : Type 0 where
  pub room : 16 * n ≤ length w
  pub few : n ≤ 65792
  pub left : (k : ℕ) → k < n → at w k 0 < 257
  pub right : (k : ℕ) → k < n → at w k 1 < 256
  pub ascends : (k : ℕ) → suc k < n → 256 * at w k 0 + at w k 1 < 256 * at w (suc k) 0 + at w (suc k) 1

-- Rows in ascending order whose rules are written.
pub record Encoded (n : ℕ) (w : List ℕ) : Type 0 where
  pub ascending : Ascending n w
  pub ops : (k : ℕ) → k < n → rule_fits (at w k 3) (at w k 4) ≡ true

-- the numbers that the second stage leaves as they are: 0 to 4, the walk's mark (14) and the order of a left's rows (15)
pub record SameRows (n : ℕ) (w w' : List ℕ) : Type 0 where
  pub same_length : length w' ≡ length w
  pub same : (k f : ℕ) → k < n → f < 5 → at w' k f ≡ at w k f
  pub same_marks : (k : ℕ) → k < n → at w' k 14 ≡ at w k 14
  pub same_turns : (k : ℕ) → k < n → at w' k 15 ≡ at w k 15
