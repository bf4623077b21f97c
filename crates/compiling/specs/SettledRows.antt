-- What the second stage finds out: which pairs finish, with which last, in which order, and what each of the others waits for. TFtoPL 94
-- and 95 do it by a depth-first search (R72, R84, R86).
use Rattle.std.specs.Prelude.{◌≡◌, Bool, true, false, ℕ, suc, ◌<◌}
use mathlib.Core.List.{List, [], ◌∷◌, Memᴰ}
use Rattle.std.proofs.Math.Option.{Option, none, some}
use Rattle.lang.specs.declared.operation.PostLigOperation.TheVariants.{RetainBothMoveNowhere, RetainBothMoveToInserted}
use Rattle.lang.specs.declared.operation.PostLigOperation.TheVariants.{RetainBothMoveToRight, RetainRightMoveToInserted}
use Rattle.lang.specs.declared.operation.PostLigOperation.TheVariants.{RetainRightMoveToRight, RetainLeftMoveNowhere}
use Rattle.lang.specs.declared.operation.PostLigOperation.TheVariants.{RetainLeftMoveToInserted, RetainNeitherMoveToInserted}
use Rattle.reading.specs.Items.{Left, chr, Rule, free, kerned, lig, code, flag}
use Rattle.reading.specs.Depth.{Res, Finished, Pair}
use Rattle.reading.specs.Loops.{finished, waits}
use Rattle.compiling.specs.Rows.{at, pair_at, rule_at, pairs, rules, SameRows}

-- a flag as a number: 1 where it is set, else 0
abbrev pub bit : Bool → ℕ
bit true = 1
bit false = 0

-- the finished pairs of the first n rows
abbrev pub finished_rows : ℕ → List ℕ → Finished
finished_rows n w = finished (rules n w) (pairs n w)

-- the entry that row k finishes with; none where it never finishes
abbrev pub outcome : ℕ → List ℕ → ℕ → Option Res
outcome n w k = finished_rows n w (pair_at w k).left (pair_at w k).right

-- the second pair of both_z: the last of the first with the right r, once the first has finished
abbrev pub second : ℕ → Option Res → List Pair
second r none = []
second r (some p) = record { left = chr (code p.last); right = r } ∷ []

-- the pairs whose ops and last go into those of a pair
abbrev pub consults : Rule → Finished → Left → ℕ → List Pair
consults free f l r = []
consults (kerned k) f l r = []
consults (lig RetainNeitherMoveToInserted c) f l r = []
consults (lig RetainLeftMoveToInserted c) f l r = []
consults (lig RetainRightMoveToRight c) f l r = []
consults (lig RetainBothMoveToRight c) f l r = []
consults (lig RetainRightMoveToInserted c) f l r = record { left = chr c; right = r } ∷ []
consults (lig RetainBothMoveToInserted c) f l r = record { left = chr c; right = r } ∷ []
consults (lig RetainLeftMoveNowhere c) f l r = record { left = l; right = c } ∷ []
consults (lig RetainBothMoveNowhere c) f l r = record { left = l; right = c } ∷ second r (f l c)

-- row k of w' finishes with q: status 2, the last's code and flag, and its place in the order of the m rows that finish
pub record FinishedRow (w' : List ℕ) (m k : ℕ) (q : Res) : Type 0 where
  pub status : at w' k 5 ≡ 2
  pub last_code : at w' k 6 ≡ code q.last
  pub last_flag_lem : at w' k 7 ≡ bit (flag q.last)
  pub place : at w' k 11 < m
  pub ordered : at w' (at w' k 11) 10 ≡ k

-- row k of w' never finishes: status 3, and number 9 is the row of the pair that it waits for
pub record NeverRow (n : ℕ) (w w' : List ℕ) (k : ℕ) : Type 0 where
  pub status : at w' k 5 ≡ 3
  pub row : at w' k 9 < n
  pub waits_for : pair_at w (at w' k 9) ≡ waits (rules n w) (finished_rows n w) (pair_at w k)

-- what row k of w' says, by its outcome; m rows finish
abbrev pub RowSays : ℕ → List ℕ → List ℕ → ℕ → ℕ → Option Res → Type 0
RowSays n w w' m k none = NeverRow n w w' k
RowSays n w w' m k (some q) = FinishedRow w' m k q

-- The contract of the stage: w the rows before it, w' after it, m how many finish.
pub record Settled (n : ℕ) (w w' : List ℕ) (m : ℕ) : Type 0 where
  pub rows : SameRows n w w'
  pub says : (k : ℕ) → k < n → RowSays n w w' m k (outcome n w k)
  pub order : (i : ℕ) → i < m → (at w' i 10 < n) × (at w' (at w' i 10) 5 ≡ 2) × (at w' (at w' i 10) 11 ≡ i)
  pub earlier : (k j : ℕ) → k < n → j < n → at w' k 5 ≡ 2 → at w' j 5 ≡ 2 →
      Memᴰ (pair_at w j) (consults (rule_at w k) (finished_rows n w) (pair_at w k).left (pair_at w k).right) → at w' j 11 < at w' k 11
  pub few : m < suc n
