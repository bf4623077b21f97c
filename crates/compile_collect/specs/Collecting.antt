-- The pairs of a font that have a rule (R58), as rows in ascending order (R80): the contract of `collect`.
use Rattle.std.specs.Prelude.{◌≡◌, cond, List, [], ◌∷◌, ℕ, zero, suc, ◌<◌, ◌≤◌, ℤ, pos, leb, length, replicate}
use Rattle.lang.specs.Answers.{Reply, reply_of, list_of}
use Rattle.lang.specs.Checks.{or_else}
use Rattle.fonts.specs.Fonts.{pairs_by}
use Rattle.fonts.specs.Compiled.{long_refusal}
use Rattle.compiling.specs.declared.Collected.{Collected}
use Rattle.compiling.specs.declared.Collected.TheVariants.{Rows, Refused}
use Rattle.compiling.specs.RowNumbers.{boundary_pairs, pair_row_numbers}
use Rattle.compiling.specs.PairRows.{Collects}

-- 1 (R230) over 32,767 instructions, then 12 (R241): more pairs than the cap
abbrev pub collect_refusal : List ℤ → List ℤ → ℕ → ℕ
collect_refusal s table cap = or_else (long_refusal s) (cond (leb (length (pairs_by s table)) cap) 0 12)

-- by the answer: the rows; or the number, with the work all zeros
abbrev pub CollectsFontBy : List ℤ → List ℤ → ℕ → List ℕ → List ℕ → Collected → Type 0
CollectsFontBy s table cap w w' (Rows n e) = (collect_refusal s table cap ≡ 0) × (n ≤ cap) × Collects s table w w' n e
CollectsFontBy s table cap w w' (Refused k) = (collect_refusal s table cap ≡ k) × (0 < k) × (w' ≡ replicate (length w) 0)

-- what collect answers, as a number and values (R285): how many rows, and how many of them are the boundary's; or the number
abbrev pub collected_reply : Collected → Reply
collected_reply (Rows n e) = reply_of 0 (pos n ∷ pos e ∷ [])
collected_reply (Refused k) = record { number = k; values = [] }

-- THE contract of collect: the answer and the work by equation, and what the rows are good for
pub record CollectsFont (s table : List ℤ) (cap : ℕ) (w w' : List ℕ) (r : Collected) : Type 0 where
  pub reply : collected_reply r ≡
      reply_of (collect_refusal s table cap) (pos (length (pairs_by s table)) ∷ pos (boundary_pairs (pairs_by s table)) ∷ [])
  pub work : w' ≡ list_of (collect_refusal s table cap) 0 (length w) (pair_row_numbers (pairs_by s table))
  pub rows : CollectsFontBy s table cap w w' r

-- of n rows with those of left t, how many are the boundary's, which were e before: all after the first left
abbrev pub edge_by : ℕ → ℕ → ℕ → ℕ
edge_by zero n e = n
edge_by (suc t) n e = e
