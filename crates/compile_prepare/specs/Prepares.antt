-- The rows of a font (R92), with their rules (R58 to R61): the contract of `prepare`.
use Rattle.std.specs.Prelude.{◌≡◌, List, [], ◌∷◌, ℕ, ◌<◌, ◌≤◌, pos, length, replicate}
use Rattle.lang.specs.Answers.{Reply, reply_of, padded, list_of}
use Rattle.fonts.specs.Fonts.{Font, pairs_of, rules_of, table_of}
use Rattle.fonts.specs.Numbers.{flag_number}
use Rattle.fonts.specs.Compiled.{all_scale}
use Rattle.compiling.specs.declared.Prepared.{Prepared}
use Rattle.compiling.specs.declared.Prepared.TheVariants.{Rows, Refused}
use Rattle.compiling.specs.Rows.{at, pairs, rules, Encoded}
use Rattle.compiling.specs.LoopRows.{WalkOrder}
use Rattle.compiling.specs.RowNumbers.{boundary_pairs, font_row_numbers}
use Rattle.compile_collect.specs.Collecting.{collect_refusal}

-- 1 where there are over 32,767 instructions, 12 where there are more pairs than the cap
abbrev pub prepare_refusal : Font → ℕ → ℕ
prepare_refusal f cap = collect_refusal f.instructions (table_of f) cap

-- n rows are the font's, of which e are the boundary's
pub record FontRows (f : Font) (w : List ℕ) (n e : ℕ) : Type 0 where
  pub encoded : Encoded n w
  pub pairs_are : pairs n w ≡ pairs_of f
  pub rules_are : rules n w ≡ rules_of f
  pub turns : WalkOrder n e w
  pub new : (k : ℕ) → k < n → at w k 5 ≡ 0
  pub unmet : (k : ℕ) → k < n → at w k 14 ≡ 0
  pub count_is : n ≡ length (pairs_of f)

-- by the answer: the rows, whether every kern that is a rule scales, every number of the rows, and zeros after them; or the number, with
-- the work all zeros
abbrev pub PreparesBy : Font → ℕ → List ℕ → List ℕ → Prepared → Type 0
PreparesBy f cap w w' (Rows n e b) =
    (prepare_refusal f cap ≡ 0) × (length w' ≡ length w) × (b ≡ all_scale f) × (n ≤ cap) × FontRows f w' n e
    × (w' ≡ padded 0 (length w) (font_row_numbers f))
PreparesBy f cap w w' (Refused k) = (prepare_refusal f cap ≡ k) × (0 < k) × (w' ≡ replicate (length w) 0)

-- what prepare answers, as a number and values (R285): how many rows, how many of them are the boundary's, and 1 where every kern that is a
-- rule scales; or the number
abbrev pub prepared_reply : Prepared → Reply
prepared_reply (Rows n e b) = reply_of 0 (pos n ∷ pos e ∷ flag_number b ∷ [])
prepared_reply (Refused k) = record { number = k; values = [] }

-- THE contract of prepare: the answer and the work by equation, and what the rows are good for
pub record Prepares (f : Font) (cap : ℕ) (w w' : List ℕ) (r : Prepared) : Type 0 where
  pub reply : prepared_reply r ≡
      reply_of (prepare_refusal f cap) (pos (length (pairs_of f)) ∷ pos (boundary_pairs (pairs_of f)) ∷ flag_number (all_scale f) ∷ [])
  pub work : w' ≡ list_of (prepare_refusal f cap) 0 (length w) (font_row_numbers f)
  pub rows : PreparesBy f cap w w' r
