-- The rows of a font, counted, and its ops (R81, R82), written: the contract of `write_ops`.
use Rattle.std.specs.Prelude.{◌≡◌, List, [], ◌∷◌, ℕ, ℤ, pos, length, replicate}
use Rattle.lang.specs.Answers.{reply_of, padded}
use Rattle.fonts.specs.Fonts.{Font, pairs_of}
use Rattle.fonts.specs.Compiled.{room_of, total_ops, loops_of_font, table_pairs, font_ops, build_refusal}
use Rattle.compiling.specs.declared.CountedFont.{CountedFont}
use Rattle.compiling.specs.declared.CountedFont.TheVariants.{Sizes, Refused}
use Rattle.compile_op_counts.specs.Counting.{CountsBy, counted_reply}

-- by the answer: the ops and zeros, or zeros alone
abbrev pub OpsBy : Font → List ℤ → List ℤ → CountedFont → Type 0
OpsBy f ops ops' (Sizes n m total r) = ops' ≡ padded (pos 0) (length ops) (font_ops f)
OpsBy f ops ops' (Refused k) = ops' ≡ replicate (length ops) (pos 0)

-- THE contract of write_ops: the answer by equation, as that of count, the ops, and what the rows are good for
pub record WritesOps (f : Font) (pairRoom loopRoom : ℕ) (ops : List ℤ) (w : List ℕ) (ops' : List ℤ) (w' : List ℕ)
    (r : CountedFont) : Type 0 where
  pub reply : counted_reply r ≡
      reply_of (build_refusal f (room_of pairRoom (length ops) loopRoom (length w)))
      (pos (length (pairs_of f)) ∷ pos (table_pairs f) ∷ pos (total_ops f) ∷ pos (length (loops_of_font f)) ∷ [])
  pub written : OpsBy f ops ops' r
  pub rows : CountsBy f (room_of pairRoom (length ops) loopRoom (length w)) w w' r
