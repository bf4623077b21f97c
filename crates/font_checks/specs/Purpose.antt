-- What checking a font file is for: theorems `no-loop-file` and `loop-file` of proofs/Theorems. No contract cites this.
use Rattle.std.specs.Prelude.{◌≡◌, List, [], ℕ, ◌+◌, ◌*◌, ◌<◌, ℤ, pos, get_or, take}
use Rattle.reading.specs.Items.{Left}
use Rattle.reading.specs.Reading.{NeverEnds, Ends}
use Rattle.fonts.specs.Fonts.{number_of_left, rules_of}
use Rattle.fonts.specs.Numbers.{left_number}
use Rattle.captions.specs.Demand3.{Demand3}
use Rattle.file_fonts.specs.Meant.{meant_font}
use Rattle.font_checks.specs.declared.Checked.TheVariants as Answer
use Rattle.font_checks.specs.Checked.{ChecksFile}

-- ---- no loop

-- Of a file that is said to have no loop, over the pairs and ops that were written, without the zeroed rest: demand 3, so that every word
-- is set as it is read; and every pair ends, so that none never ends.
pub record LoopFree (file : List ℕ) (pairs ops : List ℤ) : Type 0 where
  pub demand : Demand3 (meant_font file) 0 pairs ops []
  pub every_ends : (x : Left) (y : ℕ) → Ends (rules_of (meant_font file)) x y
  pub none_never : (x : Left) (y : ℕ) → NeverEnds (rules_of (meant_font file)) x y → ⊥

-- Whatever bytes are checked, with whatever lists: where the answer is a font of 0 loops, it is so of the font that the bytes mean.
abbrev pub NoLoopFile : Type 0
NoLoopFile =
    (file : List ℕ) (instructions kerns entries lost pairs ops loops : List ℤ) (work : List ℕ) (i k e n : ℕ) (boundary left design : ℤ)
    (p o : ℕ) (instructions' kerns' entries' lost' pairs' ops' loops' : List ℤ) (work' : List ℕ) →
    ChecksFile file instructions kerns entries lost pairs ops loops work (Answer.Font i k e n boundary left design p o 0)
    instructions' kerns' entries' lost' pairs' ops' loops' work' →
    LoopFree file (take (6 * p) pairs') (take (2 * o) ops')

-- ---- loops

-- place i of a loop list, two numbers each: a pair of a left of -1 to 255 and a right of 0 to 255, whose reading in the font that the
-- bytes of a file mean never ends
pub record NamedLoop (file : List ℕ) (loops : List ℤ) (i : ℕ) : Type 0 where
  pub left : Left
  pub right : ℕ
  pub left_stands_lem : get_or loops (2 * i) (pos 0) ≡ left_number left
  pub right_stands : get_or loops (2 * i + 1) (pos 0) ≡ pos right
  pub left_fits : number_of_left left < 257
  pub right_fits : right < 256
  pub never : NeverEnds (rules_of (meant_font file)) left right

-- Whatever bytes are checked, with whatever lists: where the answer is a font of l loops, demand 3 holds of the font that the bytes mean,
-- and each of the first l places of the loop list names a pair that never ends.
abbrev pub LoopFile : Type 0
LoopFile =
    (file : List ℕ) (instructions kerns entries lost pairs ops loops : List ℤ) (work : List ℕ) (i k e n : ℕ) (boundary left design : ℤ)
    (p o l : ℕ) (instructions' kerns' entries' lost' pairs' ops' loops' : List ℤ) (work' : List ℕ) →
    ChecksFile file instructions kerns entries lost pairs ops loops work (Answer.Font i k e n boundary left design p o l)
    instructions' kerns' entries' lost' pairs' ops' loops' work' →
    Demand3 (meant_font file) l (take (6 * p) pairs') (take (2 * o) ops') (take (2 * l) loops')
    × ((j : ℕ) → j < l → NamedLoop file loops' j)
