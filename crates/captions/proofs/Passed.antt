-- A number that is passed to a check of another crate. Assumes nothing.
use mathlib.Core.Path.{◌≡◌, ap, ◌∙◌}
use Prim.Native.Nat.{ℕ}
use lib.IntN.{ℤ}
use mir.Syntax.{w32}
use mir.Val.{SFits}
use Rattle.words.specs.Words.{word_of, number_of}
use Rattle.words.proofs.Bits.{number_word}
use Rattle.lang.specs.Checks.{absent_refusal}

-- a number that was passed to `absent_refusal`
pub absent_passed : {z : ℤ} {r : ℕ} → SFits w32 z → r ≡ absent_refusal 255 (number_of (word_of z)) → r ≡ absent_refusal 255 z
absent_passed {z} f e = e ∙ ap (absent_refusal 255) (number_word z f)
