-- `chip_turn::chip_step` meets its contract: step over the letters of the word.
-- Assumes nothing.
use mathlib.Core.Path.{◌≡◌, sym, ◌∙◌}
use native.Mathlib.Omega.{arith}
use lib.ListN.{length}
use lib.Seq.{length-take-le}
use Rattle.words.specs.Words.{word_of, number_of}
use Rattle.words.proofs.Bits.{number_word}
use Rattle.captions.specs.Begin.{plain_options}
use Rattle.captions.specs.Steps.{step_of}
use Rattle.captions.proofs.Replies.{stepped_is}
use Rattle.chips.specs.Commands.{chip_word}
use borrow.Author.Rules.{rules}
use Rattle.chip_turn.proofs.chip_step.Statement.{statement}
use Rattle.chip_turn.proofs.chip_step.Tie as tie

-- the chip has 64 letters
long : (c : tie.Start) → length c.args.chip.letters ≡ 64
long c = c.well_formed.1.1.1.0.1.1.1.1.0.1.0.1

array-share-prefix-letters : tie.Need-slice_bounds-letters-end
array-share-prefix-letters c = omega (arith, long (c.before.before), c.requires)

slice-aggregate-step : tie.Need-slice_bounds-step-end
slice-aggregate-step c =
    sym (length-take-le c.args.chip.length c.args.chip.letters (omega (arith, long (c.before.before.before), c.requires)))

step-requires : tie.Need-step-requires
step-requires c κs = search rules

returns : tie.Need-returns
returns c =
    let a = c.args in
    stepped_is a.pairs.now a.ops.now (number_of (word_of a.boundary)) (chip_word a.chip) plain_options a.chip.state c.step.ensures
    ∙ (λ j. step_of a.pairs.now a.ops.now (number_word a.boundary c.ranges.boundary j) (chip_word a.chip) plain_options a.chip.state)

pub chip_step_spec : {M : Type 1} → statement M
chip_step_spec =
    tie.close
    (tie.spec
    array-share-prefix-letters
    slice-aggregate-step
    step-requires
    returns)
