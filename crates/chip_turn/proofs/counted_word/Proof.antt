-- `chip_turn::counted_word` meets its contract: one count is moved, which has room, since a word is open.
-- Assumes nothing.
use native.Mathlib.Numerals.{add-one}
use native.Mathlib.Omega.{arith}
use lib.ListN.{set}
use Rattle.chips.specs.Blocks.{caller_count}
use Rattle.chips.proofs.Turns.{low_caller, can_count_lem}
use borrow.Author.Rules.{rules}
use Rattle.chip_turn.proofs.counted_word.Statement.{statement}
use Rattle.chip_turn.proofs.counted_word.Tie as tie

cast-caller : tie.Need-overflow_cast-caller
cast-caller c = search rules

mul-counts : tie.Need-offset_bounds-counts-caller
mul-counts c = search rules

array-read-counts : tie.Need-bounds-counts-caller
array-read-counts c = omega (arith, low_caller c.args.chip c.requires.0)

add-counts : tie.Need-overflow_add-counts
add-counts c = omega (arith, can_count_lem c.args.chip c.requires.0 c.requires.1)

mul-counts-2 : tie.Need-offset_bounds-counts-caller-2
mul-counts-2 c = search rules

array-write-counts : tie.Need-bounds-counts-caller-2
array-write-counts c = omega (arith, low_caller c.args.chip c.requires.0)

returns : tie.Need-returns
returns c = let x = c.args.chip in λ j. set x.counts x.caller (add-one (caller_count x.caller x) j)

pub counted_word_spec : {M : Type 1} → statement M
counted_word_spec =
    tie.close
    (tie.spec
    cast-caller
    mul-counts
    array-read-counts
    add-counts
    mul-counts-2
    array-write-counts
    returns)
