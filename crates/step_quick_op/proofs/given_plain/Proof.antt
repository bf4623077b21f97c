-- `step_quick_op::given_plain` meets its contract: there is a letter.
-- Assumes nothing.
use native.Mathlib.Omega.{arith}
use Rattle.step_quick.proofs.Laws.{letter_there}
use borrow.Author.Rules.{rules}
use Rattle.step_quick_op.proofs.given_plain.Statement.{statement}
use Rattle.step_quick_op.proofs.given_plain.Tie as tie

mul-t6 : tie.Need-offset_bounds-word-read
mul-t6 c = omega (arith, (letter_there c.args.word.now c.args.s c.requires).0)

shared-slice-read-t8 : tie.Need-bounds-word-read
shared-slice-read-t8 c = (letter_there c.args.word.now c.args.s c.requires).0

moved-on-requires : tie.Need-moved_on-moved-requires
moved-on-requires c κs =
    let l = letter_there c.args.word.now c.args.s c.requires in
    (omega (arith, l.0), l.1)

plain-code-requires : tie.Need-plain_code-requires
plain-code-requires c κs = search rules

returns : tie.Need-returns
returns c = rw (c.moved_on-moved.ensures, c.plain_code.ensures)

pub given_plain_spec : {M : Type 1} → statement M
given_plain_spec =
    tie.close
    (tie.spec
    mul-t6
    shared-slice-read-t8
    moved-on-requires
    plain-code-requires
    returns)
