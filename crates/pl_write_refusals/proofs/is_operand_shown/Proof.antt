-- `pl_write_refusals::is_operand_shown` meets its contract: one return for each kind.
-- Assumes nothing.
use Rattle.pl_write_refusals.proofs.Shown.{operand_value, operand_index, operand_op, operand_none}
use borrow.Author.Rules.{rules}
use Rattle.pl_write_refusals.proofs.is_operand_shown.Statement.{statement}
use Rattle.pl_write_refusals.proofs.is_operand_shown.Tie as tie

returns : tie.Need-returns-then-kind-eq0
returns c =
    operand_value c.args.kerns c.args.kind c.args.operand c.ranges.operand.fits c.if-kind-eq0.true

returns-2 : tie.Need-returns-then-kind-eq1
returns-2 c =
    operand_index c.args.kerns c.args.kind c.args.operand c.ranges.operand.fits c.if-kind-eq1.true

is-op-shown-requires : tie.Need-is_op_shown-requires
is-op-shown-requires c κs = search rules

returns-3 : tie.Need-returns-then-kind-eq2
returns-3 c =
    operand_op c.args.kerns c.args.kind c.args.operand c.ranges.operand.fits c.if-kind-eq2.true c.is_op_shown.ensures

returns-4 : tie.Need-returns
returns-4 c =
    operand_none c.args.kerns c.args.kind c.args.operand c.ranges.operand.fits c.if-kind-eq0.false c.if-kind-eq1.false c.if-kind-eq2.false

pub is_operand_shown_spec : {M : Type 1} → statement M
is_operand_shown_spec =
    tie.close
    (tie.spec
    returns
    returns-2
    is-op-shown-requires
    returns-3
    returns-4)
