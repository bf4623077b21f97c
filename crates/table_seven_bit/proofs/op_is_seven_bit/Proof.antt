-- `table_seven_bit::op_is_seven_bit` meets its contract: the tests of the words that were read are those of the numbers.
-- Assumes nothing.
use Rattle.table_seven_bit.proofs.Laws.{seven_kern, seven_code}
use borrow.Author.Rules.{rules}
use Rattle.table_seven_bit.proofs.op_is_seven_bit.Statement.{statement}
use Rattle.table_seven_bit.proofs.op_is_seven_bit.Tie as tie

kind-at-requires : tie.Need-kind_at-requires
kind-at-requires c κs = search rules

returns : tie.Need-returns-then-kind_at-eq2
returns c = let a = c.args in seven_kern a.ops.now a.i c.kind_at.ensures c.if-kind_at-eq2.true

value-at-requires : tie.Need-value_at-requires
value-at-requires c κs = search rules

returns-2 : tie.Need-returns
returns-2 c =
    let a = c.args in
    seven_code a.ops.now a.i c.kind_at.ensures c.if-kind_at-eq2.false c.value_at.ensures

pub op_is_seven_bit_spec : {M : Type 1} → statement M
op_is_seven_bit_spec =
    tie.close
    (tie.spec
    kind-at-requires
    returns
    value-at-requires
    returns-2)
