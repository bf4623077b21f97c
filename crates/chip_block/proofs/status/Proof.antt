-- `chip_block::status` meets its contract: the weights of three flags.
-- Assumes nothing.
use native.Mathlib.Omega.{arith}
use Rattle.chip_block.proofs.Laws.{weight_few}
use borrow.Author.Rules.{rules}
use Rattle.chip_block.proofs.status.Statement.{statement}
use Rattle.chip_block.proofs.status.Tie as tie

interrupts-requires : tie.Need-interrupts-interrupt-requires
interrupts-requires c κs = search rules

weight-requires : tie.Need-weight-requires
weight-requires c κs = search rules

weight-requires-2 : tie.Need-weight-requires-2
weight-requires-2 c κs = search rules

add-result : tie.Need-overflow_add-result
add-result c =
    let a = c.args in
    omega (arith, c.weight.ensures, c.weight-2.ensures, weight_few a.ready 1, weight_few a.opened 2)

weight-requires-3 : tie.Need-weight-requires-3
weight-requires-3 c κs = search rules

add-result-2 : tie.Need-overflow_add-result-2
add-result-2 c =
    let a = c.args in
    omega (
      arith,
      c.weight.ensures,
      c.weight-2.ensures,
      c.weight-3.ensures,
      weight_few a.ready 1,
      weight_few a.opened 2,
      weight_few c.interrupts-interrupt.result 4,
    )

returns : tie.Need-returns
returns c =
    rw (c.weight-3.ensures, c.weight-2.ensures, c.weight.ensures, c.interrupts-interrupt.ensures)

pub status_spec : {M : Type 1} → statement M
status_spec =
    tie.close
    (tie.spec
    interrupts-requires
    weight-requires
    weight-requires-2
    add-result
    weight-requires-3
    add-result-2
    returns)
