-- `table_numbers::op_fits` meets its contract: the tests of the words that were read are those of the numbers.
-- Assumes nothing.
use mathlib.Core.Path.{◌≡◌}
use mathlib.Core.Bool.{true}
use lib.Dec.{ltb}
use borrow.Author.Rules.{rules}
use borrow.Author.Tests.{lt-ltb, le-ltb}
use Rattle.captions.specs.Tables.{op_count, op_kind, op_value}
use Rattle.table_numbers.proofs.Records.{op_code, op_kern}
use Rattle.table_numbers.proofs.op_fits.Statement.{statement}
use Rattle.table_numbers.proofs.op_fits.Tie as tie

there : (c : tie.Else-ops-i) → ltb c.args.i (op_count c.args.ops.now) ≡ true
there c = lt-ltb c.args.i (op_count c.args.ops.now) c.if-ops-i.false

returns : tie.Need-returns-then-ops-i
returns c =
    let a = c.args in
    rw (le-ltb a.i (op_count a.ops.now) c.if-ops-i.true)

kind-at-requires : tie.Need-kind_at-kind-requires
kind-at-requires c κs = search rules

value-at-requires : tie.Need-value_at-requires
value-at-requires c κs = search rules

returns-2 : tie.Need-returns-then-kind-le1
returns-2 c =
    let a = c.args in
    rw (there c.before.before.before)
    (op_code (op_kind a.ops.now a.i) (op_value a.ops.now a.i) c.kind_at-kind.result c.value_at.result c.kind_at-kind.ensures
    c.if-kind-le1.true c.value_at.ensures)

returns-3 : tie.Need-returns
returns-3 c =
    let a = c.args in
    rw (there c.before.before) (op_kern (op_kind a.ops.now a.i) (op_value a.ops.now a.i) c.kind_at-kind.result 0 c.kind_at-kind.ensures c.if-kind-le1.false)

pub op_fits_spec : {M : Type 1} → statement M
op_fits_spec =
    tie.close
    (tie.spec
    returns
    kind-at-requires
    value-at-requires
    returns-2
    returns-3)
