-- `compile_op_counts::sizes_refusal` meets its contract: proofs/Totals, test by test.
-- Assumes nothing.
use borrow.Author.Tests.{not-true, not-false}
use Rattle.compile_op_counts.proofs.Totals.{too_many, no_room, no_loop_room, taken}
use Rattle.compile_op_counts.proofs.sizes_refusal.Statement.{statement}
use Rattle.compile_op_counts.proofs.sizes_refusal.Tie as tie

returns : tie.Need-returns-then-not-scaled
returns c = let a = c.args in rw (c.if-not-scaled.true)

returns-2 : tie.Need-returns-then-total-gt2147483647
returns-2 c =
    let a = c.args in
    rw (c.if-not-scaled.false) (too_many a.total a.loops a.op_room a.loop_room c.if-total-gt2147483647.true)

returns-3 : tie.Need-returns-then-op_room-total
returns-3 c =
    let a = c.args in
    rw (c.if-not-scaled.false)
    (no_room a.total a.loops a.op_room a.loop_room c.if-total-gt2147483647.false c.if-op_room-total.true)

returns-4 : tie.Need-returns-then-loop_room-loops
returns-4 c =
    let a = c.args in
    rw (c.if-not-scaled.false)
    (no_loop_room a.total a.loops a.op_room a.loop_room c.if-total-gt2147483647.false c.if-op_room-total.false c.if-loop_room-loops.true)

returns-5 : tie.Need-returns
returns-5 c =
    let a = c.args in
    rw (c.if-not-scaled.false)
    (taken a.total a.loops a.op_room a.loop_room c.if-total-gt2147483647.false c.if-op_room-total.false c.if-loop_room-loops.false)

pub sizes_refusal_spec : {M : Type 1} → statement M
sizes_refusal_spec =
    tie.close
    (tie.spec
    returns
    returns-2
    returns-3
    returns-4
    returns-5)
