-- `step_quick::kern::give_kern` meets its contract, by whether the op is there.
-- Assumes nothing.
use native.Mathlib.Omega.{arith}
use borrow.Author.Tests.{lt-ltb, le-ltb}
use Rattle.words.proofs.Bits.{number_word}
use Rattle.captions.specs.Tables.{op_count, op_value}
use borrow.Author.Rules.{rules}
use Rattle.step_quick.proofs.kern.give_kern.Statement.{statement}
use Rattle.step_quick.proofs.kern.give_kern.Tie as tie

returns : tie.Need-returns-then-ops-op
returns c = let a = c.args in rw (le-ltb a.s.op (op_count a.ops.now) c.if-ops-op.true)

after-op-requires : tie.Need-after_op-state-requires
after-op-requires c κs = search rules

mul-value : tie.Need-overflow_mul-value
mul-value c = search rules

add-value : tie.Need-overflow_add-value
add-value c = search rules

mul-value-2 : tie.Need-offset_bounds-ops-op
mul-value-2 c = search rules

shared-slice-copy-out-value : tie.Need-bounds-ops-op
shared-slice-copy-out-value c = search rules

returns-2 : tie.Need-returns
returns-2 c =
    let a = c.args in
    rw (
      lt-ltb a.s.op (op_count a.ops.now) c.if-ops-op.false,
      number_word (op_value a.ops.now a.s.op) (record { sfits = c.value-1.given }),
      c.after_op-state.ensures.0 (omega (arith, c.if-ops-op.false)),
    )

pub give_kern_spec : {M : Type 1} → statement M
give_kern_spec =
    tie.close
    (tie.spec
    returns
    after-op-requires
    mul-value
    add-value
    mul-value-2
    shared-slice-copy-out-value
    returns-2)
