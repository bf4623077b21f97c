use Rattle.std.proofs.Common.{◌+◌, sym, ◌∙◌}
use Rattle.lang.proofs.Every.{every_none, every_more, every_fails}
use Rattle.captions.specs.Queries.{op_is_seven_bit}
use Rattle.table_seven_bit.proofs.ops_are_seven_bit.Goals as goal

pub loop-i-init : goal.loop-i-init
loop-i-init c = every_none (λ j. op_is_seven_bit c.args.ops.now (c.args.first + j))

pub returns-then-not-op_is_seven_bit : goal.returns-then-not-op_is_seven_bit
returns-then-not-op_is_seven_bit c =
    let a = c.args in
    sym (every_fails a.count c.loop-i.i (λ j. op_is_seven_bit a.ops.now (a.first + j)) c.loop-i-test.true
    (sym c.op_is_seven_bit.ensures ∙ c.if-not-op_is_seven_bit.true))

pub loop-i-preserved : goal.loop-i-preserved
loop-i-preserved c =
    let a = c.args in
    every_more c.loop-i.i (λ j. op_is_seven_bit a.ops.now (a.first + j)) c.loop-i.invariant (sym c.op_is_seven_bit.ensures ∙ c.if-not-op_is_seven_bit.false)
