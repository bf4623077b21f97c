use mathlib.Core.Path.{◌≡◌}
use Prim.Native.Nat.{◌+◌, ◌-◌}
use native.Mathlib.Omega.{arith}
use Rattle.real_text.proofs.Fractions.{digits_start, tenth_some, digit_small, digit_more, digits_end}
use Rattle.real_text.proofs.fraction.put_digits.Goals as goal

pub loop-init : goal.loop-init
loop-init c =
    let a = c.args in
    let e : a.count - 0 ≡ a.count = omega arith in
    rw e (digits_start a.out.now a.at a.count a.power a.d c.min-next.ensures c.requires.0 c.requires.1)

pub nonzero_div-rest : goal.nonzero_div-rest
nonzero_div-rest c = tenth_some c.loop.invariant (omega arith)

pub overflow_cast-rest : goal.overflow_cast-rest
overflow_cast-rest c = omega (arith, digit_small c.loop.invariant (omega arith))

pub overflow_add-rest : goal.overflow_add-rest
overflow_add-rest c = omega (arith, digit_small c.loop.invariant (omega arith))

pub nonzero_rem-rest : goal.nonzero_rem-rest
nonzero_rem-rest c = tenth_some c.loop.invariant (omega arith)

pub loop-preserved : goal.loop-preserved
loop-preserved c =
    let e : c.args.count - (c.loop.counter + 1) ≡ c.args.count - c.loop.counter - 1 = omega arith in
    rw e (digit_more c.loop.invariant (omega arith) c.put_byte-next.ensures)

pub returns : goal.returns
returns c = digits_end c.loop.invariant (omega arith)
