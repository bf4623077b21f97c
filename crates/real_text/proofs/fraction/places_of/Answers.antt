use native.Mathlib.Omega.{arith}
use Rattle.real_text.proofs.Fractions.{trying_first, trying_power, trying_found, trying_next, trying_last, nearest_fits, read_there}
use Rattle.real_text.proofs.fraction.places_of.Goals as goal

pub loop-count-init : goal.loop-count-init
loop-count-init c = trying_first c.args.f

pub nearest_in-requires : goal.nearest_in-requires
nearest_in-requires c = (trying_power c.loop-count.invariant, c.requires)

pub reads_as-requires : goal.reads_as-requires
reads_as-requires c =
    let p = trying_power c.loop-count.invariant in
    (p, (c.requires, omega (arith, c.nearest_in.ensures, nearest_fits c.loop-count.power c.args.f c.requires p)))

pub returns-then-reads_as : goal.returns-then-reads_as
returns-then-reads_as c =
    trying_found c.loop-count.invariant (omega arith) (read_there c.args.f c.loop-count.power c.nearest_in.ensures c.reads_as.ensures) c.if-reads_as.true

pub overflow_mul-power : goal.overflow_mul-power
overflow_mul-power c = omega (arith, trying_power c.loop-count.invariant)

pub loop-count-preserved : goal.loop-count-preserved
loop-count-preserved c =
    trying_next c.loop-count.invariant (omega arith) (read_there c.args.f c.loop-count.power c.nearest_in.ensures c.reads_as.ensures) c.if-reads_as.false

pub returns : goal.returns
returns c =
    let t = trying_last c.loop-count.invariant (omega arith) in
    (omega (arith, t.0), t.1)
