use Rattle.std.proofs.Common.{◌≡◌, length, sym, ◌∙◌, arith}
use Rattle.pack.proofs.Places.{past_more, place_here, place_end}
use Rattle.pack.proofs.numbers.place_among.Goals as goal

pub loop-p-preserved : goal.loop-p-preserved
loop-p-preserved c = past_more c.args.e c.args.labels.now c.loop-p.p (omega arith) c.if-label-e.false c.loop-p.invariant

pub returns-then-label-e : goal.returns-then-label-e
returns-then-label-e c = sym (place_here c.args.e c.args.labels.now c.loop-p.p (omega arith) c.if-label-e.true c.loop-p.invariant)

pub returns : goal.returns
returns c =
    let n : length c.args.labels.now ≡ c.loop-p.p = omega arith in
    n ∙ sym (place_end c.args.e c.args.labels.now c.loop-p.p (omega arith) c.loop-p.invariant)
