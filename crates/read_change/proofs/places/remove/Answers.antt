use Rattle.std.proofs.Common.{◌<◌, ◌≤◌, length, arith}
use Rattle.read_change.proofs.Moving.{removing_none, removing_more}
use Rattle.read_change.proofs.places.remove.Goals as goal

pub loop-i-init : goal.loop-i-init
loop-i-init c =
    let s = c.args.s.now in
    let within : c.min-i.result ≤ length s = omega (arith, c.min-i.ensures) in
    removing_none s c.min-i.result c.min-far.result within

pub loop-i-preserved : goal.loop-i-preserved
loop-i-preserved c =
    let s = c.args.s.now in
    let within : c.min-i.result ≤ length s = omega (arith, c.min-i.ensures) in
    let more : c.loop-i.i < length c.loop-i.s = omega arith in
    removing_more s c.min-i.result c.min-far.result within c.put_word.new.s c.word_at.result c.loop-i.invariant
    c.loop-i.auto.i more c.word_at.ensures c.put_word.ensures
