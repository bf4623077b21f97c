use Rattle.std.proofs.Common.{◌<◌, ◌≤◌, length, arith}
use Rattle.words.specs.Words.{number_of}
use Rattle.read_change.proofs.Moving.{inserting_none, inserting_more, first_is, second_is, third_is}
use Rattle.read_change.proofs.places.insert.Goals as goal

pub loop-i-init : goal.loop-i-init
loop-i-init c =
    let a = c.args in
    let p = number_of a.first in
    let q = number_of a.second in
    let n = c.min-i.result in
    let within : n ≤ length a.s.now = omega (arith, c.min-i.ensures) in
    (inserting_none a.s.now n p q within, first_is a.s.now n p q within, second_is a.s.now n p q within)

pub loop-i-preserved : goal.loop-i-preserved
loop-i-preserved c =
    let a = c.args in
    let p = number_of a.first in
    let q = number_of a.second in
    let n = c.min-i.result in
    let within : n ≤ length a.s.now = omega (arith, c.min-i.ensures) in
    let more : c.loop-i.i < length c.loop-i.s = omega arith in
    let v = c.loop-i.invariant in (
      inserting_more a.s.now n p q within c.put_word.new.s c.loop-i.a v.0 more v.1 c.put_word.ensures,
      v.2,
      third_is a.s.now n p q within v.0 c.loop-i.auto.i c.word_at-w.ensures,
    )
