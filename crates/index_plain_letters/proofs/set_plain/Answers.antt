use Rattle.std.proofs.Common.{◌+◌, ◌-◌, ◌*◌, ◌≤◌, length, get_or, refl, sym, ◌∙◌, arith}
use Rattle.word_plain_letters.specs.PlainLetters.{none_stand, letter_item}
use Rattle.word_plain_letters.proofs.Laws.{stand_left, stand_more}
use Rattle.index_plain_letters.proofs.Standing.{bit_place_lem, six_written}
use Rattle.index_plain_letters.proofs.set_plain.Goals as goal

pub loop-i-init : goal.loop-i-init
loop-i-init c = none_stand

pub bit_in-requires : goal.bit_in-requires
bit_in-requires c = (c.requires.1, (stand_left c.requires.0.some c.requires.0.small c.loop-i.invariant).1, c.if-y-gt255.false)

pub overflow_sub-l : goal.overflow_sub-l
overflow_sub-l c = omega (arith, stand_left c.requires.0.some c.requires.0.small c.loop-i.invariant)

pub loop-i-preserved : goal.loop-i-preserved
loop-i-preserved c =
    let a = c.args in
    let i = c.loop-i.i in
    let at = 6 * (a.k + i) in
    let room : at + 6 ≤ length c.loop-i.items = omega arith in
    stand_more c.loop-i.invariant (omega arith) refl c.if-y-gt255.false refl
    (bit_place_lem a.index.now c.loop-i.l (get_or a.word.now (a.read + i) 0) (sym c.bit_in.ensures ∙ c.if-bit_in.false)) (omega arith)
    (six_written c.loop-i.items c.put_six.new.items at (letter_item (c.loop-i.l - 1) (a.given + i)) room c.put_six.ensures)
