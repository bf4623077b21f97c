use Rattle.std.proofs.Common.{arith}
use Rattle.short_word_next.proofs.Laws.{too_long, member_on, outside_set, all_members}
use Rattle.short_word_next.proofs.short_refusal.Goals as goal

pub returns-then-word-gt4 : goal.returns-then-word-gt4
returns-then-word-gt4 c = too_long c.args.letters.now c.args.word.now (omega arith)

pub returns-then-not-is_member : goal.returns-then-not-is_member
returns-then-not-is_member c =
    let a = c.args in
    outside_set a.letters.now a.word.now c.loop-letter.letter-index (omega arith) c.is_member.ensures (rw c.if-not-is_member.true) c.loop-letter.invariant

pub loop-letter-preserved : goal.loop-letter-preserved
loop-letter-preserved c =
    let a = c.args in
    member_on a.letters.now a.word.now c.loop-letter.letter-index (omega arith) c.is_member.ensures (rw c.if-not-is_member.false) c.loop-letter.invariant

pub returns : goal.returns
returns c =
    all_members c.args.letters.now c.args.word.now c.loop-letter.letter-index (omega arith) (omega arith) (omega arith) c.loop-letter.invariant
