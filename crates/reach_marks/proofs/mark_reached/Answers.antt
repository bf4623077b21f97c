use Rattle.std.proofs.Common.{◌≡◌, ℕ, ℤ, ap, ◌∙◌, arith}
use Rattle.words.specs.Words.{number_of, word_of}
use Rattle.words.proofs.Bits.{number_word}
use Rattle.lang.specs.Records.{count}
use Rattle.reach_marks.specs.Marks.{marks_after, reachable}
use Rattle.reach_marks.proofs.Marks.{pass_none, pass_more}
use Rattle.reach_marks.proofs.mark_reached.Goals as goal

pub loop-i-init : goal.loop-i-init
loop-i-init c =
    let a = c.args in
    pass_none a.instructions.now a.entries.now (number_of (word_of a.left_entry)) a.marks.now c.mark_entries.new.marks c.mark_left.new.marks c.requires
    c.mark_entries.ensures c.mark_left.ensures

pub loop-i-preserved : goal.loop-i-preserved
loop-i-preserved c =
    let a = c.args in
    pass_more a.instructions.now a.entries.now (number_of (word_of a.left_entry)) c.loop-i.i c.loop-i.marks c.mark_onward.new.marks c.loop-i.invariant
    c.mark_onward.ensures

pub returns : goal.returns
returns c =
    let a = c.args in
    let e : c.loop-i.i ≡ count a.instructions.now = omega arith in
    c.loop-i.invariant
    ∙ ap (λ (k : ℕ). marks_after a.instructions.now a.entries.now (number_of (word_of a.left_entry)) k) e
    ∙ ap (λ (z : ℤ). reachable a.instructions.now a.entries.now z) (number_word a.left_entry c.ranges.left_entry)
