use Rattle.std.proofs.Common.{◌≡◌, suc, ◌-◌, sym, ◌∙◌, arith}
use Rattle.short_word_next.proofs.Laws.{advanced, passed, none_yet, at_end_lem, one_longer}
use Rattle.short_word_next.proofs.next_over.Goals as goal

pub loop-i-init : goal.loop-i-init
loop-i-init c = none_yet c.args.letters.now c.args.least c.args.word.now

pub returns-in-Some : goal.returns-in-Some
returns-in-Some c =
    let a = c.args in
    let k : suc (c.loop-i.i - 1) ≡ c.loop-i.i = omega arith in
    c.word_with.ensures
    ∙ advanced a.letters.now a.least a.word.now (c.loop-i.i - 1) (omega arith) (rw k c.loop-i.invariant) c.in-Some.c
    (sym c.in-Some.is ∙ c.letter_after-later.ensures)

pub loop-i-preserved : goal.loop-i-preserved
loop-i-preserved c =
    let a = c.args in
    let k : suc (c.loop-i.i - 1) ≡ c.loop-i.i = omega arith in
    passed a.letters.now a.least a.word.now (c.loop-i.i - 1) (omega arith) (rw k c.loop-i.invariant) (sym c.in_default.is ∙ c.letter_after-later.ensures)

pub returns-then-word-eq4 : goal.returns-then-word-eq4
returns-then-word-eq4 c =
    let z : c.loop-i.i ≡ 0 = omega arith in
    c.no_word.ensures ∙ at_end_lem c.args.letters.now c.args.least c.args.word.now (rw z at c.loop-i.invariant) (omega arith)

pub returns : goal.returns
returns c =
    let z : c.loop-i.i ≡ 0 = omega arith in
    c.word_with-2.ensures ∙ one_longer c.args.letters.now c.args.least c.args.word.now (rw z at c.loop-i.invariant) (omega arith)
