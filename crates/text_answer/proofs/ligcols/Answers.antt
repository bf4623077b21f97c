-- `text_answer::ligcols` meets its contract: the length of the reply, or minus the number.
-- Assumes nothing.
use Rattle.std.proofs.Common.{◌≡◌, ◌-◌, ◌<◌, ℤ, ap, subst, sym, ◌∙◌, arith, w32, of_z}
use mir.Val.{SFits}
use Rattle.words.specs.Words.{number_of}
use Rattle.words.proofs.Bits.{number_pos, number_fits, number_word}
use Rattle.columns.specs.Ligcols.{AnswersText}
use Rattle.text_answer.proofs.TextLaws.{length_answer, number_answer}
use Rattle.text_answer.proofs.ligcols.Goals as goal

pub overflow_cast-result : goal.overflow_cast-result
overflow_cast-result c =
    let n = c.in-Count.n in
    let l : n < 2147483648 = omega (arith, (length_answer n c.in-Count.ensures).0) in
    subst (SFits w32) (number_pos n l) (number_fits n (omega (arith, l)))

pub returns-in-Count : goal.returns-in-Count
returns-in-Count c =
    let n = c.in-Count.n in
    let k = length_answer n c.in-Count.ensures in
    let l : n < 2147483648 = omega (arith, k.0) in
    subst (λ (z : ℤ). AnswersText c.args.text.now c.args.reply.now z c.answer.new.reply) (sym (number_pos n l)) k.1

pub returns-in-Refused : goal.returns-in-Refused
returns-in-Refused c =
    let n = c.in-Refused.n in
    let w = 4294967295 - (n - 1) in
    let z : number_of (of_z w32 c.number_of.result) ≡ number_of w =
    ap (λ (y : ℤ). number_of (of_z w32 y)) c.number_of.ensures ∙ number_word (number_of w) (number_fits w (omega arith)) in
    subst (λ (y : ℤ). AnswersText c.args.text.now c.args.reply.now y c.answer.new.reply) (sym z) (number_answer n c.in-Refused.ensures).2
