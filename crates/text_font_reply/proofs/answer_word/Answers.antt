-- `text_font_reply::answer_word` meets its contract: the number of a word with what is no letter, or what `answer_table` answers.
-- Assumes nothing.
use Rattle.std.proofs.Common.{ℤ, length, subst}
use Rattle.words.specs.Words.{word_of, number_of}
use Rattle.words.proofs.Bits.{number_word}
use Rattle.text_font_reply.specs.Answering.{AnswersBytes, fresh_bytes, fresh_number}
use Rattle.text_font_reply.proofs.Laws.{word_refused, word_taken}
use Rattle.text_font_reply.proofs.answer_word.Goals as goal

pub returns-then-none-ne0 : goal.returns-then-none-ne0
returns-then-none-ne0 c =
    let a = c.args in
    let x = c.refuse_word in
    word_refused a.pairs.now a.ops.now a.loops.now a.boundary a.letters a.word.now a.reply.now x.result
    x.new.reply c.letters_refusal-none.result c.letters_refusal-none.ensures c.if-none-ne0.true x.ensures

pub returns : goal.returns
returns c =
    let a = c.args in
    let x = c.answer_table in
    let ps = a.pairs.now in
    let os = a.ops.now in
    let ls = a.loops.now in
    let d = x.new.reply in
    word_taken ps os ls a.boundary a.letters a.word.now a.reply.now x.result d c.letters_refusal-none.result c.letters_refusal-none.ensures
    c.if-none-ne0.false
    (subst (λ (z : ℤ). AnswersBytes (fresh_number ps os ls z a.letters a.word.now (length a.reply.now))
    (fresh_bytes ps os ls z a.letters a.word.now) a.reply.now x.result d)
    (number_word a.boundary c.ranges.boundary)
    (subst (λ (z : ℤ). AnswersBytes (fresh_number ps os ls (number_of (word_of a.boundary)) z a.word.now (length a.reply.now))
    (fresh_bytes ps os ls (number_of (word_of a.boundary)) z a.word.now) a.reply.now x.result d)
    (number_word a.letters c.ranges.letters) x.ensures))
