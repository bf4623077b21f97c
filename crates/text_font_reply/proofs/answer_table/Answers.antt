-- `text_font_reply::answer_table` meets its contract: without a word the table and the loops alone, else with the items, or the number of the run.
-- Assumes nothing.
use Rattle.std.proofs.Common.{ℕ, ◌*◌, ◌/◌, ℤ, length, take, sym, subst}
use Rattle.words.specs.Words.{word_of, number_of}
use Rattle.words.proofs.Bits.{number_word}
use Rattle.lang.specs.declared.Written.TheVariants as written
use Rattle.lang.proofs.Records.{word_passed}
use Rattle.captions.specs.Begin.{fresh_state, plain_options}
use Rattle.word_set.specs.Setting.{items_from}
use Rattle.word_set.specs.Writing.{Tells}
use Rattle.columns.specs.Replying.{reply_bytes, WritesReply}
use Rattle.text_font_reply.specs.Answering.{AnswersBytes, fresh_bytes, fresh_number}
use Rattle.text_font_reply.proofs.Laws.{table_set}
use Rattle.text_font_reply.proofs.answer_table.Goals as goal

pub returns-in-Count : goal.returns-in-Count
returns-in-Count c =
    let a = c.args in
    let x = c.write_reply-in-Count in
    let ps = a.pairs.now in
    let os = a.ops.now in
    let ls = a.loops.now in
    let b = number_of (word_of a.boundary) in
    let items = c.item_list-items.result in
    let items' = c.set_fresh.new.items in
    let k = c.in-Count.n in
    let t = subst (λ (n : ℕ). Tells (items_from ps os b a.word.now plain_options (n / 6) (fresh_state a.word.now plain_options)) items (written.Count k) items')
    (sym c.item_list-items.ensures) c.in-Count.ensures in
    subst (λ (z : ℤ). AnswersBytes (fresh_number ps os ls z a.letters a.word.now (length a.reply.now)) (fresh_bytes ps os ls z a.letters a.word.now)
    a.reply.now x.result x.new.reply)
    (number_word a.boundary c.ranges.boundary)
    (table_set a.reply.now x.result x.new.reply ps os ls b a.word.now items items' c.item_list-items.ensures k t a.letters c.word_of.result
    (word_passed c.ranges.letters c.word_of.ensures) c.if-word_of-ge2147483648.false
    (subst (λ (z : ℤ). WritesReply (reply_bytes ps os ls z (take (6 * k) items')) a.reply.now x.result x.new.reply)
    (number_word a.letters c.ranges.letters) x.ensures))
