-- `word_items::put_item` meets its contract, by whether the numbers are small.
-- Assumes nothing.
use mathlib.Core.Path.{sym, ap, ◌∙◌}
use mathlib.Core.Bool.{Bool, cond}
use Rattle.captions.specs.Replies.{answer_reply}
use Rattle.word_plain_letters.specs.PlainLetters.{six_at}
use Rattle.word_items.proofs.Laws.{test_small}
use borrow.Author.Rules.{rules}
use Rattle.word_items.proofs.put_item.Statement.{statement}
use Rattle.word_items.proofs.put_item.Tie as tie

is-small-requires : tie.Need-is_small-requires
is-small-requires c κs = search rules

write-item-requires : tie.Need-write_item-requires
write-item-requires c κs = test_small c.args.answer (sym c.is_small.ensures ∙ c.if-is_small.true)

same_length : tie.Need-shape_of-items
same_length c = search rules

returns : tie.Need-returns-then-is_small
returns c =
    let a = c.args in
    c.write_item.ensures
    ∙ ap (λ (b : Bool). cond b (six_at a.items.now a.at (answer_reply a.answer).values) a.items.now)
    (sym (sym c.is_small.ensures ∙ c.if-is_small.true))

returns-2 : tie.Need-returns-else-is_small
returns-2 c = rw (sym c.is_small.ensures ∙ c.if-is_small.false)

pub put_item_spec : {M : Type 1} → statement M
put_item_spec =
    tie.close
    (tie.spec
    is-small-requires
    write-item-requires
    same_length
    returns
    returns-2)
