-- `c_steps::items::tell` meets its contract, by whether the answer is an item.
-- Assumes nothing.
use mathlib.Core.Path.{sym, ap, ◌∙◌}
use mathlib.Core.Bool.{Bool, cond}
use mathlib.Core.List.{List}
use lib.IntN.{ℤ, pos}
use lib.ListN.{set}
use Rattle.word_items.specs.ItemLists.{item_at}
use borrow.Author.Rules.{rules}
use Rattle.c_steps.proofs.items.tell.Statement.{statement}
use Rattle.c_steps.proofs.items.tell.Tie as tie

is-item-requires : tie.Need-is_item-requires
is-item-requires c κs = search rules

put-word-requires : tie.Need-put_word-requires
put-word-requires c κs = search rules

put-item-requires : tie.Need-put_item-requires
put-item-requires c κs = search rules

same_length : tie.Need-shape_of-item
same_length c = search rules

returns : tie.Need-returns-then-is_item
returns c =
    let a = c.args in
    c.put_item.ensures ∙ ap (λ (d : List ℤ). item_at d 1 a.answer) c.put_word.ensures
    ∙ sym (ap (λ (b : Bool). cond b (item_at (set a.item.now 0 (pos 1)) 1 a.answer) a.item.now)
    (sym c.is_item.ensures ∙ c.if-is_item.true))

returns-2 : tie.Need-returns-else-is_item
returns-2 c =
    let a = c.args in
    sym (ap (λ (b : Bool). cond b (item_at (set a.item.now 0 (pos 1)) 1 a.answer) a.item.now) (sym c.is_item.ensures ∙ c.if-is_item.false))

pub tell_spec : {M : Type 1} → statement M
tell_spec =
    tie.close
    (tie.spec
    is-item-requires
    put-word-requires
    put-item-requires
    same_length
    returns
    returns-2)
