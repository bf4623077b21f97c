-- `font_free::passing::past_entry` meets its contract: proofs/Laws.
-- Assumes nothing.
use Rattle.font_free.proofs.Laws.{past_it}
use borrow.Author.Rules.{rules}
use Rattle.font_free.proofs.passing.past_entry.Statement.{statement}
use Rattle.font_free.proofs.passing.past_entry.Tie as tie

number-at-requires : tie.Need-number_at-code-requires
number-at-requires c κs = search rules

number-at-requires-2 : tie.Need-number_at-op-requires
number-at-requires-2 c κs = search rules

cast-op : tie.Need-overflow_cast-op
cast-op c = search rules

add-t8 : tie.Need-overflow_add-result
add-t8 c = search rules

returns : tie.Need-returns
returns c =
    past_it c.args.pairs.now c.args.s c.args.k c.requires.1 c.number_at-code.ensures c.number_at-op.ensures

pub past_entry_spec : {M : Type 1} → statement M
past_entry_spec =
    tie.close
    (tie.spec
    number-at-requires
    number-at-requires-2
    cast-op
    add-t8
    returns)
