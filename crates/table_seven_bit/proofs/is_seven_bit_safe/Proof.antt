-- `table_seven_bit::is_seven_bit_safe` meets its contract: the answer, or the number of the refusal.
-- Assumes nothing.
use mathlib.Core.Path.{sym, ◌∙◌}
use Rattle.captions.proofs.Replies.{told_refused, told_is}
use borrow.Author.Rules.{rules}
use Rattle.table_seven_bit.proofs.is_seven_bit_safe.Statement.{statement}
use Rattle.table_seven_bit.proofs.is_seven_bit_safe.Tie as tie

table-refusal-requires : tie.Need-table_refusal-refusal-requires
table-refusal-requires c κs = search rules

returns : tie.Need-returns-then-refusal-ne0
returns c = told_refused _ _ _ c.table_refusal-refusal.ensures c.if-refusal-ne0.true

all-are-safe-requires : tie.Need-all_are_safe-requires
all-are-safe-requires c κs = sym c.table_refusal-refusal.ensures ∙ c.if-refusal-ne0.false

returns-2 : tie.Need-returns
returns-2 c = told_is _ _ _ _ c.table_refusal-refusal.ensures c.if-refusal-ne0.false c.all_are_safe.ensures

pub is_seven_bit_safe_spec : {M : Type 1} → statement M
is_seven_bit_safe_spec =
    tie.close
    (tie.spec
    table-refusal-requires
    returns
    all-are-safe-requires
    returns-2)
