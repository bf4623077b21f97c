-- `c_chip_step::is_turn` meets its contract: by the flag of the word, or of the item.
-- Assumes nothing.
use mathlib.Core.Path.{sym, ◌∙◌}
use Rattle.c_chips.proofs.Laws.{ready_is}
use borrow.Author.Rules.{rules}
use Rattle.c_chip_step.proofs.is_turn.Statement.{statement}
use Rattle.c_chip_step.proofs.is_turn.Tie as tie

shared-slice-read-flag-of : tie.Need-bounds-list-0
shared-slice-read-flag-of c = search rules

flag-of-requires : tie.Need-flag_of-requires
flag-of-requires c κs = search rules

returns : tie.Need-returns-then-ends
returns c = rw c.if-ends.true c.flag_of.ensures

shared-slice-read-flag-of-2 : tie.Need-bounds-list-2
shared-slice-read-flag-of-2 c = search rules

flag-of-requires-2 : tie.Need-flag_of-requires-2
flag-of-requires-2 c κs = search rules

returns-2 : tie.Need-returns
returns-2 c =
    rw c.if-ends.false (c.flag_of-2.ensures ∙ sym (ready_is c.args.list.now))

pub is_turn_spec : {M : Type 1} → statement M
is_turn_spec =
    tie.close
    (tie.spec
    shared-slice-read-flag-of
    flag-of-requires
    returns
    shared-slice-read-flag-of-2
    flag-of-requires-2
    returns-2)
