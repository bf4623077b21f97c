-- `c_list_read::fixed_refusal` meets its contract: the first of two numbers that is not 0. Assumes nothing.
use Rattle.lang.proofs.Refusals.{first_refusal, later_refusal_lem}
use borrow.Author.Rules.{rules}
use Rattle.c_list_read.proofs.fixed_refusal.Statement.{statement}
use Rattle.c_list_read.proofs.fixed_refusal.Tie as tie

room-refusal-requires : tie.Need-room_refusal-first-requires
room-refusal-requires c κs = search rules

returns : tie.Need-returns-then-first-ne0
returns c = first_refusal _ c.room_refusal-first.ensures c.if-first-ne0.true

room-refusal-requires-2 : tie.Need-room_refusal-requires
room-refusal-requires-2 c κs = search rules

returns-2 : tie.Need-returns
returns-2 c =
    later_refusal_lem c.room_refusal-first.ensures c.if-first-ne0.false c.room_refusal.ensures

pub fixed_refusal_spec : {M : Type 1} → statement M
fixed_refusal_spec =
    tie.close
    (tie.spec
    room-refusal-requires
    returns
    room-refusal-requires-2
    returns-2)
