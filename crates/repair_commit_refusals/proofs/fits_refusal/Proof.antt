-- `repair_commit_refusals::fits_refusal` meets its contract: the first refusal that is not 0.
-- Assumes nothing.
use Rattle.lang.proofs.Refusals.{first_refusal, later_refusal_lem}
use borrow.Author.Rules.{rules}
use Rattle.repair_commit_refusals.proofs.fits_refusal.Statement.{statement}
use Rattle.repair_commit_refusals.proofs.fits_refusal.Tie as tie

room-refusal-requires : tie.Need-room_refusal-of_numbers-requires
room-refusal-requires c κs = search rules

returns : tie.Need-returns-then-of_numbers-ne0
returns c = first_refusal _ c.room_refusal-of_numbers.ensures c.if-of_numbers-ne0.true

room-refusal-requires-2 : tie.Need-room_refusal-of_bytes-requires
room-refusal-requires-2 c κs = search rules

returns-2 : tie.Need-returns-then-of_bytes-ne0
returns-2 c =
    later_refusal_lem c.room_refusal-of_numbers.ensures c.if-of_numbers-ne0.false (first_refusal _ c.room_refusal-of_bytes.ensures c.if-of_bytes-ne0.true)

room-refusal-requires-3 : tie.Need-room_refusal-requires
room-refusal-requires-3 c κs = search rules

returns-3 : tie.Need-returns
returns-3 c =
    later_refusal_lem c.room_refusal-of_numbers.ensures c.if-of_numbers-ne0.false
    (later_refusal_lem c.room_refusal-of_bytes.ensures c.if-of_bytes-ne0.false c.room_refusal.ensures)

pub fits_refusal_spec : {M : Type 1} → statement M
fits_refusal_spec =
    tie.close
    (tie.spec
    room-refusal-requires
    returns
    room-refusal-requires-2
    returns-2
    room-refusal-requires-3
    returns-3)
