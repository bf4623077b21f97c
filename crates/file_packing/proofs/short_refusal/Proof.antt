-- `file_packing::short_refusal` meets its contract: its tests are those of the definition, in the same order.
-- Assumes nothing.
use Rattle.lang.proofs.Refusals.{room_is, room_short}
use borrow.Author.Rules.{rules}
use Rattle.file_packing.proofs.short_refusal.Statement.{statement}
use Rattle.file_packing.proofs.short_refusal.Tie as tie

returns : tie.Need-returns-then-room-lt132096
returns c = rw (room_short 132096 _ c.if-room-lt132096.true)

returns-2 : tie.Need-returns-then-kern_room-lt32767
returns-2 c =
    rw (room_is 132096 _ c.if-room-lt132096.false, room_short 32767 _ c.if-kern_room-lt32767.true)

room-refusal-requires : tie.Need-room_refusal-requires
room-refusal-requires c κs = search rules

returns-3 : tie.Need-returns
returns-3 c =
    rw (room_is 132096 _ c.if-room-lt132096.false, room_is 32767 _ c.if-kern_room-lt32767.false) c.room_refusal.ensures

pub short_refusal_spec : {M : Type 1} → statement M
short_refusal_spec =
    tie.close
    (tie.spec
    returns
    returns-2
    room-refusal-requires
    returns-3)
