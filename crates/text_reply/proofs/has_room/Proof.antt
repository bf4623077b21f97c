-- `text_reply::has_room` meets its contract.
-- Assumes nothing.
use borrow.Author.Tests.{le-leb, lt-leb}
use Rattle.text_reply.proofs.has_room.Statement.{statement}
use Rattle.text_reply.proofs.has_room.Tie as tie

returns : tie.Need-returns-then-size-le65536
returns c = rw (le-leb _ _ c.if-size-le65536.true)

returns-2 : tie.Need-returns-else-size-le65536
returns-2 c = rw (lt-leb _ _ c.if-size-le65536.false)

pub has_room_spec : {M : Type 1} → statement M
has_room_spec =
    tie.close
    (tie.spec
    returns
    returns-2)
