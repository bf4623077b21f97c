-- `font_room::byte_room` meets its contract.
-- Assumes nothing.
use Prim.Native.Nat.{ℕ}
use Rattle.font_room.proofs.Zeros.{zeroed}
use Rattle.font_room.proofs.byte_room.Statement.{statement}
use Rattle.font_room.proofs.byte_room.Tie as tie

returns : tie.Need-returns
returns c = zeroed {A = ℕ} 131068 0

pub byte_room_spec : {M : Type 1} → statement M
byte_room_spec =
    tie.close
    (tie.spec
    returns)
