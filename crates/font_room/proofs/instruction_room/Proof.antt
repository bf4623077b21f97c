-- `font_room::instruction_room` meets its contract.
-- Assumes nothing.
use lib.IntN.{ℤ, pos}
use Rattle.font_room.proofs.Zeros.{zeroed}
use Rattle.font_room.proofs.instruction_room.Statement.{statement}
use Rattle.font_room.proofs.instruction_room.Tie as tie

returns : tie.Need-returns
returns c = zeroed {A = ℤ} 131068 (pos 0)

pub instruction_room_spec : {M : Type 1} → statement M
instruction_room_spec =
    tie.close
    (tie.spec
    returns)
