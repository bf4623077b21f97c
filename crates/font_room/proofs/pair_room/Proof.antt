-- `font_room::pair_room` meets its contract.
-- Assumes nothing.
use lib.IntN.{ℤ, pos}
use Rattle.font_room.proofs.Zeros.{zeroed}
use Rattle.font_room.proofs.pair_room.Statement.{statement}
use Rattle.font_room.proofs.pair_room.Tie as tie

returns : tie.Need-returns
returns c = zeroed {A = ℤ} 294912 (pos 0)

pub pair_room_spec : {M : Type 1} → statement M
pair_room_spec =
    tie.close
    (tie.spec
    returns)
