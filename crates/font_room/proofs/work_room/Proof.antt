-- `font_room::work_room` meets its contract.
-- Assumes nothing.
use Prim.Native.Nat.{ℕ}
use Rattle.font_room.proofs.Zeros.{zeroed}
use Rattle.font_room.proofs.work_room.Statement.{statement}
use Rattle.font_room.proofs.work_room.Tie as tie

returns : tie.Need-returns
returns c = zeroed {A = ℕ} 786432 0

pub work_room_spec : {M : Type 1} → statement M
work_room_spec =
    tie.close
    (tie.spec
    returns)
