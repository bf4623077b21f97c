-- `test_file_runs::rooms::file_room` is as long as it says: by a law, since to compute the length costs by the length.
-- Assumes nothing.
use Prim.Native.Nat.{ℕ}
use mathlib.Core.Path.{sym}
use lib.ListN.{length-replicate}
use Rattle.test_file_runs.proofs.rooms.file_room.Statement.{statement}
use Rattle.test_file_runs.proofs.rooms.file_room.Tie as tie

returns : tie.Need-returns
returns c = sym (length-replicate {A = ℕ} 131080 7)

pub file_room_spec : {M : Type 1} → statement M
file_room_spec =
    tie.close
    (tie.spec
    returns)
