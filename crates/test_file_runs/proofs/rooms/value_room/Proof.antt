-- `test_file_runs::rooms::value_room` is as long as it says: by a law, since to compute the length costs by the length.
-- Assumes nothing.
use lib.IntN.{ℤ, pos}
use mathlib.Core.Path.{sym}
use lib.ListN.{length-replicate}
use Rattle.test_file_runs.proofs.rooms.value_room.Statement.{statement}
use Rattle.test_file_runs.proofs.rooms.value_room.Tie as tie

returns : tie.Need-returns
returns c = sym (length-replicate {A = ℤ} 32768 (pos 7))

pub value_room_spec : {M : Type 1} → statement M
value_room_spec =
    tie.close
    (tie.spec
    returns)
