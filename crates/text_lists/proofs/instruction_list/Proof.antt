-- `text_lists::instruction_list` meets its contract.
-- Assumes nothing.
use lib.IntN.{ℤ, pos}
use Rattle.font_room.proofs.Zeros.{zeroed}
use Rattle.text_lists.proofs.instruction_list.Statement.{statement}
use Rattle.text_lists.proofs.instruction_list.Tie as tie

returns : tie.Need-returns
returns c = zeroed {A = ℤ} 2048 (pos 0)

pub instruction_list_spec : {M : Type 1} → statement M
instruction_list_spec =
    tie.close
    (tie.spec
    returns)
