-- `text_lists::kern_list` meets its contract.
-- Assumes nothing.
use lib.IntN.{ℤ, pos}
use Rattle.font_room.proofs.Zeros.{zeroed}
use Rattle.text_lists.proofs.kern_list.Statement.{statement}
use Rattle.text_lists.proofs.kern_list.Tie as tie

returns : tie.Need-returns
returns c = zeroed {A = ℤ} 1024 (pos 0)

pub kern_list_spec : {M : Type 1} → statement M
kern_list_spec =
    tie.close
    (tie.spec
    returns)
