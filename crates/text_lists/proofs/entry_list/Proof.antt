-- `text_lists::entry_list` meets its contract.
-- Assumes nothing.
use lib.IntN.{ℤ, pos}
use Rattle.font_room.proofs.Zeros.{zeroed}
use Rattle.text_lists.proofs.entry_list.Statement.{statement}
use Rattle.text_lists.proofs.entry_list.Tie as tie

returns : tie.Need-returns
returns c = zeroed {A = ℤ} 5040 (pos 0)

pub entry_list_spec : {M : Type 1} → statement M
entry_list_spec =
    tie.close
    (tie.spec
    returns)
