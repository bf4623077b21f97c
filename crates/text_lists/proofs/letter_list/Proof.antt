-- `text_lists::letter_list` meets its contract.
-- Assumes nothing.
use Prim.Native.Nat.{ℕ}
use Rattle.font_room.proofs.Zeros.{zeroed}
use Rattle.text_lists.proofs.letter_list.Statement.{statement}
use Rattle.text_lists.proofs.letter_list.Tie as tie

returns : tie.Need-returns
returns c = zeroed {A = ℕ} 64 0

pub letter_list_spec : {M : Type 1} → statement M
letter_list_spec =
    tie.close
    (tie.spec
    returns)
