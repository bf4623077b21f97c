-- `text_lists::line_kerns` meets its contract.
-- Assumes nothing.
use lib.IntN.{ℤ, pos}
use Rattle.font_room.proofs.Zeros.{zeroed}
use Rattle.text_lists.proofs.line_kerns.Statement.{statement}
use Rattle.text_lists.proofs.line_kerns.Tie as tie

returns : tie.Need-returns
returns c = zeroed {A = ℤ} 512 (pos 0)

pub line_kerns_spec : {M : Type 1} → statement M
line_kerns_spec =
    tie.close
    (tie.spec
    returns)
