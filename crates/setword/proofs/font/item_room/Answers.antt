-- The length of a long array, by a law: to compute it costs by the length.
use Rattle.std.proofs.Common.{ℤ, pos, sym}
use Rattle.std.proofs.lemmas.List.{length-replicate}
use Rattle.setword.proofs.font.item_room.Goals as goal

pub returns : goal.returns
returns c = sym (length-replicate {A = ℤ} 98304 (pos 0))
