-- The length of a long array, by a law: to compute it costs by the length.
use Rattle.std.proofs.Common.{ℤ, pos, sym}
use Rattle.std.proofs.lemmas.List.{length-replicate}
use Rattle.test_waits.proofs.table.Goals as goal

pub returns : goal.returns
returns c = sym (length-replicate {A = ℤ} 393216 (pos 0))
