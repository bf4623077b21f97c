use Rattle.std.proofs.Common.{refl, arith}
use Rattle.test_file_runs.proofs.Widening.{widened_more}
use Rattle.test_file_runs.proofs.bytes.widen.Goals as goal

pub loop-i-preserved : goal.loop-i-preserved
loop-i-preserved c =
    widened_more c.loop-i.invariant _ _ c.loop-i-test.true refl (omega (arith, c.type_inv.bytes c.loop-i.i)) c.put_word.ensures
