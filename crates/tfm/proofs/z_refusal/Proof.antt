-- `tfm::z_refusal` meets its contract: below the range, in it, or above it.
-- Assumes nothing.
use native.Mathlib.Omega.{arith}
use Rattle.tfm.proofs.Sizes.{z_none, z_taken, z_large}
use Rattle.tfm.proofs.z_refusal.Statement.{statement}
use Rattle.tfm.proofs.z_refusal.Tie as tie

returns : tie.Need-returns-then-z-lt1
returns c = z_none c.args.z (omega arith)

returns-2 : tie.Need-returns-then-z-le134217727
returns-2 c = z_taken c.args.z (omega arith) (omega arith)

returns-3 : tie.Need-returns-else-z-le134217727
returns-3 c = z_large c.args.z (omega arith)

pub z_refusal_spec : {M : Type 1} → statement M
z_refusal_spec =
    tie.close
    (tie.spec
    returns
    returns-2
    returns-3)
