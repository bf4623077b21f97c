-- `tfm::magnify` meets its contract: the product is below 2 ^ 64.
-- Assumes nothing.
use Prim.Native.Nat.{ℕ, ◌*◌, ◌^◌, ◌<◌, ◌≤◌}
use native.Mathlib.Nat.{mul-le-mul}
use native.Mathlib.Omega.{arith}
use borrow.Author.Rules.{rules}
use Rattle.tfm.proofs.magnify.Statement.{statement}
use Rattle.tfm.proofs.magnify.Tie as tie

product : (z m : ℕ) → z ≤ 4294967295 → m ≤ 4294967295 → z * m < 2 ^ 64
product z m h k = omega (arith, mul-le-mul h k)

z-of-design-requires : tie.Need-z_of_design-requires
z-of-design-requires c κs = search rules

cast-result : tie.Need-overflow_cast-result
cast-result c = search rules

mul-result : tie.Need-overflow_mul-result
mul-result c = record { fits = product c.z_of_design.result c.args.magnification (omega arith) (omega arith) }

returns : tie.Need-returns
returns c = rw c.z_of_design.ensures

pub magnify_spec : {M : Type 1} → statement M
magnify_spec =
    tie.close
    (tie.spec
    z-of-design-requires
    cast-result
    mul-result
    returns)
