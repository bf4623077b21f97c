-- `point_scan::both_empty` meets its contract: a sum is 0 where both numbers are.
-- Assumes nothing.
use mathlib.Core.Path.{◌≡◌, sym, ap}
use Prim.Native.Nat.{ℕ, ◌+◌}
use native.Mathlib.Omega.{arith}
use lib.Dec.{eqb}
use borrow.Author.Tests.{ne_eqb}
use Rattle.point_scan.proofs.both_empty.Statement.{statement}
use Rattle.point_scan.proofs.both_empty.Tie as tie

returns : tie.Need-returns-then-a-eq0
returns c = sym (ap (λ (k : ℕ). eqb k 0) (let e : c.args.a + c.args.b ≡ c.args.b = omega (arith, c.if-a-eq0.true) in e))

returns-2 : tie.Need-returns-else-a-eq0
returns-2 c =
    let h : c.args.a ≡ 0 → ⊥ = c.if-a-eq0.false in
    sym (ne_eqb (c.args.a + c.args.b) 0 (λ e. h (omega (arith, e))))

pub both_empty_spec : {M : Type 1} → statement M
both_empty_spec =
    tie.close
    (tie.spec
    returns
    returns-2)
