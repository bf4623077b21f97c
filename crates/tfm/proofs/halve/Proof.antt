-- `tfm::halve` meets its contract. The invariant: some halvings are left, which are enough, and they give what all of them give.
-- The measure is z. Assumes nothing.
use mathlib.Core.Path.{◌≡◌, refl, sym, ◌∙◌}
use Prim.Native.Nat.{ℕ, zero, suc, ◌+◌, ◌/◌, ◌≤◌}
use native.Mathlib.Omega.{arith}
use Rattle.tfm.specs.Scaled.{halve, multiplier}
use Rattle.tfm.proofs.Halving.{Enough, enough_start, enough_turns, enough_zero, alpha_below, halve_stops, halve_turns}
use Rattle.tfm.proofs.halve.Statement.{statement}
use Rattle.tfm.proofs.halve.Tie as tie

record Halving (size z alpha : ℕ) : Type 0 where
  left : ℕ
  enough : Enough left z alpha
  same : halve left z alpha ≡ multiplier size

turn : (size z alpha n : ℕ) → Enough n z alpha → halve n z alpha ≡ multiplier size → 8388608 ≤ z → Halving size (z / 2) (alpha + alpha)
turn size z alpha zero e s h = absurd (omega (arith, enough_zero z alpha e))
turn size z alpha (suc n) e s h = record { left = n; enough = enough_turns n z alpha e; same = sym (halve_turns n z alpha h) ∙ s }

abbrev invariant-loop : tie.invariant-loop-z
invariant-loop size z₀ alpha₀ z alpha = Halving size z alpha

abbrev decreases-loop : tie.decreases-loop-z
decreases-loop size z₀ alpha₀ z alpha = z

loop-holds : tie.Need-loop-z-init invariant-loop decreases-loop
loop-holds c = record { left = 4; enough = enough_start c.args.size c.requires; same = refl }

add-alpha : tie.Need-overflow_add-alpha invariant-loop decreases-loop
add-alpha c = let l = c.loop-z in omega (arith, alpha_below l.invariant.left l.z l.alpha l.invariant.enough)

loop-less : tie.Need-loop-z-smaller invariant-loop decreases-loop
loop-less c = omega arith

loop-again : tie.Need-loop-z-preserved invariant-loop decreases-loop
loop-again c =
    let l = c.loop-z in
    turn c.args.size l.z l.alpha l.invariant.left l.invariant.enough l.invariant.same c.loop-z-test.true

returns : tie.Need-returns invariant-loop decreases-loop
returns c =
    let l = c.loop-z in
    sym (halve_stops l.invariant.left l.z l.alpha c.loop-z-test.false) ∙ l.invariant.same

pub halve_spec : {M : Type 1} → statement M
halve_spec =
    tie.close
    (tie.spec
    invariant-loop
    decreases-loop
    loop-holds
    add-alpha
    loop-less
    loop-again
    returns)
