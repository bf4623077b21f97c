use Prim.Native.Nat.{ℕ}
use Rattle.pl_reals.specs.Places.{FiguresEnd}
use Rattle.pl_reals.proofs.figures_end.Given as goal

-- what is passed are digits
abbrev pub invariant-loop-i : goal.invariant-loop-i
invariant-loop-i l = (r : ℕ) → FiguresEnd l.text l.i r → FiguresEnd l.text l.at r
