use Rattle.std.proofs.Common.{ℕ, get_or}
use lib.IntN.{pos}
use Rattle.words.specs.Lists.{Filling}
use Rattle.read_change.specs.Fitted.{without}
use Rattle.read_change.proofs.places.remove.Given as goal

-- the places passed are written, and the rest is as it came
abbrev pub invariant-loop-i : goal.invariant-loop-i
invariant-loop-i l = Filling (λ (k : ℕ). get_or (without l.initial.i l.far l.fn.s) k (pos 0)) l.fn.s l.s l.i
