use Rattle.std.proofs.Common.{ℕ}
use Rattle.words.specs.Lists.{Filling}
use Rattle.words.proofs.slices.zero_all.Given as goal

-- the elements passed are 0, and the rest as they came
abbrev pub invariant-loop-i : goal.invariant-loop-i
invariant-loop-i g l = Filling (λ (_ : ℕ). g.T.Number.ZERO) l.fn.s l.s l.i
