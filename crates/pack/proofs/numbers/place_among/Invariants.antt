use Rattle.pack.proofs.Places.{Past}
use Rattle.pack.proofs.numbers.place_among.Given as goal

-- the label is none of the first p
abbrev pub invariant-loop-p : goal.invariant-loop-p
invariant-loop-p l = Past l.e l.labels l.p
