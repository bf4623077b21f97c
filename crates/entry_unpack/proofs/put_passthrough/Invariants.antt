use Rattle.words.specs.Lists.{Filling}
use Rattle.entry_unpack.specs.Unpacking.{passthrough_at}
use Rattle.entry_unpack.proofs.put_passthrough.Given as goal

-- the places passed hold what passthrough is afterwards, and the rest is as it came
abbrev pub invariant-loop-i : goal.invariant-loop-i
invariant-loop-i l = Filling (passthrough_at l.instructions l.entry l.passthrough) l.fn.out l.out l.i
