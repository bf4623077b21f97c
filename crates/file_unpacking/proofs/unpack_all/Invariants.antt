use Rattle.file_unpacking.specs.Unpacking.{Unpacked}
use Rattle.file_unpacking.proofs.unpack_all.Given as goal

-- the entries passed are unpacked
abbrev pub invariant-loop-i : goal.invariant-loop-i
invariant-loop-i l = Unpacked l.instructions l.packed l.i l.n l.initial.entries l.initial.lost l.entries l.lost
