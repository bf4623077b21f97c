use Rattle.words.specs.Words.{number_of}
use Rattle.words.specs.Lists.{Filling}
use Rattle.pack.proofs.Packing.{packed_at}
use Rattle.pack.proofs.put_instructions.Given as goal

-- the first j numbers of the output are those of the packed instructions
abbrev pub invariant-loop-j : goal.invariant-loop-j
invariant-loop-j l = Filling (packed_at (number_of l.boundary) l.redirects l.offset l.labels l.instructions (number_of l.left)) l.fn.out l.out l.j
