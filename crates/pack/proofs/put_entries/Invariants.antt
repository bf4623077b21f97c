use Rattle.words.specs.Lists.{Filling}
use Rattle.pack.specs.Packing.{entry_number}
use Rattle.pack.proofs.put_entries.Given as goal

-- the first j numbers of the output are those of the packed entries
abbrev pub invariant-loop-j : goal.invariant-loop-j
invariant-loop-j l = Filling (entry_number l.entries l.redirects l.offset l.labels) l.fn.out l.out l.j
