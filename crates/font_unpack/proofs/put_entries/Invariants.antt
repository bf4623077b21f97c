use Rattle.words.specs.Lists.{Filling}
use Rattle.font_unpackings.specs.Unpackings.{moved_number}
use Rattle.font_unpack.proofs.put_entries.Given as goal

-- the first j numbers of the output are those of the entries, moved back
abbrev pub invariant-loop-j : goal.invariant-loop-j
invariant-loop-j l = Filling (moved_number l.entries l.front) l.initial.out l.out l.j
