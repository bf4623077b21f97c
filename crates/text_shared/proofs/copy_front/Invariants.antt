use lib.ListN.{take}
use Rattle.words.specs.Lists.{Appending}
use Rattle.text_shared.proofs.copy_front.Given as goal

-- the first j numbers stand in front
abbrev pub invariant-loop-j : goal.invariant-loop-j
invariant-loop-j l = Appending (take l.j l.from) l.initial.to l.to
