use Rattle.compiling.proofs.Stores.{Climbs}
use Rattle.compile_settle.proofs.give_up.Given as goal

-- the rows from place i of the path on are given up, each waiting for the row after it, and `next` is what the row before them waits for
abbrev pub invariant-loop-i : goal.invariant-loop-i
invariant-loop-i l = Climbs l.fn.work l.work l.h l.j l.next l.i
