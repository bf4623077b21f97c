use lib.ListN.{replicate}
use Rattle.property_lists.specs.Putting.{PutsCounted}
use Rattle.pl_put.proofs.bytes.put_repeated.Given as goal

-- what is put is the byte so often
abbrev pub invariant-loop : goal.invariant-loop
invariant-loop l = PutsCounted l.fn.out l.at (replicate l.counter l.b) l.next l.out
