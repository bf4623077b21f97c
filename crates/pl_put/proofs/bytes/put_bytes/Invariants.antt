use lib.ListN.{take}
use Rattle.property_lists.specs.Putting.{PutsCounted}
use Rattle.pl_put.proofs.bytes.put_bytes.Given as goal

-- what is put is the text so far
abbrev pub invariant-loop-b : goal.invariant-loop-b
invariant-loop-b l = PutsCounted l.fn.out l.at (take l.b-index l.text) l.next l.out
