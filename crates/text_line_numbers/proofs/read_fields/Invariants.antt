use lib.ListN.{drop}
use Rattle.text_line_numbers.proofs.Storing.{Storing, plain}
use Rattle.text_line_numbers.proofs.read_fields.Given as goal

-- the first j fields are read, and their numbers stored
abbrev pub invariant-loop-j : goal.invariant-loop-j
invariant-loop-j l = Storing plain (drop l.at l.text) l.fn.list l.list l.place l.j
