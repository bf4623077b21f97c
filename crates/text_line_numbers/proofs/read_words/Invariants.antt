use lib.ListN.{drop}
use Rattle.text_line_numbers.proofs.Storing.{Storing, worded}
use Rattle.text_line_numbers.proofs.read_words.Given as goal

-- the first j fields are read, and the words of their numbers stored
abbrev pub invariant-loop-j : goal.invariant-loop-j
invariant-loop-j l = Storing worded (drop l.at l.text) l.fn.word l.word 0 l.j
