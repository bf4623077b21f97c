use mathlib.Core.Path.{◌≡◌}
use mathlib.Core.Bool.{false}
use lib.ListN.{drop}
use Rattle.property_lists.specs.Chars.{pass_over}
use Rattle.pl_blanks.proofs.pass_over.Given as goal

-- bytes that are passed change nothing
abbrev pub invariant-loop-i : goal.invariant-loop-i
invariant-loop-i l = pass_over l.all l.held (drop l.i l.text) ≡ pass_over l.all false (drop l.at l.text)
