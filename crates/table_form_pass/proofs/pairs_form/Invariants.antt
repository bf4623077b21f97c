use Rattle.table_form_pass.proofs.PassedPairs.{Passed}
use Rattle.table_form_pass.proofs.pairs_form.Given as goal

-- the pairs passed are of the form, and their ops fit and end here
abbrev pub invariant-loop-k : goal.invariant-loop-k
invariant-loop-k l = Passed l.pairs l.ops l.k l.least l.at
