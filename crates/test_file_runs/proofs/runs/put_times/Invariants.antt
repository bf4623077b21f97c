use Rattle.test_requests.proofs.Parts.{Kept}
use Rattle.test_file_runs.proofs.runs.put_times.Given as goal

-- the place stays within the list
abbrev pub invariant-loop : goal.invariant-loop
invariant-loop l = Kept l.at l.initial.list l.list l.next
