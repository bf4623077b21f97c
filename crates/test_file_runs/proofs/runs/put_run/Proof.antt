-- `test_file_runs::runs::put_run` stays within the answer, as both its parts do.
-- Assumes nothing.
use borrow.Author.Rules.{rules}
use Rattle.test_requests.proofs.Parts.{kept_none, kept_more}
use Rattle.test_file_runs.proofs.runs.put_run.Statement.{statement}
use Rattle.test_file_runs.proofs.runs.put_run.Tie as tie

put-count-requires : tie.Need-put_count-value-requires
put-count-requires c κs = search rules

put-one-requires : tie.Need-put_one-requires
put-one-requires c κs = search rules

same_length : tie.Need-shape_of-out
same_length c = search rules

returns : tie.Need-returns
returns c =
    let k = kept_more (kept_more (kept_none _ _) c.put_count-value.ensures) c.put_one.ensures in
    λ h. (k.on, k.within h)

pub put_run_spec : {M : Type 1} → statement M
put_run_spec =
    tie.close
    (tie.spec
    put-count-requires
    put-one-requires
    same_length
    returns)
