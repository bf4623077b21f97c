-- `test_file_runs::runs::put_runs` stays within the answer, as its parts do.
-- Assumes nothing.
use native.Mathlib.Omega.{arith}
use borrow.Author.Rules.{rules}
use Rattle.test_requests.proofs.Parts.{kept_none, kept_more}
use Rattle.test_file_runs.proofs.runs.put_runs.Statement.{statement}
use Rattle.test_file_runs.proofs.runs.put_runs.Tie as tie

put-count-requires : tie.Need-put_count-from-requires
put-count-requires c κs = search rules

part-requires : tie.Need-part-requires
part-requires c κs = search rules

put-each-requires : tie.Need-put_each-to-requires
put-each-requires c κs = search rules

runs-within-requires : tie.Need-runs_within-requires
runs-within-requires c κs = search rules

put-count-requires-2 : tie.Need-put_count-requires
put-count-requires-2 c κs = search rules

same_length : tie.Need-shape_of-out
same_length c = search rules

returns : tie.Need-returns
returns c =
    let k = kept_more (kept_none _ _) c.put_count-from.ensures in
    λ h. let e = c.put_each-to.ensures (k.within h) in (omega (arith, k.on, e.0), omega (arith, c.put_count.auto.out, e.1))

pub put_runs_spec : {M : Type 1} → statement M
put_runs_spec =
    tie.close
    (tie.spec
    put-count-requires
    part-requires
    put-each-requires
    runs-within-requires
    put-count-requires-2
    same_length
    returns)
