-- `test_file_reading::put_lists` stays within the answer, as its parts do.
-- Assumes nothing.
use native.Mathlib.Omega.{arith}
use borrow.Author.Rules.{rules}
use Rattle.test_requests.proofs.Parts.{kept_none, kept_more}
use Rattle.test_file_reading.proofs.put_lists.Statement.{statement}
use Rattle.test_file_reading.proofs.put_lists.Tie as tie

put-runs-requires : tie.Need-put_runs-a-requires
put-runs-requires c κs = search rules

put-runs-requires-2 : tie.Need-put_runs-b-requires
put-runs-requires-2 c κs = search rules

put-runs-requires-3 : tie.Need-put_runs-c-requires
put-runs-requires-3 c κs = search rules

left-over-of-requires : tie.Need-left_over_of-requires
left-over-of-requires c κs = search rules

put-count-requires : tie.Need-put_count-requires
put-count-requires c κs = search rules

same_length : tie.Need-shape_of-out
same_length c = search rules

returns : tie.Need-returns
returns c =
    let k = kept_more (kept_none _ _) c.put_count.ensures in
    λ h.
    let e = c.put_runs-a.ensures h in
    let f = c.put_runs-b.ensures e.1 in
    let g = c.put_runs-c.ensures f.1 in
    (omega (arith, e.0, f.0, g.0, k.on), k.within g.1)

pub put_lists_spec : {M : Type 1} → statement M
put_lists_spec =
    tie.close
    (tie.spec
    put-runs-requires
    put-runs-requires-2
    put-runs-requires-3
    left-over-of-requires
    put-count-requires
    same_length
    returns)
