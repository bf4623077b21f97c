-- `pl_labels::put_boundary` meets its contract: nothing, or its parts one after the other.
-- Assumes nothing.
use native.Mathlib.Omega.{arith}
use Rattle.pl_labels.proofs.Labels.{absent_put, boundary_put}
use borrow.Author.Rules.{rules}
use Rattle.pl_labels.proofs.put_boundary.Statement.{statement}
use Rattle.pl_labels.proofs.put_boundary.Tie as tie

add-smaller : tie.Need-overflow_add-out
add-smaller c = search rules

smaller-requires : tie.Need-min-requires
smaller-requires c κs = search rules

returns : tie.Need-returns-then-boundary-ge2147483648
returns c =
    absent_put c.args.out.now c.args.at c.args.boundary c.if-boundary-ge2147483648.true c.min.ensures

put-bytes-requires : tie.Need-put_bytes-first-requires
put-bytes-requires c κs = search rules

put-char-requires : tie.Need-put_char-end-requires
put-char-requires c κs = search rules

put-bytes-requires-2 : tie.Need-put_bytes-requires
put-bytes-requires-2 c κs = search rules

same_length : tie.Need-shape_of-out
same_length c = search rules

returns-2 : tie.Need-returns
returns-2 c =
    boundary_put c.args.boundary (omega (arith, c.if-boundary-ge2147483648.false)) c.put_bytes-first.ensures c.put_char-end.ensures c.put_bytes.ensures

pub put_boundary_spec : {M : Type 1} → statement M
put_boundary_spec =
    tie.close
    (tie.spec
    add-smaller
    smaller-requires
    returns
    put-bytes-requires
    put-char-requires
    put-bytes-requires-2
    same_length
    returns-2)
