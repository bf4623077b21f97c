-- `c_list_read::put_counts` meets its contract: three stores in a row. Assumes nothing.
use native.Mathlib.Omega.{arith}
use lib.ListN.{length-set}
use borrow.Author.Rules.{rules}
use Rattle.c_list_read.proofs.put_counts.Statement.{statement}
use Rattle.c_list_read.proofs.put_counts.Tie as tie

slice-write-counts : tie.Need-bounds-counts-0
slice-write-counts c = search rules

slice-write-counts-2 : tie.Need-bounds-counts-1
slice-write-counts-2 c = simp length-set (omega arith)

slice-write-counts-3 : tie.Need-bounds-counts-2
slice-write-counts-3 c = simp length-set (omega arith)

same_length : tie.Need-shape_of-counts
same_length c = search rules

returns : tie.Need-returns
returns c = search rules

pub put_counts_spec : {M : Type 1} → statement M
put_counts_spec =
    tie.close
    (tie.spec
    slice-write-counts
    slice-write-counts-2
    slice-write-counts-3
    same_length
    returns)
