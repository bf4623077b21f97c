-- `c_chip_write::put_seven` meets its contract: seven stores in a row.
-- Assumes nothing.
use native.Mathlib.Omega.{arith}
use lib.ListN.{length-set}
use borrow.Author.Rules.{rules}
use Rattle.c_chip_write.proofs.put_seven.Statement.{statement}
use Rattle.c_chip_write.proofs.put_seven.Tie as tie

slice-write-list : tie.Need-bounds-list-2
slice-write-list c = search rules

slice-write-list-2 : tie.Need-bounds-list-3
slice-write-list-2 c = simp length-set (omega arith)

slice-write-list-3 : tie.Need-bounds-list-4
slice-write-list-3 c = simp length-set (omega arith)

slice-write-list-4 : tie.Need-bounds-list-5
slice-write-list-4 c = simp length-set (omega arith)

slice-write-list-5 : tie.Need-bounds-list-6
slice-write-list-5 c = simp length-set (omega arith)

slice-write-list-6 : tie.Need-bounds-list-7
slice-write-list-6 c = simp length-set (omega arith)

slice-write-list-7 : tie.Need-bounds-list-8
slice-write-list-7 c = simp length-set (omega arith)

same_length : tie.Need-shape_of-list
same_length c = search rules

returns : tie.Need-returns
returns c = search rules

pub put_seven_spec : {M : Type 1} → statement M
put_seven_spec =
    tie.close
    (tie.spec
    slice-write-list
    slice-write-list-2
    slice-write-list-3
    slice-write-list-4
    slice-write-list-5
    slice-write-list-6
    slice-write-list-7
    same_length
    returns)
