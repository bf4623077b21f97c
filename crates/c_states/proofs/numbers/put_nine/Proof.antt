-- `c_states::numbers::put_nine` meets its contract: nine stores in a row.
-- Assumes nothing.
use native.Mathlib.Omega.{arith}
use lib.ListN.{length-set}
use borrow.Author.Rules.{rules}
use Rattle.c_states.proofs.numbers.put_nine.Statement.{statement}
use Rattle.c_states.proofs.numbers.put_nine.Tie as tie

slice-write-s : tie.Need-bounds-s-0
slice-write-s c = search rules

slice-write-s-2 : tie.Need-bounds-s-1
slice-write-s-2 c = simp length-set (omega arith)

slice-write-s-3 : tie.Need-bounds-s-2
slice-write-s-3 c = simp length-set (omega arith)

slice-write-s-4 : tie.Need-bounds-s-3
slice-write-s-4 c = simp length-set (omega arith)

slice-write-s-5 : tie.Need-bounds-s-4
slice-write-s-5 c = simp length-set (omega arith)

slice-write-s-6 : tie.Need-bounds-s-5
slice-write-s-6 c = simp length-set (omega arith)

slice-write-s-7 : tie.Need-bounds-s-6
slice-write-s-7 c = simp length-set (omega arith)

slice-write-s-8 : tie.Need-bounds-s-7
slice-write-s-8 c = simp length-set (omega arith)

slice-write-s-9 : tie.Need-bounds-s-8
slice-write-s-9 c = simp length-set (omega arith)

same_length : tie.Need-shape_of-s
same_length c = simp length-set

returns : tie.Need-returns
returns c = search rules

pub put_nine_spec : {M : Type 1} → statement M
put_nine_spec =
    tie.close
    (tie.spec
    slice-write-s
    slice-write-s-2
    slice-write-s-3
    slice-write-s-4
    slice-write-s-5
    slice-write-s-6
    slice-write-s-7
    slice-write-s-8
    slice-write-s-9
    same_length
    returns)
