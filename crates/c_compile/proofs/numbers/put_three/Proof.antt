-- `c_compile::numbers::put_three` meets its contract: three stores in a row.
-- Assumes nothing.
use native.Mathlib.Omega.{arith}
use lib.ListN.{length-set}
use borrow.Author.Rules.{rules}
use Rattle.c_compile.proofs.numbers.put_three.Statement.{statement}
use Rattle.c_compile.proofs.numbers.put_three.Tie as tie

slice-write-s : tie.Need-bounds-s-0
slice-write-s c = search rules

slice-write-s-2 : tie.Need-bounds-s-1
slice-write-s-2 c = simp length-set (omega arith)

slice-write-s-3 : tie.Need-bounds-s-2
slice-write-s-3 c = search rules

same_length : tie.Need-shape_of-s
same_length c = search rules

returns : tie.Need-returns
returns c = search rules

pub put_three_spec : {M : Type 1} → statement M
put_three_spec =
    tie.close
    (tie.spec
    slice-write-s
    slice-write-s-2
    slice-write-s-3
    same_length
    returns)
