-- `c_word_write::put_values` meets its contract: three stores in a row.
-- Assumes nothing.
use mathlib.Core.Path.{ap}
use Prim.Native.Nat.{ℕ}
use native.Mathlib.Omega.{arith}
use lib.ListN.{set, length-set}
use borrow.Author.Rules.{rules}
use Rattle.c_word_write.proofs.put_values.Statement.{statement}
use Rattle.c_word_write.proofs.put_values.Tie as tie

more-number-requires : tie.Need-more_number-requires
more-number-requires c κs = search rules

slice-write-values : tie.Need-bounds-values-0
slice-write-values c = search rules

slice-write-values-2 : tie.Need-bounds-values-1
slice-write-values-2 c = simp length-set (omega arith)

slice-write-values-3 : tie.Need-bounds-values-2
slice-write-values-3 c = search rules

same_length : tie.Need-shape_of-values
same_length c = search rules

returns : tie.Need-returns
returns c =
    let a = c.args in
    ap (λ (n : ℕ). set (set (set a.values.now 0 n) 1 a.told.word.length) 2 a.told.count) c.more_number.ensures

pub put_values_spec : {M : Type 1} → statement M
put_values_spec =
    tie.close
    (tie.spec
    more-number-requires
    slice-write-values
    slice-write-values-2
    slice-write-values-3
    same_length
    returns)
