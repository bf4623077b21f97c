-- `c_blame_write::tell_two` meets its contract: 15 where two values have no room, else both over zeros (proofs/Laws).
-- Assumes nothing.
use mathlib.Core.Path.{refl}
use borrow.Author.Rules.{rules}
use Rattle.c_blame_write.proofs.Laws.{told_short, told_two}
use Rattle.c_blame_write.proofs.tell_two.Statement.{statement}
use Rattle.c_blame_write.proofs.tell_two.Tie as tie

zero-all-requires : tie.Need-zero_all-requires
zero-all-requires c κs = search rules

same_length : tie.Need-shape_of-values-then-values-lt2
same_length c = search rules

returns : tie.Need-returns-then-values-lt2
returns c =
    let a = c.args in
    told_short a.values.now c.zero_all.ensures a.found a.index c.if-values-lt2.true

slice-write-values : tie.Need-bounds-values-0
slice-write-values c = search rules

slice-write-values-2 : tie.Need-bounds-values-1
slice-write-values-2 c = search rules

same-length-2 : tie.Need-shape_of-values
same-length-2 c = search rules

returns-2 : tie.Need-returns
returns-2 c =
    let a = c.args in
    told_two a.values.now c.zero_all.ensures a.found a.index c.if-values-lt2.false refl

pub tell_two_spec : {M : Type 1} → statement M
tell_two_spec =
    tie.close
    (tie.spec
    zero-all-requires
    same_length
    returns
    slice-write-values
    slice-write-values-2
    same-length-2
    returns-2)
