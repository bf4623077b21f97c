-- `c_packing::entries::tell_sizes` meets its contract: the number of a refusal, 15 where there are fewer than three places, or 0 with the sizes at the front.
-- Assumes nothing.
use mathlib.Core.Path.{refl}
use mathlib.Core.List.{[], ◌∷◌}
use native.Mathlib.Omega.{arith}
use lib.IntN.{pos}
use lib.ListN.{length-set}
use Rattle.c_values.proofs.Telling.{tells_refused, tells_short, tells_taken}
use borrow.Author.Rules.{rules}
use Rattle.c_packing.proofs.entries.tell_sizes.Statement.{statement}
use Rattle.c_packing.proofs.entries.tell_sizes.Tie as tie

zero-all-requires : tie.Need-zero_all-requires
zero-all-requires c κs = search rules

enum-known-packed : tie.Need-enum_known-packed
enum-known-packed c = search rules

enum-known-packed-2 : tie.Need-enum_known-packed-in-Sizes-1
enum-known-packed-2 c = search rules

same_length : tie.Need-shape_of-values-then-values-lt3
same_length c = search rules

returns : tie.Need-returns-then-values-lt3
returns c =
    rw c.in-Sizes.is
    (tells_short (pos c.in-Sizes.n ∷ pos c.in-Sizes.offset ∷ pos c.in-Sizes.redirects ∷ [])
    c.args.values.now (omega (arith, c.if-values-lt3.true, c.zero_all.auto.s)) c.zero_all.ensures)

slice-write-values : tie.Need-bounds-values-0
slice-write-values c = search rules

slice-write-values-2 : tie.Need-bounds-values-1
slice-write-values-2 c =
    simp length-set (omega (arith, c.if-values-lt3.false))

slice-write-values-3 : tie.Need-bounds-values-2
slice-write-values-3 c = search rules

same-length-2 : tie.Need-shape_of-values-in-Refused
same-length-2 c = search rules

returns-2 : tie.Need-returns-in-Refused
returns-2 c =
    rw c.in-Refused.is (tells_refused c.in-Refused.n c.args.values.now c.zero_all.ensures)

same-length-3 : tie.Need-shape_of-values-else-values-lt3
same-length-3 c = search rules

returns-3 : tie.Need-returns-else-values-lt3
returns-3 c =
    rw c.in-Sizes.is
    (tells_taken (pos c.in-Sizes.n ∷ pos c.in-Sizes.offset ∷ pos c.in-Sizes.redirects ∷ [])
    c.args.values.now (omega (arith, c.if-values-lt3.false, c.zero_all.auto.s)) c.zero_all.ensures refl)

pub tell_sizes_spec : {M : Type 1} → statement M
tell_sizes_spec =
    tie.close
    (tie.spec
    zero-all-requires
    enum-known-packed
    enum-known-packed-2
    same_length
    returns
    slice-write-values
    slice-write-values-2
    slice-write-values-3
    same-length-2
    returns-2
    same-length-3
    returns-3)
