-- `c_values::tell` meets its contract: the number of a refusal, 15 where there is no place, or 0 with the count at the front.
-- Assumes nothing.
use mathlib.Core.Path.{refl}
use mathlib.Core.List.{[], ◌∷◌}
use native.Mathlib.Omega.{arith}
use lib.IntN.{pos}
use Rattle.c_values.proofs.Telling.{tells_refused, tells_short, tells_taken}
use borrow.Author.Rules.{rules}
use Rattle.c_values.proofs.tell.Statement.{statement}
use Rattle.c_values.proofs.tell.Tie as tie

zero-all-requires : tie.Need-zero_all-requires
zero-all-requires c κs = search rules

enum-known-written : tie.Need-enum_known-written
enum-known-written c = search rules

enum-known-written-2 : tie.Need-enum_known-written-in-Count-1
enum-known-written-2 c = search rules

same_length : tie.Need-shape_of-values-then-values-eq0
same_length c = search rules

returns : tie.Need-returns-then-values-eq0
returns c =
    rw c.in-Count.is
    (tells_short (pos c.in-Count.n ∷ []) c.args.values.now (omega (arith, c.if-values-eq0.true, c.zero_all.auto.s))
    c.zero_all.ensures)

slice-write-values : tie.Need-bounds-values-0
slice-write-values c = search rules

same-length-2 : tie.Need-shape_of-values-in-Refused
same-length-2 c = search rules

returns-2 : tie.Need-returns-in-Refused
returns-2 c =
    rw c.in-Refused.is (tells_refused c.in-Refused.n c.args.values.now c.zero_all.ensures)

same-length-3 : tie.Need-shape_of-values-else-values-eq0
same-length-3 c = search rules

returns-3 : tie.Need-returns-else-values-eq0
returns-3 c =
    rw c.in-Count.is
    (tells_taken (pos c.in-Count.n ∷ []) c.args.values.now (omega (arith, c.if-values-eq0.false, c.zero_all.auto.s))
    c.zero_all.ensures refl)

pub tell_spec : {M : Type 1} → statement M
tell_spec =
    tie.close
    (tie.spec
    zero-all-requires
    enum-known-written
    enum-known-written-2
    same_length
    returns
    slice-write-values
    same-length-2
    returns-2
    same-length-3
    returns-3)
