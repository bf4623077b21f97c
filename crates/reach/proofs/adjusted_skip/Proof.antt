-- `reach::adjusted_skip` meets its contract: no skip where the chain stops, where nothing is skipped and where the skip passes the
-- end, else the count of marks, which is below 256. Assumes nothing.
use Prim.Native.Nat.{◌<◌}
use borrow.Author.Rules.{rules}
use native.Mathlib.Omega.{arith}
use lib.ListN.{length}
use Rattle.reach.proofs.Numbers.{skip_stops, skip_nothing, skip_past, skip_counted}
use Rattle.reach.proofs.adjusted_skip.Statement.{statement}
use Rattle.reach.proofs.adjusted_skip.Tie as tie

enum_told : tie.Need-enum_told-1
enum_told c = search rules

enum-known-next : tie.Need-enum_known-next
enum-known-next c = search rules

returns : tie.Need-returns-then-k-eq0
returns c =
    let a = c.args in
    skip_nothing (length a.marks.now) a.marks.now a.next c.in-Some.k a.i c.in-Some.is
    c.if-k-eq0.true

add-if2 : tie.Need-overflow_add-i
add-if2 c = search rules

cast-if2 : tie.Need-overflow_cast-k
cast-if2 c = search rules

add-if2-2 : tie.Need-overflow_add-i-in-Some
add-if2-2 c = search rules

add-marks-from : tie.Need-overflow_add-i-then-i-k
add-marks-from c = search rules

marks-from-requires : tie.Need-marks_from-requires
marks-from-requires c κs = search rules

returns-2 : tie.Need-returns-then-i-k
returns-2 c =
    let a = c.args in
    let k = c.in-Some.k in
    skip_counted (length a.marks.now) a.marks.now a.next k a.i _ c.in-Some.is
    c.if-k-eq0.false (let l : k < 256 = omega (arith, c.in-Some.known_told-1-own.given) in l) c.if-i-k.true
    c.marks_from.ensures

returns-3 : tie.Need-returns-in-None
returns-3 c =
    let a = c.args in
    skip_stops (length a.marks.now) a.marks.now a.next a.i c.in-None.is

returns-4 : tie.Need-returns-else-i-k
returns-4 c =
    let a = c.args in
    skip_past (length a.marks.now) a.marks.now a.next c.in-Some.k a.i
    c.in-Some.is c.if-i-k.false

pub adjusted_skip_spec : {M : Type 1} → statement M
adjusted_skip_spec =
    tie.close
    (tie.spec
    enum_told
    enum-known-next
    returns
    add-if2
    cast-if2
    add-if2-2
    add-marks-from
    marks-from-requires
    returns-2
    returns-3
    returns-4)
