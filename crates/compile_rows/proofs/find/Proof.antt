-- `compile_rows::find` meets its contract. The loop's invariant: the search goes on between `lo` and `hi`, and ends where the definition's does. The measure
-- is what is left between them.
-- Assumes nothing.
use mathlib.Core.Path.{sym, ap, ◌∙◌}
use Prim.Native.Nat.{◌+◌, ◌-◌, ◌*◌}
use native.Mathlib.Omega.{arith}
use Rattle.lang.proofs.Bisection.{Bisecting, bisecting_all, bisecting_up, bisecting_down, bisect_found, bisect_other, bisect_past}
use Rattle.compiling.specs.Rows.{row_key, found_row}
use borrow.Author.Rules.{rules}
use Rattle.compile_rows.proofs.find.Statement.{statement}
use Rattle.compile_rows.proofs.find.Tie as tie

abbrev invariant-loop : tie.invariant-loop-lo
invariant-loop work n left right wanted lo₀ hi₀ lo hi = Bisecting (row_key work) n (256 * left + right) lo hi

abbrev decreases-loop : tie.decreases-loop-lo
decreases-loop work n left right wanted lo₀ hi₀ lo hi = hi - lo

mul-wanted : tie.Need-overflow_mul-wanted invariant-loop decreases-loop
mul-wanted c = omega arith

add-wanted : tie.Need-overflow_add-wanted invariant-loop decreases-loop
add-wanted c = omega arith

loop-holds : tie.Need-loop-lo-init invariant-loop decreases-loop
loop-holds c = let a = c.args in bisecting_all (row_key a.work.now) a.n (256 * a.left + a.right)

sub-mid : tie.Need-overflow_sub-mid invariant-loop decreases-loop
sub-mid c = omega arith

add-mid : tie.Need-overflow_add-mid invariant-loop decreases-loop
add-mid c = omega arith

key-requires : tie.Need-key-requires invariant-loop decreases-loop
key-requires c κs = search rules

add-lo : tie.Need-overflow_add-lo invariant-loop decreases-loop
add-lo c = omega arith

loop-less : tie.Need-loop-lo-smaller-then-key-wanted invariant-loop decreases-loop
loop-less c = omega arith

loop-again : tie.Need-loop-lo-preserved-then-key-wanted invariant-loop decreases-loop
loop-again c =
    let a = c.args in
    bisecting_up (row_key a.work.now) a.n (256 * a.left + a.right) c.loop-lo.lo c.loop-lo.hi c.loop-lo.invariant c.loop-lo-test.true
    (omega (arith, c.if-key-wanted.true, c.key.ensures))

loop-less-2 : tie.Need-loop-lo-smaller invariant-loop decreases-loop
loop-less-2 c = omega arith

loop-again-2 : tie.Need-loop-lo-preserved invariant-loop decreases-loop
loop-again-2 c =
    let a = c.args in
    bisecting_down (row_key a.work.now) a.n (256 * a.left + a.right) c.loop-lo.lo c.loop-lo.hi c.loop-lo.invariant c.loop-lo-test.true
    (omega (arith, c.if-key-wanted.false, c.key.ensures))

key-requires-2 : tie.Need-key-requires-then-lo-n invariant-loop decreases-loop
key-requires-2 c κs = search rules

returns : tie.Need-returns-then-key-wanted-2 invariant-loop decreases-loop
returns c =
    let a = c.args in
    sym (ap found_row
    (bisect_found (row_key a.work.now) a.n (256 * a.left + a.right) c.loop-lo.lo c.loop-lo.hi c.loop-lo.invariant c.loop-lo-test.false
    c.if-lo-n.true (sym c.key-then-lo-n.ensures ∙ c.if-key-wanted-2.true)))

returns-2 : tie.Need-returns-else-key-wanted-2 invariant-loop decreases-loop
returns-2 c =
    let a = c.args in
    sym (ap found_row
    (bisect_other (row_key a.work.now) a.n (256 * a.left + a.right) c.loop-lo.lo c.loop-lo.hi c.loop-lo.invariant c.loop-lo-test.false
    c.if-lo-n.true (λ e. c.if-key-wanted-2.false (c.key-then-lo-n.ensures ∙ e))))

returns-3 : tie.Need-returns-else-lo-n invariant-loop decreases-loop
returns-3 c =
    let a = c.args in
    sym (ap found_row
    (bisect_past (row_key a.work.now) a.n (256 * a.left + a.right) c.loop-lo.lo c.loop-lo.hi c.loop-lo.invariant c.loop-lo-test.false c.if-lo-n.false))

pub find_spec : {M : Type 1} → statement M
find_spec =
    tie.close
    (tie.spec
    invariant-loop
    decreases-loop
    mul-wanted
    add-wanted
    loop-holds
    sub-mid
    add-mid
    key-requires
    add-lo
    loop-less
    loop-again
    loop-less-2
    loop-again-2
    key-requires-2
    returns
    returns-2
    returns-3)
