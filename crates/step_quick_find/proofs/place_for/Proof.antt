-- `step_quick_find::place_for` meets its contract. The loop's invariant: the search goes on between `lo` and `hi`, and ends where the definition's does. The
-- measure is what is left between them.
-- Assumes nothing.
use Rattle.std.proofs.Common.{◌-◌, arith}
use Rattle.captions.specs.Tables.{key_by, key_at, pair_count}
use Rattle.lang.proofs.Bisection.{Bisecting, bisecting_all}
use Rattle.step_quick_find.proofs.Laws.{search_up, search_down, search_ends}
use Rattle.step_quick_find.proofs.place_for.Statement.{statement}
use Rattle.step_quick_find.proofs.place_for.Tie as tie

abbrev invariant-loop : tie.invariant-loop-lo
invariant-loop pairs left right lo₀ hi₀ lo hi = Bisecting (key_at pairs) (pair_count pairs) (key_by left right) lo hi

abbrev decreases-loop : tie.decreases-loop-lo
decreases-loop pairs left right lo₀ hi₀ lo hi = hi - lo

loop-holds : tie.Need-loop-lo-init invariant-loop decreases-loop
loop-holds c = let a = c.args in bisecting_all (key_at a.pairs.now) (pair_count a.pairs.now) (key_by a.left a.right)

add-mid : tie.Need-overflow_add-mid invariant-loop decreases-loop
add-mid c = omega arith

comes-before-requires : tie.Need-comes_before-requires invariant-loop decreases-loop
comes-before-requires c κs = omega arith

add-lo : tie.Need-overflow_add-lo invariant-loop decreases-loop
add-lo c = omega arith

loop-less : tie.Need-loop-lo-smaller-then-comes_before invariant-loop decreases-loop
loop-less c = omega arith

loop-again : tie.Need-loop-lo-preserved-then-comes_before invariant-loop decreases-loop
loop-again c =
    let a = c.args in
    search_up a.pairs.now (key_by a.left a.right) c.loop-lo.lo c.loop-lo.hi c.loop-lo.invariant c.loop-lo-test.true c.comes_before.result
    c.comes_before.ensures c.if-comes_before.true

loop-less-2 : tie.Need-loop-lo-smaller invariant-loop decreases-loop
loop-less-2 c = omega arith

loop-again-2 : tie.Need-loop-lo-preserved invariant-loop decreases-loop
loop-again-2 c =
    let a = c.args in
    search_down a.pairs.now (key_by a.left a.right) c.loop-lo.lo c.loop-lo.hi c.loop-lo.invariant c.loop-lo-test.true c.comes_before.result
    c.comes_before.ensures c.if-comes_before.false

returns : tie.Need-returns invariant-loop decreases-loop
returns c =
    let a = c.args in
    search_ends a.pairs.now (key_by a.left a.right) c.loop-lo.lo c.loop-lo.hi c.loop-lo.invariant c.loop-lo-test.false

pub place_for_spec : {M : Type 1} → statement M
place_for_spec =
    tie.close
    (tie.spec
    invariant-loop
    decreases-loop
    loop-holds
    add-mid
    comes-before-requires
    add-lo
    loop-less
    loop-again
    loop-less-2
    loop-again-2
    returns)
