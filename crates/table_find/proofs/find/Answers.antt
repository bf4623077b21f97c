use Rattle.std.proofs.Common.{sym, ◌∙◌}
use native.Mathlib.Omega.{arith}
use Rattle.captions.specs.Tables.{key_by, key_at, pair_count}
use Rattle.lang.proofs.Bisection.{bisecting_all, bisecting_up, bisecting_down}
use Rattle.table_find.proofs.Bisection.{found, other, past}
use Rattle.table_find.proofs.find.Goals as goal

pub loop-lo-init : goal.loop-lo-init
loop-lo-init c = let a = c.args in bisecting_all (key_at a.pairs.now) (pair_count a.pairs.now) (key_by a.left a.right)

pub loop-lo-preserved-then-key_at-wanted : goal.loop-lo-preserved-then-key_at-wanted
loop-lo-preserved-then-key_at-wanted c =
    let a = c.args in
    bisecting_up (key_at a.pairs.now) (pair_count a.pairs.now) (key_by a.left a.right) c.loop-lo.lo c.loop-lo.hi c.loop-lo.invariant c.loop-lo-test.true
    (omega (arith, c.if-key_at-wanted.true, c.key_at.ensures))

pub loop-lo-preserved : goal.loop-lo-preserved
loop-lo-preserved c =
    let a = c.args in
    bisecting_down (key_at a.pairs.now) (pair_count a.pairs.now) (key_by a.left a.right) c.loop-lo.lo c.loop-lo.hi c.loop-lo.invariant c.loop-lo-test.true
    (omega (arith, c.if-key_at-wanted.false, c.key_at.ensures))

pub returns-then-key_at-wanted-2 : goal.returns-then-key_at-wanted-2
returns-then-key_at-wanted-2 c =
    let a = c.args in
    found a.pairs.now (key_by a.left a.right) c.loop-lo.lo c.loop-lo.hi c.loop-lo.invariant c.loop-lo-test.false c.if-lo-n.true
    (sym c.key_at-then-lo-n.ensures ∙ c.if-key_at-wanted-2.true)

pub returns-else-key_at-wanted-2 : goal.returns-else-key_at-wanted-2
returns-else-key_at-wanted-2 c =
    let a = c.args in
    other a.pairs.now (key_by a.left a.right) c.loop-lo.lo c.loop-lo.hi c.loop-lo.invariant c.loop-lo-test.false c.if-lo-n.true
    (λ e. c.if-key_at-wanted-2.false (c.key_at-then-lo-n.ensures ∙ e))

pub returns-else-lo-n : goal.returns-else-lo-n
returns-else-lo-n c =
    let a = c.args in
    past a.pairs.now (key_by a.left a.right) c.loop-lo.lo c.loop-lo.hi c.loop-lo.invariant c.loop-lo-test.false c.if-lo-n.false
