-- `compile_loops::walk_rows` meets its contract. The loop's invariant: after s turns the rows that are listed are those of the walks from the
-- pairs of these turns, and a row has a mark where its pair was met.
-- Assumes nothing.
use mathlib.Core.Path.{sym, subst}
use Prim.Native.Nat.{ℕ, ◌<◌, ◌-◌}
use native.Mathlib.Omega.{arith}
use Rattle.compiling.proofs.LoopLaws.{Going, going_none, going_walkable, going_row, going_more, going_all}
use Rattle.compile_loops.proofs.walk_rows.Statement.{statement}
use Rattle.compile_loops.proofs.walk_rows.Tie as tie

abbrev invariant-loop : tie.invariant-loop-s
invariant-loop work₀ n e r₀ s₀ work r s = Going n e work₀ s work r

abbrev decreases-loop : tie.decreases-loop-s
decreases-loop work₀ n e r₀ s₀ work r s = n - s

loop-holds : tie.Need-loop-s-init invariant-loop decreases-loop
loop-holds c =
    let a = c.args in
    let p = c.requires in
    going_none a.n p.1.0 a.work.now p.0 p.1.1 a.e p.2 p.3

row-of-turn-requires : tie.Need-row_of_turn-k-requires invariant-loop decreases-loop
row-of-turn-requires c κs =
    let p = c.requires in
    (p.0.ascending.few, p.2.few, c.loop-s-test.true)

add-take-turn : tie.Need-overflow_add-s invariant-loop decreases-loop
add-take-turn c =
    omega (arith, c.loop-s-test.true, c.requires.0.ascending.few)

cast-take-turn : tie.Need-overflow_cast-s invariant-loop decreases-loop
cast-take-turn c =
    omega (arith, c.loop-s-test.true, c.requires.0.ascending.few)

take-turn-requires : tie.Need-take_turn-r-requires invariant-loop decreases-loop
take-turn-requires c κs =
    let a = c.args in
    let p = c.requires in (
      going_walkable a.n p.1.0 a.work.now p.0 p.1.1 a.e p.2 c.loop-s.s c.loop-s.work c.loop-s.r c.loop-s.invariant,
      subst (λ (k : ℕ). k < a.n) (sym c.row_of_turn-k.ensures)
          (going_row a.n p.1.0 a.work.now p.0 p.1.1 a.e p.2 c.loop-s.s c.loop-s.work c.loop-s.r c.loop-s.invariant
          c.loop-s-test.true),
      omega arith,
      omega (arith, c.loop-s.invariant.few, c.loop-s-test.true),
    )

add-s : tie.Need-overflow_step-s invariant-loop decreases-loop
add-s c =
    omega (arith, c.loop-s-test.true, c.requires.0.ascending.few)

loop-less : tie.Need-loop-s-smaller invariant-loop decreases-loop
loop-less c = omega (arith, c.loop-s-test.true)

loop-again : tie.Need-loop-s-preserved invariant-loop decreases-loop
loop-again c =
    let a = c.args in
    let p = c.requires in
    going_more a.n p.1.0 a.work.now p.0 p.1.1 a.e p.2 c.loop-s.s c.loop-s.work c.loop-s.r c.loop-s.invariant c.row_of_turn-k.result
    c.take_turn-r.new.work c.take_turn-r.result c.loop-s-test.true c.row_of_turn-k.ensures c.take_turn-r.ensures

same_length : tie.Need-shape_of-work invariant-loop decreases-loop
same_length c = c.loop-s.invariant.taken.same_length

returns : tie.Need-returns invariant-loop decreases-loop
returns c =
    let a = c.args in
    let p = c.requires in
    going_all a.n p.1.0 a.work.now p.0 p.1.1 a.e p.2 c.loop-s.s c.loop-s.work c.loop-s.r c.loop-s.invariant c.loop-s-test.false

pub walk_rows_spec : {M : Type 1} → statement M
walk_rows_spec =
    tie.close
    (tie.spec
    invariant-loop
    decreases-loop
    loop-holds
    row-of-turn-requires
    add-take-turn
    cast-take-turn
    take-turn-requires
    add-s
    loop-less
    loop-again
    same_length
    returns)
