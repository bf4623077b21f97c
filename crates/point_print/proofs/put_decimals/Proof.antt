-- `point_print::put_decimals` meets its contract: a digit at each turn (`DecimalTurn`). The measure is what delta is short of a million.
-- Assumes nothing.
use Prim.Native.Nat.{◌-◌}
use native.Mathlib.Omega.{arith}
use borrow.Author.Rules.{rules}
use Rattle.point_print.proofs.Turns.{DecimalTurn, turn_none, turn_delta, turn_next_lem, turn_kept, turn_digit, turn_last, turn_more}
use Rattle.point_print.proofs.put_decimals.Statement.{statement}
use Rattle.point_print.proofs.put_decimals.Tie as tie

abbrev invariant-loop : tie.invariant-loop-s
invariant-loop out₀ at part s₀ delta₀ next₀ out s delta next = DecimalTurn out₀ at part out s delta next

abbrev decreases-loop : tie.decreases-loop-s
decreases-loop out₀ at part s₀ delta₀ next₀ out s delta next = 1000000 - delta

mul-s : tie.Need-overflow_mul-s invariant-loop decreases-loop
mul-s c = search rules

add-s : tie.Need-overflow_add-s invariant-loop decreases-loop
add-s c = search rules

loop-holds : tie.Need-loop-s-init invariant-loop decreases-loop
loop-holds c =
    let a = c.args in
    turn_none a.out.now a.at a.part c.requires.1

last-rounded-requires : tie.Need-last_rounded-t-requires invariant-loop decreases-loop
last-rounded-requires c κs = (c.loop-s.invariant.above, c.loop-s.invariant.small)

cast-put-u8 : tie.Need-overflow_cast-t invariant-loop decreases-loop
cast-put-u8 c = omega (arith, turn_digit c.loop-s.invariant c.last_rounded-t.ensures)

add-put-u8 : tie.Need-overflow_add-t invariant-loop decreases-loop
add-put-u8 c = omega (arith, turn_digit c.loop-s.invariant c.last_rounded-t.ensures)

put-item-requires : tie.Need-put_item-requires invariant-loop decreases-loop
put-item-requires c κs = search rules

add-next : tie.Need-overflow_add-next invariant-loop decreases-loop
add-next c =
    omega (arith, turn_next_lem c.loop-s.invariant, c.requires.0)

mul-s-2 : tie.Need-overflow_mul-s-in-loop-s invariant-loop decreases-loop
mul-s-2 c = omega arith

mul-delta : tie.Need-overflow_mul-delta invariant-loop decreases-loop
mul-delta c = omega (arith, (turn_delta c.loop-s.invariant).1)

same_length : tie.Need-shape_of-out-then-s-delta invariant-loop decreases-loop
same_length c =
    turn_kept c.loop-s.invariant c.last_rounded-t.ensures c.put_item.ensures

returns : tie.Need-returns-then-s-delta invariant-loop decreases-loop
returns c =
    turn_last c.loop-s.invariant c.last_rounded-t.ensures c.put_item.ensures (omega (arith, c.if-s-delta.true))

loop-less : tie.Need-loop-s-smaller invariant-loop decreases-loop
loop-less c = omega (arith, turn_delta c.loop-s.invariant)

loop-again : tie.Need-loop-s-preserved invariant-loop decreases-loop
loop-again c =
    turn_more c.loop-s.invariant c.last_rounded-t.ensures c.put_item.ensures (omega (arith, c.if-s-delta.false))

pub put_decimals_spec : {M : Type 1} → statement M
put_decimals_spec =
    tie.close
    (tie.spec
    invariant-loop
    decreases-loop
    mul-s
    add-s
    loop-holds
    last-rounded-requires
    cast-put-u8
    add-put-u8
    put-item-requires
    add-next
    mul-s-2
    mul-delta
    same_length
    returns
    loop-less
    loop-again)
