-- `compile_lists::write_loops` meets its contract. The loop's invariant: the numbers of the pairs passed stand at the front, and the rest is as it
-- came. Assumes nothing.
use Prim.Native.Nat.{◌≤◌, ◌-◌}
use native.Mathlib.Omega.{arith}
use borrow.Author.Rules.{rules}
use Rattle.words.specs.Lists.{tabulate, Appending}
use Rattle.words.proofs.Lists.{appending_length}
use Rattle.fonts.specs.Numbers.{loop_numbers}
use Rattle.compiling.proofs.LoopLaws.{listed_pair, left_small, loops_none, loops_more, loops_all}
use Rattle.compile_lists.proofs.write_loops.Statement.{statement}
use Rattle.compile_lists.proofs.write_loops.Tie as tie

abbrev invariant-loop : tie.invariant-loop-i
invariant-loop work r out₀ i₀ out i = (i ≤ r) × Appending (loop_numbers (tabulate i (listed_pair work))) out₀ out

abbrev decreases-loop : tie.decreases-loop-i
decreases-loop work r out₀ i₀ out i = r - i

loop-holds : tie.Need-loop-i-init invariant-loop decreases-loop
loop-holds c = (omega arith, loops_none c.args.work.now c.args.out.now)

get-requires : tie.Need-get-k-requires invariant-loop decreases-loop
get-requires c κs = search rules

cast-k : tie.Need-overflow_cast-k invariant-loop decreases-loop
cast-k c = search rules

get-requires-2 : tie.Need-get-requires invariant-loop decreases-loop
get-requires-2 c κs = search rules

left-word-requires : tie.Need-left_word-left-requires invariant-loop decreases-loop
left-word-requires c κs =
    left_small c.args.work.now c.args.r c.loop-i.i c.get-k.result c.get.result c.requires.3 c.loop-i-test.true c.get-k.ensures
    c.get.ensures

get-requires-3 : tie.Need-get-right-requires invariant-loop decreases-loop
get-requires-3 c κs = search rules

mul-put-word : tie.Need-overflow_mul-i invariant-loop decreases-loop
mul-put-word c = omega (arith, c.loop-i.invariant.0, c.requires.0)

put-word-requires : tie.Need-put_word-requires invariant-loop decreases-loop
put-word-requires c κs = tt

mul-put-word-2 : tie.Need-overflow_mul-i-in-loop-i invariant-loop decreases-loop
mul-put-word-2 c =
    omega (arith, c.loop-i.invariant.0, c.requires.0)

add-put-word : tie.Need-overflow_add-i invariant-loop decreases-loop
add-put-word c = omega (arith, c.loop-i.invariant.0, c.requires.0)

put-word-requires-2 : tie.Need-put_word-requires-in-loop-i invariant-loop decreases-loop
put-word-requires-2 c κs = tt

add-i : tie.Need-overflow_step-i invariant-loop decreases-loop
add-i c =
    omega (arith, c.loop-i.invariant.0, c.requires.0)

loop-less : tie.Need-loop-i-smaller invariant-loop decreases-loop
loop-less c = omega (arith, c.loop-i-test.true)

loop-again : tie.Need-loop-i-preserved invariant-loop decreases-loop
loop-again c = (
  omega (arith, c.loop-i-test.true),
  loops_more c.args.work.now c.args.r c.args.out.now c.loop-i.out c.put_word.new.s c.put_word-in-loop-i.new.s c.loop-i.i
      c.get-k.result c.get.result c.left_word-left.result c.get-right.result c.requires.3 c.loop-i-test.true c.requires.1
      c.get-k.ensures c.get.ensures c.left_word-left.ensures c.get-right.ensures c.put_word.ensures c.put_word-in-loop-i.ensures
      c.loop-i.invariant.1,
)

same_length : tie.Need-shape_of-out invariant-loop decreases-loop
same_length c = appending_length c.args.out.now c.loop-i.invariant.1

returns : tie.Need-returns invariant-loop decreases-loop
returns c =
    loops_all c.args.work.now c.args.r c.loop-i.i c.args.out.now c.loop-i.out c.requires.2 c.loop-i.invariant.0 c.loop-i-test.false
    c.loop-i.invariant.1

pub write_loops_spec : {M : Type 1} → statement M
write_loops_spec =
    tie.close
    (tie.spec
    invariant-loop
    decreases-loop
    loop-holds
    get-requires
    cast-k
    get-requires-2
    left-word-requires
    get-requires-3
    mul-put-word
    put-word-requires
    mul-put-word-2
    add-put-word
    put-word-requires-2
    add-i
    loop-less
    loop-again
    same_length
    returns)
