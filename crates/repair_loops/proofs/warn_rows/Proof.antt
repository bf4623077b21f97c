-- `repair_loops::warn_rows` meets its contract. The loop's invariant: the warnings of the rows passed have been pushed.
-- Assumes nothing.
use mathlib.Core.Path.{◌≡◌, refl, ◌∙◌}
use Prim.Native.Nat.{◌<◌, ◌≤◌, ◌-◌}
use native.Mathlib.Omega.{arith}
use lib.ListN.{length}
use borrow.Author.Rules.{rules}
use Rattle.words.specs.Lists.{tabulate}
use Rattle.compiling.proofs.LoopLaws.{listed_pair}
use Rattle.repairs.specs.Warnings.{loop_warnings}
use Rattle.repairs.specs.Pushed.{Pushed}
use Rattle.repairs.proofs.Pushing.{pushed_length}
use Rattle.repair_loops.proofs.Laws.{none_listed, one_more, all_listed}
use Rattle.repair_loops.proofs.warn_rows.Statement.{statement}
use Rattle.repair_loops.proofs.warn_rows.Tie as tie

abbrev invariant-loop : tie.invariant-loop-i
invariant-loop work r warnings₀ n count₀ i₀ warnings count i =
    (i ≤ r) × Pushed warnings₀ n (loop_warnings (tabulate i (listed_pair work))) warnings count × (length warnings ≡ length warnings₀)

abbrev decreases-loop : tie.decreases-loop-i
decreases-loop work r warnings₀ n count₀ i₀ warnings count i = r - i

loop-holds : tie.Need-loop-i-init invariant-loop decreases-loop
loop-holds c = (omega arith, none_listed c.args.work.now c.args.warnings.now c.args.n, refl)

get-requires : tie.Need-get-k-requires invariant-loop decreases-loop
get-requires c κs = search rules

cast-k : tie.Need-overflow_cast-k invariant-loop decreases-loop
cast-k c = search rules

get-requires-2 : tie.Need-get-requires invariant-loop decreases-loop
get-requires-2 c κs = search rules

cast-left : tie.Need-overflow_cast-left invariant-loop decreases-loop
cast-left c = search rules

add_left : tie.Need-overflow_add-left invariant-loop decreases-loop
add_left c = search rules

get-requires-3 : tie.Need-get-right-requires invariant-loop decreases-loop
get-requires-3 c κs = search rules

cast-push-if : tie.Need-overflow_cast-left-in-loop-i invariant-loop decreases-loop
cast-push-if c = search rules

push-if-requires : tie.Need-push_if-count-requires invariant-loop decreases-loop
push-if-requires c κs = search rules

add-i : tie.Need-overflow_step-i invariant-loop decreases-loop
add-i c = omega (arith, c.loop-i.invariant.0, c.requires.0)

loop-less : tie.Need-loop-i-smaller invariant-loop decreases-loop
loop-less c = omega (arith, c.loop-i-test.true)

loop-again : tie.Need-loop-i-preserved invariant-loop decreases-loop
loop-again c = (
  omega (arith, c.loop-i-test.true),
  one_more c.args.work.now c.args.r c.args.warnings.now c.loop-i.warnings c.push_if-count.new.warnings c.args.n c.loop-i.i
      c.get-k.result c.get.result c.get-right.result c.loop-i.count c.push_if-count.result c.requires.2 c.loop-i-test.true
      c.requires.0 c.requires.1 c.get-k.ensures c.get.ensures c.get-right.ensures c.loop-i.invariant.1 c.push_if-count.ensures,
  pushed_length c.loop-i.warnings c.loop-i.count _ c.push_if-count.new.warnings c.push_if-count.result c.push_if-count.ensures ∙ c.loop-i.invariant.2,
)

same_length : tie.Need-shape_of-warnings invariant-loop decreases-loop
same_length c = c.loop-i.invariant.2

returns : tie.Need-returns invariant-loop decreases-loop
returns c =
    all_listed c.args.work.now c.args.r c.loop-i.i c.args.warnings.now c.loop-i.warnings c.args.n c.loop-i.count c.loop-i.invariant.0
    c.loop-i-test.false c.loop-i.invariant.1

pub warn_rows_spec : {M : Type 1} → statement M
warn_rows_spec =
    tie.close
    (tie.spec
    invariant-loop
    decreases-loop
    loop-holds
    get-requires
    cast-k
    get-requires-2
    cast-left
    add_left
    get-requires-3
    cast-push-if
    push-if-requires
    add-i
    loop-less
    loop-again
    same_length
    returns)
