-- `compile_loops::walk_from` meets its contract. The loop's invariant: what the rest of the walk leaves, all of it leaves, and the rows can be
-- walked over still. The measure is how many rows have no mark. Assumes nothing.
use mathlib.Core.Path.{sym, ◌∙◌}
use borrow.Author.Rules.{rules}
use Rattle.compiling.specs.LoopSteps.{stops}
use Rattle.compiling.proofs.LoopLaws.{unmarked, Underway, underway_none, underway_more, underway_less}
use Rattle.compile_loops.proofs.walk_from.Statement.{statement}
use Rattle.compile_loops.proofs.walk_from.Tie as tie

abbrev invariant-loop : tie.invariant-loop-work
invariant-loop work₀ n k id cur₀ work cur = Underway n id work₀ k work cur

abbrev decreases-loop : tie.decreases-loop-work
decreases-loop work₀ n k id cur₀ work cur = unmarked n work

loop-holds : tie.Need-loop-work-init invariant-loop decreases-loop
loop-holds c = underway_none c.args.n c.args.id c.args.work.now c.args.k c.requires.0 c.requires.1 c.requires.2

get-requires : tie.Need-get-requires invariant-loop decreases-loop
get-requires c κs = search rules

get-requires-2 : tie.Need-get-next-requires invariant-loop decreases-loop
get-requires-2 c κs = search rules

cast-next : tie.Need-overflow_cast-next invariant-loop decreases-loop
cast-next c = search rules

put-requires : tie.Need-put-requires invariant-loop decreases-loop
put-requires c κs = search rules

loop-less : tie.Need-loop-work-smaller invariant-loop decreases-loop
loop-less c =
    underway_less c.args.n c.args.id c.args.work.now c.args.k c.loop-work.work c.loop-work.cur c.loop-work.invariant
    (sym c.get.ensures ∙ c.loop-work-test.true) c.requires.3 c.put.new.work c.put.ensures

loop-again : tie.Need-loop-work-preserved invariant-loop decreases-loop
loop-again c =
    underway_more c.args.n c.args.id c.args.work.now c.args.k c.loop-work.work c.loop-work.cur c.loop-work.invariant
    (sym c.get.ensures ∙ c.loop-work-test.true) c.put.new.work c.get-next.result c.put.ensures c.get-next.ensures

same_length : tie.Need-shape_of-work invariant-loop decreases-loop
same_length c = c.loop-work.invariant.same_length

returns : tie.Need-returns invariant-loop decreases-loop
returns c =
    c.loop-work.invariant.rest c.loop-work.work c.loop-work.cur (stops (λ e. c.loop-work-test.false (c.get.ensures ∙ e)))

pub walk_from_spec : {M : Type 1} → statement M
walk_from_spec =
    tie.close
    (tie.spec
    invariant-loop
    decreases-loop
    loop-holds
    get-requires
    get-requires-2
    cast-next
    put-requires
    loop-less
    loop-again
    same_length
    returns)
