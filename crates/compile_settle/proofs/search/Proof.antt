-- `compile_settle::search` meets its contract: a kern finishes at once. The loop's invariant: the state of the search, with rows, rules and marks as they were;
-- row k and every row that was not new are not new. The measure is twice the rows that are new and the rows that are open.
-- Assumes nothing.
use mathlib.Core.Path.{◌∙◌, ap}
use native.Mathlib.Omega.{arith}
use lib.ListN.{length, length-set}
use Rattle.compiling.specs.SettleSteps.{remaining}
use Rattle.compiling.proofs.SettleLaws.{Going, going_begin, going_more, going_end}
use Rattle.compile_settle.proofs.KernSearch.{kern_few, kern_found}
use borrow.Author.Rules.{rules}
use Rattle.compile_settle.proofs.search.Statement.{statement}
use Rattle.compile_settle.proofs.search.Tie as tie

abbrev invariant-loop : tie.invariant-loop-p
invariant-loop work₀ n k m p₀ work p = Going n work₀ work k p

abbrev decreases-loop : tie.decreases-loop-p
decreases-loop work₀ n k m p₀ work p = remaining n work p.path

open-row-requires : tie.Need-open_row-requires invariant-loop decreases-loop
open-row-requires c κs =
    (omega (arith, c.requires.1, c.requires.0.encoded.ascending.few), omega arith)

get-requires : tie.Need-get-requires invariant-loop decreases-loop
get-requires c κs = search rules

get-requires-2 : tie.Need-get-right-requires invariant-loop decreases-loop
get-requires-2 c κs = search rules

finish-requires : tie.Need-finish-requires invariant-loop decreases-loop
finish-requires c κs =
    let few = c.requires.0.encoded.ascending.few in (
      omega (arith, few, c.requires.1),
      omega (
        arith,
        few,
        kern_few c.args.n c.args.m c.args.k c.args.work.now c.open_row.new.work c.requires.0 c.requires.1 c.requires.2
            c.open_row.ensures,
      ),
    )

add-result : tie.Need-overflow_add-result invariant-loop decreases-loop
add-result c =
    omega (
      arith,
      c.requires.0.encoded.ascending.few,
      kern_few c.args.n c.args.m c.args.k c.args.work.now c.open_row.new.work c.requires.0 c.requires.1 c.requires.2 c.open_row.ensures,
    )

same_length : tie.Need-shape_of-work-then-get-eq128 invariant-loop decreases-loop
same_length c =
    c.finish.auto.work ∙ c.open_row.auto.work

returns : tie.Need-returns-then-get-eq128 invariant-loop decreases-loop
returns c =
    kern_found c.args.n c.args.m c.args.k c.args.work.now c.open_row.new.work c.requires.0 c.requires.1 c.requires.2 c.open_row.ensures
    c.get.result c.get-right.result c.finish.new.work c.get.ensures c.if-get-eq128.true c.get-right.ensures c.finish.ensures

loop-holds : tie.Need-loop-p-init invariant-loop decreases-loop
loop-holds c =
    going_begin c.args.n c.args.m c.args.k c.args.work.now c.open_row.new.work c.requires.0 c.requires.1 c.requires.2 c.open_row.ensures

turn-requires : tie.Need-turn-p-requires invariant-loop decreases-loop
turn-requires c κs = (c.loop-p.invariant.searching, c.loop-p-test.true)

loop-less : tie.Need-loop-p-smaller invariant-loop decreases-loop
loop-less c = c.turn-p.ensures.less

loop-again : tie.Need-loop-p-preserved invariant-loop decreases-loop
loop-again c =
    going_more c.args.n c.args.k c.open_row.new.work c.loop-p.work c.turn-p.new.work c.loop-p.p c.turn-p.result c.requires.1 c.loop-p.invariant
    c.turn-p.ensures

same-length-2 : tie.Need-shape_of-work invariant-loop decreases-loop
same-length-2 c =
    c.loop-p.invariant.rows.same_length ∙ ap length c.open_row.ensures ∙ simp length-set

returns-2 : tie.Need-returns invariant-loop decreases-loop
returns-2 c =
    going_end c.args.n c.args.m c.args.k c.args.work.now c.open_row.new.work c.requires.0 c.requires.1 c.requires.2 c.open_row.ensures
    c.loop-p.work c.loop-p.p c.loop-p.invariant c.loop-p-test.false

pub search_spec : {M : Type 1} → statement M
search_spec =
    tie.close
    (tie.spec
    invariant-loop
    decreases-loop
    open-row-requires
    get-requires
    get-requires-2
    finish-requires
    add-result
    same_length
    returns
    loop-holds
    turn-requires
    loop-less
    loop-again
    same-length-2
    returns-2)
