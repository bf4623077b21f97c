-- `compile_loops::take_turn` meets its contract: the walk ends at one of the rows, and the tests are those of a turn.
-- Assumes nothing.
use mathlib.Core.Path.{refl, sym, ◌∙◌}
use Prim.Native.Nat.{◌<◌}
use native.Mathlib.Omega.{arith}
use borrow.Author.Rules.{rules}
use Rattle.compiling.specs.LoopSteps.{finishes, meets_own, meets_earlier}
use Rattle.compiling.proofs.LoopLaws.{walk_within}
use Rattle.compile_loops.proofs.take_turn.Statement.{statement}
use Rattle.compile_loops.proofs.take_turn.Tie as tie

-- the row at which the walk ended
ended : (v : tie.After-walk_from-end) → v.walk_from-end.result < v.args.n
ended v =
    walk_within v.requires.0 v.requires.1 (sym v.get.ensures ∙ v.if-get-eq3.true) v.walk_from-end.ensures

get-requires : tie.Need-get-requires
get-requires c κs = search rules

walk-from-requires : tie.Need-walk_from-end-requires
walk-from-requires c κs = search rules

get-requires-2 : tie.Need-get-requires-then-get-eq3
get-requires-2 c κs = search rules

cast-put : tie.Need-overflow_cast-end
cast-put c =
    omega (arith, ended (c.before.before.before.before.before), c.requires.0.few)

put-requires : tie.Need-put-requires
put-requires c κs = search rules

add-result : tie.Need-overflow_add-result
add-result c = search rules

same_length : tie.Need-shape_of-work-then-get-id
same_length c = search rules

returns : tie.Need-returns-then-get-id
returns c =
    meets_own (sym c.get.ensures ∙ c.if-get-eq3.true) c.walk_from-end.ensures (sym c.get-then-get-eq3.ensures ∙ c.if-get-id.true) c.put.ensures
    refl

same-length-2 : tie.Need-shape_of-work-else-get-id
same-length-2 c = search rules

returns-2 : tie.Need-returns-else-get-id
returns-2 c =
    meets_earlier (sym c.get.ensures ∙ c.if-get-eq3.true) c.walk_from-end.ensures (λ e. c.if-get-id.false (c.get-then-get-eq3.ensures ∙ e)) refl refl

same-length-3 : tie.Need-shape_of-work-else-get-eq3
same-length-3 c = search rules

returns-3 : tie.Need-returns-else-get-eq3
returns-3 c = finishes (λ e. c.if-get-eq3.false (c.get.ensures ∙ e)) refl refl

pub take_turn_spec : {M : Type 1} → statement M
take_turn_spec =
    tie.close
    (tie.spec
    get-requires
    walk-from-requires
    get-requires-2
    cast-put
    put-requires
    add-result
    same_length
    returns
    same-length-2
    returns-2
    same-length-3
    returns-3)
