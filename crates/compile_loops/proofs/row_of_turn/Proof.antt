-- `compile_loops::row_of_turn` meets its contract: past the last row the boundary's rows are counted from the first.
-- Assumes nothing.
use mathlib.Core.Path.{◌∙◌}
use borrow.Author.Rules.{rules}
use Rattle.compiling.proofs.LoopLaws.{turn_up, turn_down}
use Rattle.compile_loops.proofs.row_of_turn.Statement.{statement}
use Rattle.compile_loops.proofs.row_of_turn.Tie as tie

add-place : tie.Need-overflow_add-place
add-place c = search rules

get-requires : tie.Need-get-requires
get-requires c κs = search rules

cast-result : tie.Need-overflow_cast-result
cast-result c = search rules

get-requires-2 : tie.Need-get-requires-else-place-n
get-requires-2 c κs = search rules

cast-result-2 : tie.Need-overflow_cast-result-else-place-n
cast-result-2 c = search rules

returns : tie.Need-returns-then-place-n
returns c =
    let a = c.args in
    c.get.ensures ∙ turn_up a.n a.e a.work.now a.s c.if-place-n.true

returns-2 : tie.Need-returns-else-place-n
returns-2 c =
    let a = c.args in
    c.get-else-place-n.ensures ∙ turn_down a.n a.e a.work.now a.s c.if-place-n.false

pub row_of_turn_spec : {M : Type 1} → statement M
row_of_turn_spec =
    tie.close
    (tie.spec
    add-place
    get-requires
    cast-result
    get-requires-2
    cast-result-2
    returns
    returns-2)
