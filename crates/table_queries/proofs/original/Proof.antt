-- `table_queries::original` meets its contract: each return by the tests that lead to it.
-- Assumes nothing.
use native.Mathlib.Omega.{arith}
use Rattle.table_queries.proofs.Laws.{original_outside, original_inside}
use borrow.Author.Rules.{rules}
use Rattle.table_queries.proofs.original.Statement.{statement}
use Rattle.table_queries.proofs.original.Tie as tie

sub-result : tie.Need-slice_bounds-result-count
sub-result c = search rules

part-result-start : tie.Need-slice_bounds-result-start
part-result-start c = search rules

part-result-end : tie.Need-slice_bounds-result-end
part-result-end c = search rules

returns : tie.Need-returns-then-word-start
returns c = let a = c.args in original_outside a.word.now a.start a.length (omega (arith, c.if-word-start.true))

sub-if2 : tie.Need-overflow_sub-word
sub-if2 c = search rules

sub-result-2 : tie.Need-slice_bounds-result-count-then-word-start-2
sub-result-2 c = search rules

part-result-start-2 : tie.Need-slice_bounds-result-start-then-word-start-2
part-result-start-2 c = search rules

part-result-end-2 : tie.Need-slice_bounds-result-end-then-word-start-2
part-result-end-2 c = search rules

returns-2 : tie.Need-returns-then-word-start-2
returns-2 c =
    let a = c.args in
    original_outside a.word.now a.start a.length (omega (arith, c.if-word-start-2.true, c.if-word-start.false))

add-result : tie.Need-overflow_add-result
add-result c = search rules

mul-result : tie.Need-offset_bounds-word-start
mul-result c = search rules

sub-result-3 : tie.Need-slice_bounds-result-count-2
sub-result-3 c = search rules

part-result-start-3 : tie.Need-slice_bounds-result-start-2
part-result-start-3 c = search rules

part-result-end-3 : tie.Need-slice_bounds-result-end-2
part-result-end-3 c = search rules

returns-3 : tie.Need-returns
returns-3 c =
    let a = c.args in
    original_inside a.word.now a.start a.length (omega (arith, c.if-word-start-2.false, c.if-word-start.false))

pub original_spec : {M : Type 1} → statement M
original_spec =
    tie.close
    (tie.spec
    sub-result
    part-result-start
    part-result-end
    returns
    sub-if2
    sub-result-2
    part-result-start-2
    part-result-end-2
    returns-2
    add-result
    mul-result
    sub-result-3
    part-result-start-3
    part-result-end-3
    returns-3)
