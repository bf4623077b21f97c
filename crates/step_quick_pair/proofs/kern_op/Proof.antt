-- `step_quick_pair::kern_op` meets its contract, by its tests.
-- Assumes nothing.
use borrow.Author.Tests.{not-true, not-false}
use Rattle.step_quick_pair.proofs.Laws.{op_outside, op_unread, op_other_count, op_flagged, op_other, op_is}
use borrow.Author.Rules.{rules}
use Rattle.step_quick_pair.proofs.kern_op.Statement.{statement}
use Rattle.step_quick_pair.proofs.kern_op.Tie as tie

returns : tie.Need-returns-then-pairs-k
returns c = let a = c.args in op_outside a.pairs.now a.ops.now a.k c.if-pairs-k.true

is-ready-requires : tie.Need-is_ready-requires
is-ready-requires c κs = search rules

returns-2 : tie.Need-returns-then-not-is_ready
returns-2 c =
    let a = c.args in
    op_unread a.pairs.now a.ops.now a.k c.if-pairs-k.false c.is_ready.ensures (c.if-not-is_ready.true)

mul-word-at : tie.Need-overflow_mul-k
mul-word-at c = search rules

add-word-at : tie.Need-overflow_add-k
add-word-at c = search rules

word-at-requires : tie.Need-word_at-requires
word-at-requires c κs = search rules

returns-3 : tie.Need-returns-then-word_at-ne2
returns-3 c =
    let a = c.args in
    op_other_count a.pairs.now a.ops.now a.k c.if-pairs-k.false c.is_ready.ensures (c.if-not-is_ready.false)
    c.word_at.ensures c.if-word_at-ne2.true

mul-word-at-2 : tie.Need-overflow_mul-k-2
mul-word-at-2 c = search rules

add-word-at-2 : tie.Need-overflow_add-k-2
add-word-at-2 c = search rules

word-at-requires-2 : tie.Need-word_at-requires-2
word-at-requires-2 c κs = search rules

returns-4 : tie.Need-returns-then-word_at-eq1
returns-4 c =
    let a = c.args in
    op_flagged a.pairs.now a.ops.now a.k c.if-pairs-k.false c.is_ready.ensures (c.if-not-is_ready.false)
    c.word_at.ensures c.if-word_at-ne2.false c.word_at-2.ensures c.if-word_at-eq1.true

mul-word-at-3 : tie.Need-overflow_mul-k-3
mul-word-at-3 c = search rules

add-word-at-3 : tie.Need-overflow_add-k-3
add-word-at-3 c = search rules

word-at-requires-3 : tie.Need-word_at-first-requires
word-at-requires-3 c κs = search rules

cast-first : tie.Need-overflow_cast-first
cast-first c = search rules

add-word-at-4 : tie.Need-overflow_add-first
add-word-at-4 c = search rules

mul-word-at-4 : tie.Need-overflow_mul-first
mul-word-at-4 c = search rules

word-at-requires-4 : tie.Need-word_at-requires-3
word-at-requires-4 c κs = search rules

returns-5 : tie.Need-returns-then-word_at-ne2-2
returns-5 c =
    let a = c.args in
    op_other a.pairs.now a.ops.now a.k c.if-pairs-k.false c.is_ready.ensures (c.if-not-is_ready.false)
    c.word_at.ensures c.if-word_at-ne2.false c.word_at-2.ensures c.if-word_at-eq1.false c.word_at-first.ensures c.word_at-3.ensures
    c.if-word_at-ne2-2.true

add-result : tie.Need-overflow_add-result
add-result c = search rules

returns-6 : tie.Need-returns
returns-6 c =
    let a = c.args in
    op_is a.pairs.now a.ops.now a.k c.if-pairs-k.false c.is_ready.ensures (c.if-not-is_ready.false)
    c.word_at.ensures c.if-word_at-ne2.false c.word_at-2.ensures c.if-word_at-eq1.false c.word_at-first.ensures c.word_at-3.ensures
    c.if-word_at-ne2-2.false

pub kern_op_spec : {M : Type 1} → statement M
kern_op_spec =
    tie.close
    (tie.spec
    returns
    is-ready-requires
    returns-2
    mul-word-at
    add-word-at
    word-at-requires
    returns-3
    mul-word-at-2
    add-word-at-2
    word-at-requires-2
    returns-4
    mul-word-at-3
    add-word-at-3
    word-at-requires-3
    cast-first
    add-word-at-4
    mul-word-at-4
    word-at-requires-4
    returns-5
    add-result
    returns-6)
