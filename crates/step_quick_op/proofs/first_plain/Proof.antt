-- `step_quick_op::first_plain` meets its contract, by its tests.
-- Assumes nothing.
use mathlib.Core.Path.{◌∙◌}
use Rattle.words.specs.Words.{Word}
use Rattle.lang.proofs.Records.{word_passed}
use Rattle.captions.specs.Tables.{op_kind, op_value}
use Rattle.step_quick_op.proofs.Laws.{first_none, first_other, first_code, first_only, first_next}
use borrow.Author.Rules.{rules}
use Rattle.step_quick_op.proofs.first_plain.Statement.{statement}
use Rattle.step_quick_op.proofs.first_plain.Tie as tie

-- the first op's numbers, where they were read
kind : (c : tie.After-word_of) → let a = c.args in Word (op_kind a.ops.now a.i) c.word_of.result
kind c = word_passed (record { sfits = c.word_of-arg-1.given }) c.word_of.ensures

value : (c : tie.After-word_of-2) → let a = c.args in
    Word (op_value a.ops.now a.i) c.word_of-2.result
value c = word_passed (record { sfits = c.word_of-arg-2-1.given }) c.word_of-2.ensures

returns : tie.Need-returns-then-n-eq0
returns c = let a = c.args in first_none a.ops.now a.i a.n c.if-n-eq0.true

mul-word-of : tie.Need-overflow_mul-i
mul-word-of c = search rules

mul-word-of-2 : tie.Need-offset_bounds-ops-i
mul-word-of-2 c = search rules

shared-slice-copy-out-word-of : tie.Need-bounds-ops-i
shared-slice-copy-out-word-of c = search rules

word-of-requires : tie.Need-word_of-requires
word-of-requires c κs = search rules

returns-2 : tie.Need-returns-then-word_of-ne0
returns-2 c =
    let a = c.args in
    first_other a.ops.now a.i a.n c.if-n-eq0.false (kind (c.before)) c.if-word_of-ne0.true

mul-word-of-3 : tie.Need-overflow_mul-i-2
mul-word-of-3 c = search rules

add-word-of : tie.Need-overflow_add-i
add-word-of c = search rules

mul-word-of-4 : tie.Need-offset_bounds-ops-i-2
mul-word-of-4 c = search rules

shared-slice-copy-out-word-of-2 : tie.Need-bounds-ops-i-2
shared-slice-copy-out-word-of-2 c = search rules

word-of-requires-2 : tie.Need-word_of-requires-2
word-of-requires-2 c κs = search rules

returns-3 : tie.Need-returns-then-word_of-gt255
returns-3 c =
    let a = c.args in
    first_code a.ops.now a.i a.n c.if-n-eq0.false (kind (c.before.before.before.before)) c.if-word_of-ne0.false (value (c.before)) c.if-word_of-gt255.true

returns-4 : tie.Need-returns-then-n-eq1
returns-4 c =
    let a = c.args in
    first_only a.ops.now a.i a.n c.if-n-eq0.false (kind (c.before.before.before.before.before)) c.if-word_of-ne0.false (value (c.before.before))
    c.if-word_of-gt255.false c.if-n-eq1.true

add-op-holds : tie.Need-overflow_add-i-2
add-op-holds c = search rules

op-holds-requires : tie.Need-op_holds-requires
op-holds-requires c κs = search rules

returns-5 : tie.Need-returns
returns-5 c =
    let a = c.args in
    c.op_holds.ensures
    ∙ first_next a.ops.now a.i a.n c.if-n-eq0.false (kind (c.before.before.before.before.before.before)) c.if-word_of-ne0.false (value (c.before.before.before))
    c.if-word_of-gt255.false c.if-n-eq1.false

pub first_plain_spec : {M : Type 1} → statement M
first_plain_spec =
    tie.close
    (tie.spec
    returns
    mul-word-of
    mul-word-of-2
    shared-slice-copy-out-word-of
    word-of-requires
    returns-2
    mul-word-of-3
    add-word-of
    mul-word-of-4
    shared-slice-copy-out-word-of-2
    word-of-requires-2
    returns-3
    returns-4
    add-op-holds
    op-holds-requires
    returns-5)
