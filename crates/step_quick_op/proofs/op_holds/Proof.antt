-- `step_quick_op::op_holds` meets its contract: the tests of the words that were read are those of the numbers.
-- Assumes nothing.
use Rattle.words.specs.Words.{Word}
use Rattle.lang.proofs.Records.{word_passed}
use Rattle.captions.specs.Tables.{op_kind, op_value}
use Rattle.table_numbers.proofs.Records.{op_code, op_kern}
use borrow.Author.Rules.{rules}
use Rattle.step_quick_op.proofs.op_holds.Statement.{statement}
use Rattle.step_quick_op.proofs.op_holds.Tie as tie

mul-word-of : tie.Need-overflow_mul-i
mul-word-of c = search rules

mul-word-of-2 : tie.Need-offset_bounds-ops-i
mul-word-of-2 c = search rules

shared-slice-copy-out-word-of : tie.Need-bounds-ops-i
shared-slice-copy-out-word-of c = search rules

word-of-requires : tie.Need-word_of-kind-requires
word-of-requires c κs = search rules

mul-word-of-3 : tie.Need-overflow_mul-i-then-kind-le1
mul-word-of-3 c = search rules

add-word-of : tie.Need-overflow_add-i
add-word-of c = search rules

mul-word-of-4 : tie.Need-offset_bounds-ops-i-then-kind-le1
mul-word-of-4 c = search rules

shared-slice-copy-out-word-of-2 : tie.Need-bounds-ops-i-then-kind-le1
shared-slice-copy-out-word-of-2 c = search rules

word-of-requires-2 : tie.Need-word_of-requires
word-of-requires-2 c κs = search rules

-- the op's kind, where it was read
kind : (c : tie.After-word_of-kind) → let a = c.args in Word (op_kind a.ops.now a.i) c.word_of-kind.result
kind c = word_passed (record { sfits = c.word_of-arg-1.given }) c.word_of-kind.ensures

returns : tie.Need-returns-then-kind-le1
returns c =
    let a = c.args in
    let y = op_value a.ops.now a.i in
    op_code (op_kind a.ops.now a.i) y c.word_of-kind.result c.word_of.result (kind (c.before.before.before)) c.if-kind-le1.true
    (word_passed {x = y} (record { sfits = c.word_of-arg-then-kind-le1-1.given }) c.word_of.ensures)

returns-2 : tie.Need-returns
returns-2 c =
    let a = c.args in
    op_kern (op_kind a.ops.now a.i) (op_value a.ops.now a.i) c.word_of-kind.result 0 (kind (c.before)) c.if-kind-le1.false

pub op_holds_spec : {M : Type 1} → statement M
op_holds_spec =
    tie.close
    (tie.spec
    mul-word-of
    mul-word-of-2
    shared-slice-copy-out-word-of
    word-of-requires
    mul-word-of-3
    add-word-of
    mul-word-of-4
    shared-slice-copy-out-word-of-2
    word-of-requires-2
    returns
    returns-2)
