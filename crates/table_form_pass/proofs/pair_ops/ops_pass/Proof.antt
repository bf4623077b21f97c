-- `table_form_pass::pair_ops::ops_pass` meets its contract: the left as it stands and a kern, or all ops.
-- Assumes nothing.
use mathlib.Core.Path.{◌∙◌}
use Prim.Native.Nat.{◌+◌}
use lib.Dec.{eqb}
use Rattle.lang.proofs.Records.{word_passed}
use Rattle.reading.specs.Items.{item}
use Rattle.captions.specs.Tables.{op_kind, op_value}
use Rattle.table_form_pass.proofs.PairOps.{pass_two}
use Rattle.table_form_pass.proofs.PairReads.{left_refused, left_taken, left_op}
use borrow.Author.Rules.{rules}
use Rattle.table_form_pass.proofs.pair_ops.ops_pass.Statement.{statement}
use Rattle.table_form_pass.proofs.pair_ops.ops_pass.Tie as tie

sub-if1 : tie.Need-overflow_sub-end
sub-if1 c = search rules

mul-word-of : tie.Need-overflow_mul-start
mul-word-of c = search rules

mul-word-of-2 : tie.Need-offset_bounds-ops-start
mul-word-of-2 c = search rules

shared-slice-copy-out-word-of : tie.Need-bounds-ops-start
shared-slice-copy-out-word-of c = search rules

word-of-requires : tie.Need-word_of-requires
word-of-requires c κs = search rules

add-word-of : tie.Need-overflow_add-start
add-word-of c = search rules

mul-word-of-3 : tie.Need-overflow_mul-start-then-word_of-eq0
mul-word-of-3 c = search rules

mul-word-of-4 : tie.Need-offset_bounds-ops-start-then-word_of-eq0
mul-word-of-4 c = search rules

shared-slice-copy-out-word-of-2 : tie.Need-bounds-ops-start-then-word_of-eq0
shared-slice-copy-out-word-of-2 c = search rules

word-of-requires-2 : tie.Need-word_of-requires-then-word_of-eq0
word-of-requires-2 c κs = search rules

mul-word-of-5 : tie.Need-overflow_mul-start-then-word_of-eq2
mul-word-of-5 c = search rules

add-word-of-2 : tie.Need-overflow_add-start-then-word_of-eq2
add-word-of-2 c = search rules

mul-word-of-6 : tie.Need-offset_bounds-ops-start-then-word_of-eq2
mul-word-of-6 c = search rules

shared-slice-copy-out-word-of-3 : tie.Need-bounds-ops-start-then-word_of-eq2
shared-slice-copy-out-word-of-3 c = search rules

word-of-requires-3 : tie.Need-word_of-requires-then-word_of-eq2
word-of-requires-3 c κs = search rules

op-passes-requires : tie.Need-op_passes-requires
op-passes-requires c κs = search rules

returns : tie.Need-returns-then-word_of-eq2
returns c =
    let s = c.args.ops.now in
    let i = c.args.start in
    λ code.
    left_op c.args.left c.ranges.left.fits c.word_of-then-word_of-eq2.result c.op_passes.ensures (
    c.op_passes.ensures
    ∙ pass_two s i c.args.end c.if-end-start-eq2.true
    (word_passed {x = op_kind s i} (record { sfits = c.word_of-arg-1.given }) c.word_of.ensures)
    (word_passed {x = op_value s i} (record { sfits = c.word_of-arg-then-word_of-eq2-1.given }) c.word_of-then-word_of-eq2.ensures)
    (word_passed {x = op_kind s (i + 1)} (record { sfits = c.word_of-arg-then-word_of-eq0-1.given }) c.word_of-then-word_of-eq0.ensures)
    c.if-word_of-eq0.true c.if-word_of-eq2.true (item (eqb c.args.flag 1) code) c.args.left c.ranges.left.fits)

left-place-requires : tie.Need-left_place-requires
left-place-requires c κs = search rules

returns-2 : tie.Need-returns-then-left_place-gt256
returns-2 c =
    let a = c.args in
    left_refused a.left c.ranges.left.fits a.ops.now (eqb a.flag 1) a.start a.end c.left_place.ensures c.if-left_place-gt256.true

all-pass-requires : tie.Need-all_pass-requires
all-pass-requires c κs = search rules

returns-3 : tie.Need-returns
returns-3 c =
    let a = c.args in
    left_taken a.left c.ranges.left.fits a.ops.now (eqb a.flag 1) a.start a.end c.left_place.ensures c.if-left_place-gt256.false
    c.all_pass.ensures

pub ops_pass_spec : {M : Type 1} → statement M
ops_pass_spec =
    tie.close
    (tie.spec
    sub-if1
    mul-word-of
    mul-word-of-2
    shared-slice-copy-out-word-of
    word-of-requires
    add-word-of
    mul-word-of-3
    mul-word-of-4
    shared-slice-copy-out-word-of-2
    word-of-requires-2
    mul-word-of-5
    add-word-of-2
    mul-word-of-6
    shared-slice-copy-out-word-of-3
    word-of-requires-3
    op-passes-requires
    returns
    left-place-requires
    returns-2
    all-pass-requires
    returns-3)
