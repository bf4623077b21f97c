use Rattle.std.proofs.Common.{sym, ◌∙◌, eqb, eq-eqb, rules}
use Rattle.lang.proofs.Records.{word_passed}
use Rattle.reading.specs.Items.{item}
use Rattle.table_form_pass.specs.Parts.{left_by}
use Rattle.table_form_pass.proofs.PairOps.{takes_none, takes_char, none_pass, pass_kern, pass_character}
use Rattle.table_form_pass.proofs.pair_ops.all_pass.Goals as goal

pub returns-then-not-op_passes : goal.returns-then-not-op_passes
returns-then-not-op_passes c =
    λ code.
    let x = item (eqb c.args.flag 1) code in
    sym (c.loop-i.invariant x
    ∙ pass_character c.args.ops.now c.loop-i.i c.args.end c.loop-i-test.true (word_passed (search rules) c.word_of-kind.ensures) x
    (word_passed (search rules) c.word_of.ensures) c.args.left c.ranges.left.fits c.if-kind-ne2.true
    ∙ rw (sym c.op_passes.ensures ∙ c.if-not-op_passes.true))

pub returns-then-kind-ne2 : goal.returns-then-kind-ne2
returns-then-kind-ne2 c =
    λ code.
    let x = item (eqb c.args.flag 1) code in
    sym (c.loop-i.invariant x
    ∙ pass_character c.args.ops.now c.loop-i.i c.args.end c.loop-i-test.true (word_passed (search rules) c.word_of-kind.ensures) x
    (word_passed (search rules) c.word_of.ensures) c.args.left c.ranges.left.fits c.if-kind-ne2.true
    ∙ rw (sym c.op_passes.ensures ∙ c.if-not-op_passes.false) (sym (c.later_pass.ensures x)))

pub loop-i-preserved : goal.loop-i-preserved
loop-i-preserved c =
    let a = c.args in
    λ x. c.loop-i.invariant x
    ∙ pass_kern a.ops.now c.loop-i.i a.end c.loop-i-test.true (word_passed (search rules) c.word_of-kind.ensures) x (left_by a.left)
    c.if-kind-ne2.false

pub returns-then-left-eq4294967295 : goal.returns-then-left-eq4294967295
returns-then-left-eq4294967295 c =
    let a = c.args in
    λ code.
    let x = item (eqb a.flag 1) code in
    eq-eqb a.left 4294967295 c.if-left-eq4294967295.true
    ∙ sym (c.loop-i.invariant x ∙ none_pass a.ops.now c.loop-i.i a.end (left_by a.left) x c.loop-i-test.false
    ∙ takes_none a.left x c.if-left-eq4294967295.true)

pub returns-else-left-eq4294967295 : goal.returns-else-left-eq4294967295
returns-else-left-eq4294967295 c =
    let a = c.args in
    λ code.
    let f = eqb a.flag 1 in
    sym (c.loop-i.invariant (item f code) ∙ none_pass a.ops.now c.loop-i.i a.end (left_by a.left) (item f code) c.loop-i-test.false
    ∙ takes_char a.left f code c.ranges.left.fits c.if-left-eq4294967295.false)
