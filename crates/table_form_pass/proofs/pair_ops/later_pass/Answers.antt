use Rattle.std.proofs.Common.{sym, ◌∙◌, rules}
use Rattle.lang.proofs.Records.{word_passed}
use Rattle.reading.specs.Items.{bnd}
use Rattle.table_form_pass.proofs.PairOps.{none_pass, pass_later}
use Rattle.table_form_pass.proofs.pair_ops.later_pass.Goals as goal

pub returns-then-not-op_passes : goal.returns-then-not-op_passes
returns-then-not-op_passes c =
    let a = c.args in
    λ x.
    sym (c.loop-i.invariant x
    ∙ pass_later a.ops.now c.loop-i.i a.end c.loop-i-test.true (word_passed (search rules) c.word_of.ensures) x
    (word_passed (search rules) c.word_of-in-loop-i.ensures)
    ∙ rw (sym c.op_passes.ensures ∙ c.if-not-op_passes.true))

pub loop-i-preserved : goal.loop-i-preserved
loop-i-preserved c =
    let a = c.args in
    λ x. c.loop-i.invariant x
    ∙ pass_later a.ops.now c.loop-i.i a.end c.loop-i-test.true (word_passed (search rules) c.word_of.ensures) x
    (word_passed (search rules) c.word_of-in-loop-i.ensures)
    ∙ rw (sym c.op_passes.ensures ∙ c.if-not-op_passes.false)

pub returns : goal.returns
returns c = λ x. sym (c.loop-i.invariant x ∙ none_pass c.args.ops.now c.loop-i.i c.args.end bnd x c.loop-i-test.false)
