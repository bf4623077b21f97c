use Rattle.std.proofs.Common.{sym, ◌∙◌}
use Rattle.lang.proofs.Every.{every_none, every_more, every_fails}
use Rattle.captions.specs.Tables.{pair_count}
use Rattle.captions.specs.Form.{key_form}
use Rattle.table_form.proofs.keys.keys_form.Goals as goal

pub loop-k-init : goal.loop-k-init
loop-k-init c = every_none (key_form c.args.pairs.now)

pub returns-then-not-key_form : goal.returns-then-not-key_form
returns-then-not-key_form c =
    let s = c.args.pairs.now in
    sym (every_fails (pair_count s) c.loop-k.k (key_form s) c.loop-k-test.true (sym c.key_form.ensures ∙ c.if-not-key_form.true))

pub loop-k-preserved : goal.loop-k-preserved
loop-k-preserved c =
    every_more c.loop-k.k (key_form c.args.pairs.now) c.loop-k.invariant (sym c.key_form.ensures ∙ c.if-not-key_form.false)
