use Rattle.std.proofs.Common.{sym, ◌∙◌}
use Rattle.lang.proofs.Every.{every_none, every_more, every_fails}
use Rattle.captions.specs.Tables.{pair_count}
use Rattle.captions.specs.Queries.{pair_is_safe}
use Rattle.table_seven_bit.proofs.Laws.{table_fits}
use Rattle.table_seven_bit.proofs.all_are_safe.Goals as goal

pub loop-k-init : goal.loop-k-init
loop-k-init c = every_none (pair_is_safe c.args.pairs.now c.args.ops.now)

pub pair_is_safe-requires : goal.pair_is_safe-requires
pair_is_safe-requires c = record {
  k_bound = c.loop-k-test.true;
  k_value = table_fits c.args.pairs.now c.args.ops.now c.loop-k.k c.requires c.loop-k-test.true;
}

pub returns-then-not-pair_is_safe : goal.returns-then-not-pair_is_safe
returns-then-not-pair_is_safe c =
    let a = c.args in
    sym (every_fails (pair_count a.pairs.now) c.loop-k.k (pair_is_safe a.pairs.now a.ops.now) c.loop-k-test.true
    (sym c.pair_is_safe.ensures ∙ c.if-not-pair_is_safe.true))

pub loop-k-preserved : goal.loop-k-preserved
loop-k-preserved c =
    every_more c.loop-k.k (pair_is_safe c.args.pairs.now c.args.ops.now) c.loop-k.invariant (sym c.pair_is_safe.ensures ∙ c.if-not-pair_is_safe.false)
