use Rattle.std.proofs.Common.{arith}
use Rattle.repair_entries.proofs.Entering.{warned_none, warned_more}
use Rattle.repair_entries.proofs.warn_entries.Goals as goal

pub loop-k-init : goal.loop-k-init
loop-k-init c = λ d l. warned_none d c.args.warnings.now c.args.n

pub loop-k-preserved : goal.loop-k-preserved
loop-k-preserved c =
    let a = c.args in
    λ d l.
    warned_more d a.instructions.now a.entries.now l c.loop-k.k c.word_at-c.result c.word_at-entry.result c.entry_refusal-goes.result
    c.word_at-c.ensures c.word_at-entry.ensures.is c.entry_refusal-goes.ensures a.warnings.now c.loop-k.warnings _ a.n
    c.loop-k.count _ c.requires.0 (omega (arith, c.requires.1, c.loop-k-test.true)) (c.loop-k.invariant d l)
    c.push_if-count.ensures
