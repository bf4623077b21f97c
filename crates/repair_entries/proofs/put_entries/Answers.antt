use Rattle.std.proofs.Common.{arith}
use Rattle.repair_entries.proofs.Entering.{one_at_most, unpacked_none, unpacked_more}
use Rattle.repair_entries.proofs.put_entries.Goals as goal

pub loop-k-init : goal.loop-k-init
loop-k-init c = (omega arith, λ d l. unpacked_none d c.args.unpacked.now)

pub loop-k-preserved : goal.loop-k-preserved
loop-k-preserved c =
    let a = c.args in (
      omega (
        arith,
        one_at_most a.instructions.now c.word_at-c.result c.word_at-entry.result c.loop-k.unpacked c.loop-k.n _ _ c.put_entry-n.ensures,
      ),
      λ d l.
          unpacked_more d a.instructions.now a.entries.now l c.requires c.loop-k.k c.word_at-c.result c.word_at-entry.result
          c.word_at-c.ensures c.word_at-entry.ensures.is a.unpacked.now c.loop-k.unpacked _ c.loop-k.n _ (c.loop-k.invariant.1 d l)
          c.put_entry-n.ensures,
    )
