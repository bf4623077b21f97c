use Rattle.std.proofs.Common.{◌∙◌}
use Rattle.repair_entries.proofs.Entering.{bits_none, bits_more, bit_clear, bit_set}
use Rattle.repair_entries.proofs.put_passthrough.Goals as goal
use Rattle.repair_entries.proofs.put_passthrough.Goals.{then-item_at-eq0, else-item_at-eq0}

pub loop-i-init : goal.loop-i-init
loop-i-init c = bits_none c.args.passthrough.now c.args.through.now

pub loop-i-preserved : goal.loop-i-preserved
loop-i-preserved c =
    let a = c.args in
    bits_more a.passthrough.now a.through.now c.loop-i.i _ c.loop-i.invariant
    (elim c.if-item_at-eq0.branch [
      | then-item_at-eq0 w ↦ w.bit-is ∙ bit_clear a.passthrough.now c.loop-i.i c.item_at.ensures w.if-item_at-eq0.true
      | else-item_at-eq0 w ↦ w.bit-is ∙ bit_set a.passthrough.now c.loop-i.i c.item_at.ensures w.if-item_at-eq0.false
    ])
    c.put_item.ensures
