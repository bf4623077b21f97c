use Rattle.repair_places.proofs.Copying.{copied}
use Rattle.repair_places.proofs.copy_bytes.Goals as goal

pub returns : goal.returns
returns c = rw c.copy_from_slice.ensures.after (copied c.args.from.now c.args.to.now c.min-n.result c.min-n.ensures)
