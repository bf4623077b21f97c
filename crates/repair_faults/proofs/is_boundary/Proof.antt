-- `repair_faults::is_boundary` meets its contract: by whether there is a boundary character.
-- Assumes nothing.
use Rattle.repair_faults.proofs.Steps.{edge_none, edge_same}
use Rattle.repair_faults.proofs.is_boundary.Statement.{statement}
use Rattle.repair_faults.proofs.is_boundary.Tie as tie

returns : tie.Need-returns-then-boundary-gt2147483647
returns c = edge_none c.args.boundary c.args.right c.ranges.boundary.fits c.ranges.right.fits c.if-boundary-gt2147483647.true

returns-2 : tie.Need-returns
returns-2 c = edge_same c.args.boundary c.args.right c.ranges.boundary.fits c.ranges.right.fits c.if-boundary-gt2147483647.false

pub is_boundary_spec : {M : Type 1} → statement M
is_boundary_spec =
    tie.close
    (tie.spec
    returns
    returns-2)
