-- `entry_unpack::refused` meets its contract: 8 and 9 by their names, and any other by its number.
-- Assumes nothing.
use mathlib.Core.Path.{refl}
use Rattle.entry_unpack.proofs.Unpacking.{other_named}
use Rattle.entry_unpack.proofs.refused.Statement.{statement}
use Rattle.entry_unpack.proofs.refused.Tie as tie

returns : tie.Need-returns-then-number-eq8
returns c = rw c.if-number-eq8.true (refl, refl)

returns-2 : tie.Need-returns-then-number-eq9
returns-2 c = rw c.if-number-eq9.true (refl, refl)

returns-3 : tie.Need-returns
returns-3 c = (refl, other_named c.args.number c.if-number-eq8.false c.if-number-eq9.false)

pub refused_spec : {M : Type 1} → statement M
refused_spec =
    tie.close
    (tie.spec
    returns
    returns-2
    returns-3)
