-- `pl_reals::signs_end` meets its contract.
-- Assumes nothing.
use Rattle.pl_values.proofs.Scanning.{scanned_at, scanned_none}
use native.Mathlib.Omega.{arith}
use Rattle.pl_reals.proofs.signs_end.Statement.{statement}
use Rattle.pl_reals.proofs.signs_end.Tie as tie

returns : tie.Need-returns-then-held
returns c =
    scanned_none _ (rw c.if-held.true)

returns-2 : tie.Need-returns
returns-2 c =
    let pre = c.requires in
    scanned_at _ (rw c.if-held.false) (λ _. omega arith) (pre)

pub signs_end_spec : {M : Type 1} → statement M
signs_end_spec =
    tie.close
    (tie.spec
    returns
    returns-2)
