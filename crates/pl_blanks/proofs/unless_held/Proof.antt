-- `pl_blanks::unless_held` meets its contract.
-- Assumes nothing.
use Rattle.pl_blanks.proofs.Places.{passed_at, passed_none}
use native.Mathlib.Omega.{arith}
use Rattle.pl_blanks.proofs.unless_held.Statement.{statement}
use Rattle.pl_blanks.proofs.unless_held.Tie as tie

returns : tie.Need-returns-then-held
returns c = passed_none _ (rw c.if-held.true)

returns-2 : tie.Need-returns-else-held
returns-2 c = passed_at _ (rw c.if-held.false) (λ _. omega arith) c.requires

pub unless_held_spec : {M : Type 1} → statement M
unless_held_spec =
    tie.close
    (tie.spec
    returns
    returns-2)
