-- `program_limits::passthrough_refusal` meets its contract: each return by the test that leads to it.
-- Assumes nothing.
use Prim.Native.Nat.{◌/◌}
use lib.ListN.{length}
use borrow.Author.Tests.{eq-eqb, ne_eqb}
use Rattle.program_limits.proofs.passthrough_refusal.Statement.{statement}
use Rattle.program_limits.proofs.passthrough_refusal.Tie as tie

returns : tie.Need-returns-then-passthrough-instructions
returns c = let a = c.args in rw (eq-eqb (length a.passthrough.now) (length a.instructions.now / 4) c.if-passthrough-instructions.true)

returns-2 : tie.Need-returns-else-passthrough-instructions
returns-2 c = let a = c.args in rw (ne_eqb (length a.passthrough.now) (length a.instructions.now / 4) c.if-passthrough-instructions.false)

pub passthrough_refusal_spec : {M : Type 1} → statement M
passthrough_refusal_spec =
    tie.close
    (tie.spec
    returns
    returns-2)
