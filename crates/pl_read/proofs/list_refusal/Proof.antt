-- `pl_read::list_refusal` meets its contract.
-- Assumes nothing.
use Prim.Native.Nat.{◌*◌}
use borrow.Author.Tests.{lt-leb, le-leb}
use Rattle.property_lists.specs.declared.Property.TheVariants as property
use borrow.Author.Rules.{rules}
use Rattle.pl_read.proofs.list_refusal.Statement.{statement}
use Rattle.pl_read.proofs.list_refusal.Tie as tie

returns : tie.Need-returns-then-steps-gt32767
returns c =
    let args = c.args in
    rw (lt-leb args.steps 32767 c.if-steps-gt32767.true)

mul-if2 : tie.Need-overflow_mul-steps
mul-if2 c = search rules

returns-2 : tie.Need-returns-then-room-steps
returns-2 c =
    let args = c.args in
    rw (le-leb args.steps 32767 c.if-steps-gt32767.false, lt-leb (4 * args.steps) args.room c.if-room-steps.true)

returns-3 : tie.Need-returns-then-space-entries
returns-3 c =
    let args = c.args in
    rw (le-leb args.steps 32767 c.if-steps-gt32767.false, le-leb (4 * args.steps) args.room c.if-room-steps.false, lt-leb args.entries args.space c.if-space-entries.true)

returns-4 : tie.Need-returns
returns-4 c =
    let args = c.args in
    rw (le-leb args.steps 32767 c.if-steps-gt32767.false, le-leb (4 * args.steps) args.room c.if-room-steps.false, le-leb args.entries args.space c.if-space-entries.false)

pub list_refusal_spec : {M : Type 1} → statement M
list_refusal_spec =
    tie.close
    (tie.spec
    returns
    mul-if2
    returns-2
    returns-3
    returns-4)
