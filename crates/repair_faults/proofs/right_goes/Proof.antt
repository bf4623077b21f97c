-- `repair_faults::right_goes` meets its contract: one answer for each way through the tests, in the definition's order.
-- Assumes nothing.
use Rattle.words.specs.Words.{number_of}
use Rattle.repair_faults.proofs.Steps.{right_redirect, right_exists, right_edge}
use borrow.Author.Rules.{rules}
use Rattle.repair_faults.proofs.right_goes.Statement.{statement}
use Rattle.repair_faults.proofs.right_goes.Tie as tie

field-at-requires : tie.Need-field_at-requires
field-at-requires c κs = search rules

returns : tie.Need-returns-then-field_at-eq3
returns c =
    let a = c.args in
    right_redirect a.instructions.now (number_of a.boundary) a.existing.now a.i c.field_at.ensures.is c.if-field_at-eq3.true

field-at-requires-2 : tie.Need-field_at-right-requires
field-at-requires-2 c κs = search rules

exists-requires : tie.Need-exists-requires
exists-requires c κs = search rules

returns-2 : tie.Need-returns-then-exists
returns-2 c =
    let a = c.args in
    right_exists a.instructions.now (number_of a.boundary) a.existing.now a.i c.field_at.ensures.is c.if-field_at-eq3.false
    c.field_at-right.ensures c.exists.ensures c.if-exists.true

is-boundary-requires : tie.Need-is_boundary-requires
is-boundary-requires c κs = search rules

returns-3 : tie.Need-returns
returns-3 c =
    let a = c.args in
    right_edge a.instructions.now (number_of a.boundary) a.existing.now a.i c.field_at.ensures.is c.if-field_at-eq3.false
    c.field_at-right.ensures c.exists.ensures c.if-exists.false c.is_boundary.ensures

pub right_goes_spec : {M : Type 1} → statement M
right_goes_spec =
    tie.close
    (tie.spec
    field-at-requires
    returns
    field-at-requires-2
    exists-requires
    returns-2
    is-boundary-requires
    returns-3)
