-- `step_turns::turn::turn_entered` meets its contract, by the tests of the record and of what it gives.
-- Assumes nothing.
use mathlib.Core.Path.{◌≡◌, ◌∙◌, sym}
use mathlib.Core.Bool.{true}
use Rattle.captions.specs.Tables.{record_fits}
use Rattle.step_turns.proofs.Laws.{unread, swallowed, followed}
use borrow.Author.Tests.{not-true, not-false}
use borrow.Author.Rules.{rules}
use Rattle.step_turns.proofs.turn.turn_entered.Statement.{statement}
use Rattle.step_turns.proofs.turn.turn_entered.Tie as tie

fits : (c : tie.Else-not-record_fits) → let a = c.args in record_fits a.pairs.now a.ops.now a.k ≡ true
fits c = sym c.record_fits.ensures ∙ c.if-not-record_fits.false

record-fits-requires : tie.Need-record_fits-requires
record-fits-requires c κs = search rules

refuses-requires : tie.Need-refuses-requires
refuses-requires c κs = search rules

returns : tie.Need-returns-then-not-record_fits
returns c =
    let a = c.args in
    rw (
      c.refuses.ensures,
      unread a.pairs.now a.ops.now a.x a.k (sym c.record_fits.ensures ∙ c.if-not-record_fits.true),
    )

swallows-requires : tie.Need-swallows-requires
swallows-requires c κs = search rules

refuses-requires-2 : tie.Need-refuses-requires-then-swallows
refuses-requires-2 c κs = search rules

returns-2 : tie.Need-returns-then-swallows
returns-2 c =
    let a = c.args in
    rw (c.refuses-then-swallows.ensures, swallowed a.pairs.now a.ops.now a.x a.k (fits c.before.before.before) (sym c.swallows.ensures ∙ c.if-swallows.true))

entered-requires : tie.Need-entered-after-requires
entered-requires c κs = search rules

returns-3 : tie.Need-returns
returns-3 c =
    let a = c.args in
    rw (c.entered-after.ensures, followed a.pairs.now a.ops.now a.x a.k (fits c.before.before.before) (sym c.swallows.ensures ∙ c.if-swallows.false))

pub turn_entered_spec : {M : Type 1} → statement M
turn_entered_spec =
    tie.close
    (tie.spec
    record-fits-requires
    refuses-requires
    returns
    swallows-requires
    refuses-requires-2
    returns-2
    entered-requires
    returns-3)
