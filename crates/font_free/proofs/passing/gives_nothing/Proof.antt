-- `font_free::passing::gives_nothing` meets its contract: by the record, by the op count, and by the flag.
-- Assumes nothing.
use mathlib.Core.Path.{◌≡◌, sym, ◌∙◌}
use borrow.Author.Tests.{not-true, not-false}
use Rattle.font_free.proofs.Laws.{has_ops, last_decides}
use borrow.Author.Rules.{rules}
use Rattle.font_free.proofs.passing.gives_nothing.Statement.{statement}
use Rattle.font_free.proofs.passing.gives_nothing.Tie as tie

record-fits-requires : tie.Need-record_fits-requires
record-fits-requires c κs = search rules

returns : tie.Need-returns-then-not-record_fits
returns c = rw (sym c.record_fits.ensures ∙ c.if-not-record_fits.true)

number-at-requires : tie.Need-number_at-requires
number-at-requires c κs = search rules

returns-2 : tie.Need-returns-then-number_at-ne0
returns-2 c =
    let a = c.args in
    has_ops a.pairs.now a.ops.now a.k (sym c.record_fits.ensures ∙ c.if-not-record_fits.false)
    c.number_at.ensures c.if-number_at-ne0.true

number-at-requires-2 : tie.Need-number_at-requires-2
number-at-requires-2 c κs = search rules

returns-3 : tie.Need-returns
returns-3 c =
    let a = c.args in
    last_decides a.pairs.now a.ops.now a.k (sym c.record_fits.ensures ∙ c.if-not-record_fits.false)
    c.number_at.ensures c.if-number_at-ne0.false c.number_at-2.ensures

pub gives_nothing_spec : {M : Type 1} → statement M
gives_nothing_spec =
    tie.close
    (tie.spec
    record-fits-requires
    returns
    number-at-requires
    returns-2
    number-at-requires-2
    returns-3)
