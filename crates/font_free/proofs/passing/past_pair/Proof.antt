-- `font_free::passing::past_pair` meets its contract: by whether the pair gives nothing.
-- Assumes nothing.
use mathlib.Core.Path.{◌≡◌, sym, ◌∙◌}
use Rattle.lang.proofs.Every.{both_right}
use Rattle.captions.specs.Tables.{record_fits}
use Rattle.captions.specs.Steps.{gives_nothing}
use borrow.Author.Rules.{rules}
use Rattle.font_free.proofs.passing.past_pair.Statement.{statement}
use Rattle.font_free.proofs.passing.past_pair.Tie as tie

gives-nothing-requires : tie.Need-gives_nothing-requires
gives-nothing-requires c κs = search rules

past-entry-requires : tie.Need-past_entry-requires
past-entry-requires c κs =
    let a = c.args in (
      c.requires,
      both_right (record_fits a.pairs.now a.ops.now a.k) (gives_nothing a.pairs.now a.k)
          (sym c.gives_nothing.ensures ∙ c.if-gives_nothing.true),
    )

returns : tie.Need-returns-then-gives_nothing
returns c = rw (sym c.gives_nothing.ensures ∙ c.if-gives_nothing.true) c.past_entry.ensures

returns-2 : tie.Need-returns
returns-2 c = rw (sym c.gives_nothing.ensures ∙ c.if-gives_nothing.false)

pub past_pair_spec : {M : Type 1} → statement M
past_pair_spec =
    tie.close
    (tie.spec
    gives-nothing-requires
    past-entry-requires
    returns
    returns-2)
