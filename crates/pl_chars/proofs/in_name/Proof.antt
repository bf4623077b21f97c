-- `pl_chars::in_name` meets its contract.
-- Assumes nothing.
use mathlib.Core.Path.{◌≡◌, sym, ap, ◌∙◌}
use mathlib.Core.Bool.{true, false}
use Rattle.property_lists.specs.Chars.{is_figure, is_capital}
use borrow.Author.Tests.{eq-eqb, ne_eqb}
use borrow.Author.Rules.{rules}
use Rattle.pl_chars.proofs.in_name.Statement.{statement}
use Rattle.pl_chars.proofs.in_name.Tie as tie

returns : tie.Need-returns-then-b-eq47
returns c =
    let args = c.args in
    rw (eq-eqb args.b 47 c.if-b-eq47.true)

returns-2 : tie.Need-returns-then-b-eq62
returns-2 c =
    let args = c.args in
    rw (ne_eqb args.b 47 c.if-b-eq47.false, eq-eqb args.b 62 c.if-b-eq62.true)

is-figure-requires : tie.Need-is_figure-requires
is-figure-requires c κs = search rules

returns-3 : tie.Need-returns-then-is_figure
returns-3 c =
    let args = c.args in
    let f : is_figure args.b ≡ true = sym c.is_figure.ensures ∙ c.if-is_figure.true in
    rw (ne_eqb args.b 47 c.if-b-eq47.false, ne_eqb args.b 62 c.if-b-eq62.false, f)

upper-case-requires : tie.Need-upper_case-requires
upper-case-requires c κs = search rules

is-capital-requires : tie.Need-is_capital-requires
is-capital-requires c κs = search rules

returns-4 : tie.Need-returns
returns-4 c =
    let args = c.args in
    let f : is_figure args.b ≡ false = sym c.is_figure.ensures ∙ c.if-is_figure.false in
    c.is_capital.ensures ∙ ap is_capital c.upper_case.ensures ∙ rw (ne_eqb args.b 47 c.if-b-eq47.false, ne_eqb args.b 62 c.if-b-eq62.false, f)

pub in_name_spec : {M : Type 1} → statement M
in_name_spec =
    tie.close
    (tie.spec
    returns
    returns-2
    is-figure-requires
    returns-3
    upper-case-requires
    is-capital-requires
    returns-4)
