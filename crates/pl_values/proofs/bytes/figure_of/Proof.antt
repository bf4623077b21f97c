-- `pl_values::bytes::figure_of` meets its contract.
-- Assumes nothing.
use mathlib.Core.Path.{◌≡◌, sym, ap, ◌∙◌}
use mathlib.Core.Bool.{true, false}
use lib.Dec.{leb}
use borrow.Author.Tests.{leb-true}
use Rattle.lang.proofs.Every.{both_left, both_right}
use Rattle.property_lists.specs.Chars.{upper_case, is_capital, is_figure}
use borrow.Author.Rules.{rules}
use native.Mathlib.Omega.{arith}
use Rattle.pl_values.proofs.bytes.figure_of.Statement.{statement}
use Rattle.pl_values.proofs.bytes.figure_of.Tie as tie

is-figure-requires : tie.Need-is_figure-requires
is-figure-requires c κs = search rules

wide-requires : tie.Need-wide-requires
wide-requires c κs = search rules

sub-result : tie.Need-overflow_sub-result
sub-result c =
    let args = c.args in
    let f : is_figure args.b ≡ true = sym c.is_figure.ensures ∙ c.if-is_figure.true in
    omega (arith, c.wide.ensures, leb-true 48 args.b (both_left (leb 48 args.b) (leb args.b 57) f))

returns : tie.Need-returns-then-is_figure
returns c =
    let args = c.args in
    let f : is_figure args.b ≡ true = sym c.is_figure.ensures ∙ c.if-is_figure.true in
    (rw (f, c.wide.ensures), omega (arith, c.wide.ensures, leb-true args.b 57 (both_right (leb 48 args.b) (leb args.b 57) f)))

upper-case-requires : tie.Need-upper_case-c-requires
upper-case-requires c κs = search rules

is-capital-requires : tie.Need-is_capital-requires
is-capital-requires c κs = search rules

wide-requires-2 : tie.Need-wide-requires-then-is_capital
wide-requires-2 c κs = search rules

sub-result-2 : tie.Need-overflow_sub-result-then-is_capital
sub-result-2 c =
    let u = c.upper_case-c.result in
    let f : is_capital u ≡ true = sym c.is_capital.ensures ∙ c.if-is_capital.true in
    omega (arith, c.wide-then-is_capital.ensures, leb-true 65 u (both_left (leb 65 u) (leb u 90) f))

returns-2 : tie.Need-returns-then-is_capital
returns-2 c =
    let args = c.args in
    let b = args.b in
    let u = c.upper_case-c.result in
    let n : is_figure b ≡ false = sym c.is_figure.ensures ∙ c.if-is_figure.false in
    let f : is_capital u ≡ true = sym c.is_capital.ensures ∙ c.if-is_capital.true in
    let g : is_capital (upper_case b) ≡ true = ap is_capital (sym c.upper_case-c.ensures) ∙ f in
    (rw (n, g, c.wide-then-is_capital.ensures, c.upper_case-c.ensures), omega (arith, c.wide-then-is_capital.ensures, leb-true u 90 (both_right (leb 65 u) (leb u 90) f)))

returns-3 : tie.Need-returns
returns-3 c =
    let args = c.args in
    let b = args.b in
    let n : is_figure b ≡ false = sym c.is_figure.ensures ∙ c.if-is_figure.false in
    let g : is_capital (upper_case b) ≡ false = ap is_capital (sym c.upper_case-c.ensures) ∙ sym c.is_capital.ensures ∙ c.if-is_capital.false in
    (rw (n, g), omega arith)

pub figure_of_spec : {M : Type 1} → statement M
figure_of_spec =
    tie.close
    (tie.spec
    is-figure-requires
    wide-requires
    sub-result
    returns
    upper-case-requires
    is-capital-requires
    wide-requires-2
    sub-result-2
    returns-2
    returns-3)
