-- `pl_blanks::is_passed` meets its contract.
-- Assumes nothing.
use mathlib.Core.Path.{◌∙◌}
use borrow.Author.Tests.{eq-eqb, ne_eqb}
use borrow.Author.Rules.{rules}
use Rattle.pl_blanks.proofs.is_passed.Statement.{statement}
use Rattle.pl_blanks.proofs.is_passed.Tie as tie

returns : tie.Need-returns-then-b-eq10
returns c = rw (eq-eqb c.args.b 10 c.if-b-eq10.true)

returns-2 : tie.Need-returns-then-b-eq13
returns-2 c = let b = c.args.b in rw (ne_eqb b 10 c.if-b-eq10.false, eq-eqb b 13 c.if-b-eq13.true)

returns-3 : tie.Need-returns-then-held
returns-3 c =
    let b = c.args.b in
    rw (ne_eqb b 10 c.if-b-eq10.false, ne_eqb b 13 c.if-b-eq13.false, c.if-held.true)

returns-4 : tie.Need-returns-then-b-eq32
returns-4 c =
    let b = c.args.b in
    rw (ne_eqb b 10 c.if-b-eq10.false, ne_eqb b 13 c.if-b-eq13.false, c.if-held.false, eq-eqb b 32 c.if-b-eq32.true)

is-visible-requires : tie.Need-is_visible-requires
is-visible-requires c κs = search rules

returns-5 : tie.Need-returns-then-all
returns-5 c =
    let b = c.args.b in
    c.is_visible.ensures ∙ rw (ne_eqb b 10 c.if-b-eq10.false, ne_eqb b 13 c.if-b-eq13.false, c.if-held.false, ne_eqb b 32 c.if-b-eq32.false, c.if-all.true)

returns-6 : tie.Need-returns
returns-6 c =
    let b = c.args.b in
    rw (ne_eqb b 10 c.if-b-eq10.false, ne_eqb b 13 c.if-b-eq13.false, c.if-held.false, ne_eqb b 32 c.if-b-eq32.false, c.if-all.false)

pub is_passed_spec : {M : Type 1} → statement M
is_passed_spec =
    tie.close
    (tie.spec
    returns
    returns-2
    returns-3
    returns-4
    is-visible-requires
    returns-5
    returns-6)
