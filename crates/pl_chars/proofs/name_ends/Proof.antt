-- `pl_chars::name_ends` meets its contract.
-- Assumes nothing.
use mathlib.Core.Path.{sym, ◌∙◌}
use Rattle.pl_blanks.proofs.Places.{passed_at, passed_none}
use Rattle.pl_chars.proofs.CharLaws.{ends_no, ends_here, ends_end}
use borrow.Author.Rules.{rules}
use native.Mathlib.Omega.{arith}
use Rattle.pl_chars.proofs.name_ends.Statement.{statement}
use Rattle.pl_chars.proofs.name_ends.Tie as tie

shared-slice-read-in-name : tie.Need-bounds-text-at
shared-slice-read-in-name c = search rules

in-name-requires : tie.Need-in_name-requires
in-name-requires c κs = search rules

returns : tie.Need-returns-then-in_name
returns c =
    let a = c.args in
    passed_none _ (ends_no a.text.now a.at c.if-at-text.true (sym c.in_name.ensures ∙ c.if-in_name.true))

returns-2 : tie.Need-returns-else-in_name
returns-2 c =
    let a = c.args in
    passed_at _ (ends_here a.text.now a.at c.if-at-text.true (sym c.in_name.ensures ∙ c.if-in_name.false)) (λ _. omega arith) c.requires

returns-3 : tie.Need-returns-else-at-text
returns-3 c = let a = c.args in passed_at _ (ends_end a.text.now a.at c.if-at-text.false) (λ _. omega arith) c.requires

pub name_ends_spec : {M : Type 1} → statement M
name_ends_spec =
    tie.close
    (tie.spec
    shared-slice-read-in-name
    in-name-requires
    returns
    returns-2
    returns-3)
