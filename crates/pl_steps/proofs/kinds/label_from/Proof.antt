-- `pl_steps::kinds::label_from` meets its contract.
-- Assumes nothing.
use mathlib.Core.Path.{◌≡◌, sym, ◌∙◌}
use mathlib.Core.Bool.{true, false}
use lib.Dec.{eqb}
use lib.ListN.{get_or}
use borrow.Author.Tests.{eq-eqb, ne_eqb}
use Rattle.property_lists.specs.declared.Property.TheVariants as property
use Rattle.property_lists.specs.declared.ValueRead.TheVariants as value
use Rattle.property_lists.specs.Chars.{upper_case}
use Rattle.pl_blanks.proofs.Places.{at_byte, at_end_lem, known_at, known_none}
use Rattle.pl_steps.proofs.ReadLaws.{property_none, property_from_lem}
use borrow.Author.Rules.{rules}
use native.Mathlib.Omega.{arith}
use Rattle.pl_steps.proofs.kinds.label_from.Statement.{statement}
use Rattle.pl_steps.proofs.kinds.label_from.Tie as tie

returns : tie.Need-returns-then-text-at
returns c =
    let args = c.args in
    property_none _ (rw (at_end_lem args.text.now args.at c.if-text-at.true))

shared-slice-read-upper-case : tie.Need-bounds-text-at
shared-slice-read-upper-case c = search rules

upper-case-requires : tie.Need-upper_case-requires
upper-case-requires c κs = search rules

character-label-requires : tie.Need-character_label-requires
character-label-requires c κs = search rules

returns-2 : tie.Need-returns-then-upper_case-ne66
returns-2 c =
    let args = c.args in
    let t = args.text.now in
    let b = at_byte t args.at c.if-text-at.false in
    let u : eqb (upper_case (get_or t args.at 0)) 66 ≡ false = ne_eqb (upper_case (get_or t args.at 0)) 66 (λ e. c.if-upper_case-ne66.true (c.upper_case.ensures ∙ e)) in
    property_from_lem c.character_label.result c.character_label.ensures (rw (b, u)) (λ h. (λ p. omega arith, h))

add-to-paren : tie.Need-overflow_add-at
add-to-paren c = search rules

to-paren-requires : tie.Need-to_paren-requires
to-paren-requires c κs = search rules

enum-known-n : tie.Need-enum_known-n
enum-known-n c = search rules

enum_told : tie.Need-enum_told-1
enum_told c = search rules

returns-3 : tie.Need-returns-in_default
returns-3 c =
    let args = c.args in
    let t = args.text.now in
    let b = at_byte t args.at c.if-text-at.false in
    let u : eqb (upper_case (get_or t args.at 0)) 66 ≡ true = eq-eqb (upper_case (get_or t args.at 0)) 66 (sym c.upper_case.ensures ∙ c.if-upper_case-ne66.false) in
    property_none _ (rw (b, u, known_none c.to_paren.ensures c.in_default.is))

closed-by-requires : tie.Need-closed_by-requires
closed-by-requires c κs = search rules

returns-4 : tie.Need-returns
returns-4 c =
    let args = c.args in
    let t = args.text.now in
    let b = at_byte t args.at c.if-text-at.false in
    let k = known_at c.to_paren.ensures c.in-Some.is in
    let u : eqb (upper_case (get_or t args.at 0)) 66 ≡ true = eq-eqb (upper_case (get_or t args.at 0)) 66 (sym c.upper_case.ensures ∙ c.if-upper_case-ne66.false) in
    property_from_lem c.closed_by.result c.closed_by.ensures (sym (rw (b, u, k.0))) (λ h. (λ p. omega (arith, k.1 (omega (arith, c.if-text-at.false))), k.2))

pub label_from_spec : {M : Type 1} → statement M
label_from_spec =
    tie.close
    (tie.spec
    returns
    shared-slice-read-upper-case
    upper-case-requires
    character-label-requires
    returns-2
    add-to-paren
    to-paren-requires
    enum-known-n
    enum_told
    returns-3
    closed-by-requires
    returns-4)
