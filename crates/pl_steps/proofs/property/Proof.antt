-- `pl_steps::property` meets its contract.
-- Assumes nothing.
use mathlib.Core.Path.{sym}
use lib.ListN.{get_or}
use borrow.Author.Tests.{eq-eqb, ne_eqb}
use Rattle.property_lists.specs.declared.Property.TheVariants as property
use Rattle.property_lists.specs.declared.ValueRead.TheVariants as value
use Rattle.pl_blanks.proofs.Places.{at_byte, at_end_lem, known_at, known_none}
use Rattle.pl_steps.proofs.ReadLaws.{property_at_lem, property_none, property_from_lem, four_bytes}
use borrow.Author.Rules.{rules}
use native.Mathlib.Omega.{arith}
use Rattle.pl_steps.proofs.property.Statement.{statement}
use Rattle.pl_steps.proofs.property.Tie as tie

past-blanks-requires : tie.Need-past_blanks-requires
past-blanks-requires c κs = search rules

enum-known-i : tie.Need-enum_known-i
enum-known-i c = search rules

enum_told : tie.Need-enum_told-1
enum_told c = search rules

returns : tie.Need-returns-in_default
returns c =
    property_none _ (rw (known_none c.past_blanks.ensures c.in_default.is))

returns-2 : tie.Need-returns-then-text-i
returns-2 c =
    let args = c.args in
    let t = args.text.now in
    let place = c.in-Some.i in
    let k = known_at c.past_blanks.ensures c.in-Some.is in
    property_at_lem _ (rw (k.0, at_end_lem t place c.if-text-i.true)) (λ h. omega (arith, k.1 h)) k.2

shared-slice-read-if2 : tie.Need-bounds-text-i
shared-slice-read-if2 c = search rules

add-t12 : tie.Need-overflow_add-result
add-t12 c = search rules

returns-3 : tie.Need-returns-then-text-i-eq41
returns-3 c =
    let args = c.args in
    let t = args.text.now in
    let place = c.in-Some.i in
    let k = known_at c.past_blanks.ensures c.in-Some.is in
    property_at_lem _ (rw (k.0, at_byte t place c.if-text-i.false, eq-eqb (get_or t place 0) 41 c.if-text-i-eq41.true)) (λ h. omega (arith, k.1 h)) (omega (arith, c.if-text-i.false))

shared-slice-read-if3 : tie.Need-bounds-text-i-2
shared-slice-read-if3 c = search rules

returns-4 : tie.Need-returns-then-text-i-ne40
returns-4 c =
    let args = c.args in
    let t = args.text.now in
    let place = c.in-Some.i in
    let k = known_at c.past_blanks.ensures c.in-Some.is in
    property_none _ (rw (k.0, at_byte t place c.if-text-i.false, ne_eqb (get_or t place 0) 41 c.if-text-i-eq41.false, ne_eqb (get_or t place 0) 40 c.if-text-i-ne40.true))

add-past-blanks : tie.Need-overflow_add-i
add-past-blanks c = search rules

past-blanks-requires-2 : tie.Need-past_blanks-requires-2
past-blanks-requires-2 c κs = search rules

enum-known-j : tie.Need-enum_known-j
enum-known-j c = search rules

enum-told-2 : tie.Need-enum_told-in_default-past_blanks
enum-told-2 c = search rules

returns-5 : tie.Need-returns-in_default-past_blanks
returns-5 c =
    let args = c.args in
    let t = args.text.now in
    let place = c.in-Some.i in
    let k = known_at c.past_blanks.ensures c.in-Some.is in
    let n = known_none c.past_blanks-2.ensures c.in_default-past_blanks.is in
    property_none _ (rw (k.0, at_byte t place c.if-text-i.false, ne_eqb (get_or t place 0) 41 c.if-text-i-eq41.false, eq-eqb (get_or t place 0) 40 c.if-text-i-ne40.false, n))

named-from-requires : tie.Need-named_from-requires
named-from-requires c κs =
    (known_at c.past_blanks-2.ensures c.in-Some-past_blanks.is).2

returns-6 : tie.Need-returns
returns-6 c =
    let args = c.args in
    let t = args.text.now in
    let place = c.in-Some.i in
    let k = known_at c.past_blanks.ensures c.in-Some.is in
    let n = known_at c.past_blanks-2.ensures c.in-Some-past_blanks.is in
    property_from_lem c.named_from.result c.named_from.ensures
    (sym (rw (k.0, at_byte t place c.if-text-i.false, ne_eqb (get_or t place 0) 41 c.if-text-i-eq41.false, eq-eqb (get_or t place 0) 40 c.if-text-i-ne40.false, n.0)))
    (λ h. (λ p. omega (arith, k.1 h, n.1 (omega (arith, c.if-text-i.false)), four_bytes p), n.2))

pub property_spec : {M : Type 1} → statement M
property_spec =
    tie.close
    (tie.spec
    past-blanks-requires
    enum-known-i
    enum_told
    returns
    returns-2
    shared-slice-read-if2
    add-t12
    returns-3
    shared-slice-read-if3
    returns-4
    add-past-blanks
    past-blanks-requires-2
    enum-known-j
    enum-told-2
    returns-5
    named-from-requires
    returns-6)
