-- `text_fields::short::read_last` meets its contract. Assumes nothing.
use mathlib.Core.Path.{◌≡◌, sym, ap, subst, ◌∙◌}
use Prim.Native.Nat.{◌+◌}
use native.Mathlib.Omega.{arith}
use Rattle.columns.specs.Scanned.{number_reply}
use Rattle.text_fields.specs.Steps.{Blank}
use Rattle.text_fields.proofs.Leading.{blank_one, blank_more}
use borrow.Author.Rules.{rules}
use Rattle.text_fields.proofs.short.read_last.Statement.{statement}
use Rattle.text_fields.proofs.short.read_last.Tie as tie

two-requires : tie.Need-two-requires
two-requires c κs = search rules

add-if2 : tie.Need-overflow_add-from
add-if2 c = search rules

shared-slice-read-if2 : tie.Need-bounds-text-from
shared-slice-read-if2 c = search rules

add-one-digit : tie.Need-overflow_add-from-then-text-from-eq32
add-one-digit c = search rules

one-digit-requires : tie.Need-one_digit-requires
one-digit-requires c κs = search rules

returns : tie.Need-returns-then-text-from-eq32
returns c =
    let text = c.args.text.now in
    let from = c.args.from in
    let b = blank_more text (c.two.ensures.all c.if-two-eq8224.true) c.if-text-from-eq32.true in
    let e : from + 2 + 1 ≡ from + 3 = omega arith in
    c.one_digit.ensures ∙ sym (ap number_reply ((subst (Blank text from) e b).reads c.args.end (omega (arith, c.requires.0)) c.requires.1))

add-two-digits : tie.Need-overflow_add-from-then-two-eq8224
add-two-digits c = search rules

two-digits-requires : tie.Need-two_digits-requires
two-digits-requires c κs = search rules

returns-2 : tie.Need-returns-then-two-eq8224
returns-2 c =
    c.two_digits.ensures ∙ sym (ap number_reply ((c.two.ensures.all c.if-two-eq8224.true).reads c.args.end (omega (arith, c.requires.0)) c.requires.1))

shared-slice-read-if3 : tie.Need-bounds-text-from-2
shared-slice-read-if3 c = search rules

add-three-digits : tie.Need-overflow_add-from-then-text-from-eq32-2
add-three-digits c = search rules

three-digits-requires : tie.Need-three_digits-requires
three-digits-requires c κs = search rules

returns-3 : tie.Need-returns-then-text-from-eq32-2
returns-3 c =
    c.three_digits.ensures
    ∙ sym (ap number_reply ((blank_one c.args.text.now c.args.from c.if-text-from-eq32-2.true).reads c.args.end (omega (arith, c.requires.0)) c.requires.1))

read-part-requires : tie.Need-read_part-requires
read-part-requires c κs = search rules

returns-4 : tie.Need-returns
returns-4 c = search rules

pub read_last_spec : {M : Type 1} → statement M
read_last_spec =
    tie.close
    (tie.spec
    two-requires
    add-if2
    shared-slice-read-if2
    add-one-digit
    one-digit-requires
    returns
    add-two-digits
    two-digits-requires
    returns-2
    shared-slice-read-if3
    add-three-digits
    three-digits-requires
    returns-3
    read-part-requires
    returns-4)
