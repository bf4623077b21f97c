-- `text_fields::short::three_digits` meets its contract. Assumes nothing.
use mathlib.Core.Path.{sym, ap, ◌∙◌}
use mathlib.Core.Option.{some}
use Prim.Native.Nat.{ℕ, ◌+◌, ◌-◌, ◌*◌}
use native.Mathlib.Omega.{arith}
use lib.ListN.{get_or}
use Rattle.columns.specs.Numbers.{without_sign}
use Rattle.columns.specs.Scanned.{number_reply}
use Rattle.text_fields.proofs.Decimals.{read_three}
use borrow.Author.Rules.{rules}
use Rattle.text_fields.proofs.short.three_digits.Statement.{statement}
use Rattle.text_fields.proofs.short.three_digits.Tie as tie

shared-slice-read-a : tie.Need-bounds-text-from
shared-slice-read-a c = search rules

add-b : tie.Need-overflow_add-b
add-b c = search rules

shared-slice-read-b : tie.Need-bounds-text-from-2
shared-slice-read-b c = search rules

add-c : tie.Need-overflow_add-c
add-c c = search rules

shared-slice-read-c : tie.Need-bounds-text-from-3
shared-slice-read-c c = search rules

digit-from-requires : tie.Need-digit_from-requires
digit-from-requires c κs = search rules

digit-from-requires-2 : tie.Need-digit_from-requires-then-digit_from
digit-from-requires-2 c κs = search rules

digit-from-requires-3 : tie.Need-digit_from-requires-then-digit_from-2
digit-from-requires-3 c κs = search rules

with-digit-requires : tie.Need-with_digit-requires
with-digit-requires c κs =
    (omega arith, omega (arith, c.digit_from.ensures c.if-digit_from.true))

with-digit-requires-2 : tie.Need-with_digit-tens-requires
with-digit-requires-2 c κs =
    (omega (arith, c.with_digit.ensures, c.digit_from.ensures c.if-digit_from.true), (c.digit_from-then-digit_from.ensures c.if-digit_from-2.true).0)

with-digit-requires-3 : tie.Need-with_digit-requires-then-digit_from-3
with-digit-requires-3 c κs = (
  omega (
    arith,
    c.with_digit-tens.ensures,
    c.with_digit.ensures,
    c.digit_from.ensures c.if-digit_from.true,
    c.digit_from-then-digit_from.ensures c.if-digit_from-2.true,
  ),
  (c.digit_from-then-digit_from-2.ensures c.if-digit_from-3.true).0,
)

without-sign-requires : tie.Need-without_sign-requires
without-sign-requires c κs = search rules

returns : tie.Need-returns-then-digit_from-3
returns c =
    let a = c.digit_from.ensures c.if-digit_from.true in
    let b = c.digit_from-then-digit_from.ensures c.if-digit_from-2.true in
    let d = c.digit_from-then-digit_from-2.ensures c.if-digit_from-3.true in
    let second = get_or c.args.text.now (c.args.from + 1) 0 in
    let third = get_or c.args.text.now (c.args.from + 2) 0 in
    c.without_sign.ensures
    ∙ ap (λ (n : ℕ). number_reply (without_sign (some n)))
    (c.with_digit-then-digit_from-3.ensures
    ∙ ap (λ (n : ℕ). 10 * n + (third - 48)) (c.with_digit-tens.ensures ∙ ap (λ (n : ℕ). 10 * n + (second - 48)) c.with_digit.ensures))
    ∙ sym (ap number_reply
    (read_three c.args.text.now c.args.from c.args.end c.requires.1 (omega (arith, c.requires.0)) a.0 a.1 c.requires.0 b.0 b.1 d.0
    d.1))

read-part-requires : tie.Need-read_part-requires
read-part-requires c κs = search rules

returns-2 : tie.Need-returns
returns-2 c = search rules

pub three_digits_spec : {M : Type 1} → statement M
three_digits_spec =
    tie.close
    (tie.spec
    shared-slice-read-a
    add-b
    shared-slice-read-b
    add-c
    shared-slice-read-c
    digit-from-requires
    digit-from-requires-2
    digit-from-requires-3
    with-digit-requires
    with-digit-requires-2
    with-digit-requires-3
    without-sign-requires
    returns
    read-part-requires
    returns-2)
