-- `text_fields::short::one_digit` meets its contract. Assumes nothing.
use mathlib.Core.Path.{sym, ap, ◌∙◌}
use mathlib.Core.Option.{some}
use Prim.Native.Nat.{ℕ}
use native.Mathlib.Omega.{arith}
use Rattle.columns.specs.Numbers.{without_sign}
use Rattle.columns.specs.Scanned.{number_reply}
use Rattle.text_fields.proofs.Decimals.{read_one}
use borrow.Author.Rules.{rules}
use Rattle.text_fields.proofs.short.one_digit.Statement.{statement}
use Rattle.text_fields.proofs.short.one_digit.Tie as tie

shared-slice-read-a : tie.Need-bounds-text-from
shared-slice-read-a c = search rules

digit-from-requires : tie.Need-digit_from-requires
digit-from-requires c κs = search rules

with-digit-requires : tie.Need-with_digit-requires
with-digit-requires c κs = (omega arith, (c.digit_from.ensures c.if-digit_from.true).0)

without-sign-requires : tie.Need-without_sign-requires
without-sign-requires c κs = search rules

returns : tie.Need-returns-then-digit_from
returns c =
    let d = c.digit_from.ensures c.if-digit_from.true in
    c.without_sign.ensures
    ∙ ap (λ (n : ℕ). number_reply (without_sign (some n))) c.with_digit.ensures
    ∙ sym (ap number_reply (read_one c.args.text.now c.args.from c.args.end c.requires.1 c.requires.0 d.0 d.1))

read-part-requires : tie.Need-read_part-requires
read-part-requires c κs = search rules

returns-2 : tie.Need-returns
returns-2 c = search rules

pub one_digit_spec : {M : Type 1} → statement M
one_digit_spec =
    tie.close
    (tie.spec
    shared-slice-read-a
    digit-from-requires
    with-digit-requires
    without-sign-requires
    returns
    read-part-requires
    returns-2)
