-- `text_fields::read_number` meets its contract. Assumes nothing.
use mathlib.Core.Path.{sym, ap, ◌∙◌}
use native.Mathlib.Omega.{arith}
use borrow.Author.Rules.{rules}
use Rattle.columns.specs.Numbers.{with_sign, without_sign}
use Rattle.columns.specs.Scanned.{number_reply}
use Rattle.text_fields.proofs.Decimals.{read_none, read_minus, read_plain}
use Rattle.text_fields.proofs.read_number.Statement.{statement}
use Rattle.text_fields.proofs.read_number.Tie as tie

returns : tie.Need-returns-then-from-end
returns c =
    sym (ap number_reply (read_none c.args.text.now c.args.from c.args.end c.requires.part.inside c.if-from-end.true))

shared-slice-read-if2 : tie.Need-bounds-text-from
shared-slice-read-if2 c = search rules

add-unsigned : tie.Need-overflow_add-from
add-unsigned c = search rules

unsigned-requires : tie.Need-unsigned-requires
unsigned-requires c κs = search rules

with-sign-requires : tie.Need-with_sign-requires
with-sign-requires c κs = search rules

returns-2 : tie.Need-returns-then-text-from-eq45
returns-2 c =
    c.with_sign.ensures
    ∙ ap (λ r. number_reply (with_sign r)) c.unsigned.ensures
    ∙ sym (ap number_reply
    (read_minus c.args.text.now c.args.from c.args.end c.requires.part.inside (omega (arith, c.if-from-end.false)) c.if-text-from-eq45.true))

unsigned-requires-2 : tie.Need-unsigned-requires-2
unsigned-requires-2 c κs = search rules

without-sign-requires : tie.Need-without_sign-requires
without-sign-requires c κs = search rules

returns-3 : tie.Need-returns
returns-3 c =
    c.without_sign.ensures
    ∙ ap (λ r. number_reply (without_sign r)) c.unsigned-2.ensures
    ∙ sym (ap number_reply
    (read_plain c.args.text.now c.args.from c.args.end c.requires.part.inside (omega (arith, c.if-from-end.false))
    (c.requires.other (omega (arith, c.if-from-end.false))) c.if-text-from-eq45.false))

pub read_number_spec : {M : Type 1} → statement M
read_number_spec =
    tie.close
    (tie.spec
    returns
    shared-slice-read-if2
    add-unsigned
    unsigned-requires
    with-sign-requires
    returns-2
    unsigned-requires-2
    without-sign-requires
    returns-3)
