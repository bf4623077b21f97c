-- `text_fields::numbers::unsigned` meets its contract. Assumes nothing.
use mathlib.Core.Path.{sym, ◌∙◌}
use native.Mathlib.Omega.{arith}
use borrow.Author.Rules.{rules}
use Rattle.text_fields.proofs.Decimals.{two_at_least, unsigned_none, unsigned_zero, unsigned_zeros, unsigned_digits}
use Rattle.text_fields.proofs.numbers.unsigned.Statement.{statement}
use Rattle.text_fields.proofs.numbers.unsigned.Tie as tie

returns : tie.Need-returns-then-from-end
returns c =
    sym (unsigned_none c.args.text.now c.args.from c.args.end c.requires.inside c.if-from-end.true)

shared-slice-read-if2 : tie.Need-bounds-text-from
shared-slice-read-if2 c = search rules

sub-if3 : tie.Need-overflow_sub-end
sub-if3 c = search rules

returns-2 : tie.Need-returns-then-end-from-eq1
returns-2 c =
    sym (unsigned_zero c.args.text.now c.args.from c.args.end c.requires.inside (omega (arith, c.if-end-from-eq1.true)) c.if-text-from-eq48.true)

returns-3 : tie.Need-returns-then-text-from-eq48
returns-3 c =
    sym (unsigned_zeros c.args.text.now c.args.from c.args.end c.requires.inside
    (two_at_least c.args.from c.args.end c.requires.order c.if-from-end.false c.if-end-from-eq1.false) c.if-text-from-eq48.true)

digits-requires : tie.Need-digits-requires
digits-requires c κs = search rules

returns-4 : tie.Need-returns
returns-4 c =
    c.digits.ensures
    ∙ sym (unsigned_digits c.args.text.now c.args.from c.args.end c.requires.inside (omega (arith, c.if-from-end.false)) c.if-text-from-eq48.false)

pub unsigned_spec : {M : Type 1} → statement M
unsigned_spec =
    tie.close
    (tie.spec
    returns
    shared-slice-read-if2
    sub-if3
    returns-2
    returns-3
    digits-requires
    returns-4)
