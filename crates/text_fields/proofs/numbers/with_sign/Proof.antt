-- `text_fields::numbers::with_sign` meets its contract. Assumes nothing.
use borrow.Author.Rules.{rules}
use Rattle.text_fields.proofs.Decimals.{with_zero, with_beyond, with_is}
use Rattle.text_fields.proofs.numbers.with_sign.Statement.{statement}
use Rattle.text_fields.proofs.numbers.with_sign.Tie as tie

enum-known-digits : tie.Need-enum_known-digits
enum-known-digits c = search rules

enum_told : tie.Need-enum_told-1
enum_told c = search rules

returns : tie.Need-returns-in_default
returns c = search rules

returns-2 : tie.Need-returns-then-n-eq0
returns-2 c =
    with_zero c.args.digits _ c.in-Value.is c.if-n-eq0.true

returns-3 : tie.Need-returns-then-n-gt2147483648
returns-3 c =
    with_beyond c.args.digits _ c.in-Value.is c.if-n-gt2147483648.true

sub-number-of : tie.Need-overflow_sub-n
sub-number-of c = search rules

cast-number-of : tie.Need-overflow_cast-n
cast-number-of c = search rules

number-of-requires : tie.Need-number_of-requires
number-of-requires c κs = search rules

returns-4 : tie.Need-returns
returns-4 c =
    with_is c.args.digits _ c.in-Value.is c.if-n-eq0.false c.if-n-gt2147483648.false c.number_of.result c.number_of.ensures

pub with_sign_spec : {M : Type 1} → statement M
with_sign_spec =
    tie.close
    (tie.spec
    enum-known-digits
    enum_told
    returns
    returns-2
    returns-3
    sub-number-of
    cast-number-of
    number-of-requires
    returns-4)
