-- `text_fields::numbers::without_sign` meets its contract. Assumes nothing.
use borrow.Author.Rules.{rules}
use Rattle.text_fields.proofs.Decimals.{without_beyond, without_is}
use Rattle.text_fields.proofs.numbers.without_sign.Statement.{statement}
use Rattle.text_fields.proofs.numbers.without_sign.Tie as tie

enum-known-digits : tie.Need-enum_known-digits
enum-known-digits c = search rules

enum_told : tie.Need-enum_told-1
enum_told c = search rules

returns : tie.Need-returns-in_default
returns c = search rules

returns-2 : tie.Need-returns-then-n-gt2147483647
returns-2 c =
    without_beyond c.args.digits _ c.in-Value.is c.if-n-gt2147483647.true

cast-number-of : tie.Need-overflow_cast-n
cast-number-of c = search rules

number-of-requires : tie.Need-number_of-requires
number-of-requires c κs = search rules

returns-3 : tie.Need-returns
returns-3 c =
    without_is c.args.digits _ c.in-Value.is c.if-n-gt2147483647.false c.number_of.result c.number_of.ensures

pub without_sign_spec : {M : Type 1} → statement M
without_sign_spec =
    tie.close
    (tie.spec
    enum-known-digits
    enum_told
    returns
    returns-2
    cast-number-of
    number-of-requires
    returns-3)
