-- `phrase_put::put_code` meets its contract.
-- Assumes nothing.
use mathlib.Core.Path.{sym, ◌∙◌}
use Rattle.phrase_put.proofs.Codes.{puts_printed, puts_hidden}
use borrow.Author.Rules.{rules}
use Rattle.phrase_put.proofs.put_code.Statement.{statement}
use Rattle.phrase_put.proofs.put_code.Tie as tie

is-printed-requires : tie.Need-is_printed-requires
is-printed-requires c κs = search rules

cast-put-byte : tie.Need-overflow_cast-c
cast-put-byte c = search rules

put-byte-requires : tie.Need-put_byte-requires
put-byte-requires c κs = search rules

same_length : tie.Need-shape_of-out-then-is_printed
same_length c = search rules

returns : tie.Need-returns-then-is_printed
returns c =
    puts_printed c.args.c (sym c.is_printed.ensures ∙ c.if-is_printed.true) c.put_byte.ensures

put-paren-requires : tie.Need-put_paren-requires
put-paren-requires c κs = search rules

same-length-2 : tie.Need-shape_of-out
same-length-2 c = search rules

returns-2 : tie.Need-returns
returns-2 c =
    (puts_hidden c.args.c (sym c.is_printed.ensures ∙ c.if-is_printed.false) c.put_paren.ensures).0

pub put_code_spec : {M : Type 1} → statement M
put_code_spec =
    tie.close
    (tie.spec
    is-printed-requires
    cast-put-byte
    put-byte-requires
    same_length
    returns
    put-paren-requires
    same-length-2
    returns-2)
