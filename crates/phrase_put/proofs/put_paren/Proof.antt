-- `phrase_put::put_paren` meets its contract.
-- Assumes nothing.
use Rattle.phrase_put.proofs.Codes.{puts_paren}
use borrow.Author.Rules.{rules}
use Rattle.phrase_put.proofs.put_paren.Statement.{statement}
use Rattle.phrase_put.proofs.put_paren.Tie as tie

put-byte-requires : tie.Need-put_byte-number-requires
put-byte-requires c κs = search rules

put-decimal-requires : tie.Need-put_decimal-end-requires
put-decimal-requires c κs = search rules

put-byte-requires-2 : tie.Need-put_byte-requires
put-byte-requires-2 c κs = search rules

same_length : tie.Need-shape_of-out
same_length c = search rules

returns : tie.Need-returns
returns c =
    puts_paren c.args.c c.put_byte-number.ensures c.put_decimal-end.ensures c.put_byte.ensures

pub put_paren_spec : {M : Type 1} → statement M
put_paren_spec =
    tie.close
    (tie.spec
    put-byte-requires
    put-decimal-requires
    put-byte-requires-2
    same_length
    returns)
