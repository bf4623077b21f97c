-- `phrase_put::put_counted` meets its contract.
-- Assumes nothing.
use Rattle.phrases.proofs.Putting.{puts_more}
use borrow.Author.Rules.{rules}
use Rattle.phrase_put.proofs.put_counted.Statement.{statement}
use Rattle.phrase_put.proofs.put_counted.Tie as tie

put-text-requires : tie.Need-put_text-next-requires
put-text-requires c κs = search rules

put-decimal-requires : tie.Need-put_decimal-requires
put-decimal-requires c κs = search rules

same_length : tie.Need-shape_of-out
same_length c = search rules

returns : tie.Need-returns
returns c = puts_more c.put_text-next.ensures c.put_decimal.ensures

pub put_counted_spec : {M : Type 1} → statement M
put_counted_spec =
    tie.close
    (tie.spec
    put-text-requires
    put-decimal-requires
    same_length
    returns)
