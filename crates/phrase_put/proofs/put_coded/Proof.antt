-- `phrase_put::put_coded` meets its contract.
-- Assumes nothing.
use Rattle.phrases.proofs.Putting.{puts_more}
use borrow.Author.Rules.{rules}
use Rattle.phrase_put.proofs.put_coded.Statement.{statement}
use Rattle.phrase_put.proofs.put_coded.Tie as tie

put-text-requires : tie.Need-put_text-next-requires
put-text-requires c κs = search rules

put-code-requires : tie.Need-put_code-requires
put-code-requires c κs = search rules

same_length : tie.Need-shape_of-out
same_length c = search rules

returns : tie.Need-returns
returns c = puts_more c.put_text-next.ensures c.put_code.ensures

pub put_coded_spec : {M : Type 1} → statement M
put_coded_spec =
    tie.close
    (tie.spec
    put-text-requires
    put-code-requires
    same_length
    returns)
