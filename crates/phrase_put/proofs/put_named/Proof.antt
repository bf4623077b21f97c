-- `phrase_put::put_named` meets its contract.
-- Assumes nothing.
use Rattle.phrases.proofs.Putting.{puts_more}
use borrow.Author.Rules.{rules}
use Rattle.phrase_put.proofs.put_named.Statement.{statement}
use Rattle.phrase_put.proofs.put_named.Tie as tie

put-text-requires : tie.Need-put_text-next-requires
put-text-requires c κs = search rules

put-char-requires : tie.Need-put_char-requires
put-char-requires c κs = search rules

same_length : tie.Need-shape_of-out
same_length c = search rules

returns : tie.Need-returns
returns c = puts_more c.put_text-next.ensures c.put_char.ensures

pub put_named_spec : {M : Type 1} → statement M
put_named_spec =
    tie.close
    (tie.spec
    put-text-requires
    put-char-requires
    same_length
    returns)
