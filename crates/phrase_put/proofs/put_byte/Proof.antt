-- `phrase_put::put_byte` meets its contract: a byte, or nothing past the end.
-- Assumes nothing.
use borrow.Author.Rules.{rules}
use Rattle.phrases.proofs.Putting.{puts_one, puts_past}
use Rattle.phrase_put.proofs.put_byte.Statement.{statement}
use Rattle.phrase_put.proofs.put_byte.Tie as tie

slice-write-out : tie.Need-bounds-out-at
slice-write-out c = search rules

add-result : tie.Need-overflow_add-result
add-result c = search rules

same_length : tie.Need-shape_of-out-then-at-out
same_length c = search rules

returns : tie.Need-returns-then-at-out
returns c = search rules

returns-2 : tie.Need-returns
returns-2 c = let a = c.args in puts_past a.out.now a.at a.b c.if-at-out.false

pub put_byte_spec : {M : Type 1} → statement M
put_byte_spec =
    tie.close
    (tie.spec
    slice-write-out
    add-result
    same_length
    returns
    returns-2)
