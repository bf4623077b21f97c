-- `c_word_write::put_letters` meets its contract: four stores in a row.
-- Assumes nothing.
use borrow.Author.Rules.{rules}
use Rattle.c_word_write.proofs.put_letters.Statement.{statement}
use Rattle.c_word_write.proofs.put_letters.Tie as tie

array-read-put-u32 : tie.Need-bounds-letters-0
array-read-put-u32 c = search rules

put-item-requires : tie.Need-put_item-requires
put-item-requires c κs = search rules

array-read-put-u32-2 : tie.Need-bounds-letters-1
array-read-put-u32-2 c = search rules

put-item-requires-2 : tie.Need-put_item-requires-2
put-item-requires-2 c κs = search rules

array-read-put-u32-3 : tie.Need-bounds-letters-2
array-read-put-u32-3 c = search rules

put-item-requires-3 : tie.Need-put_item-requires-3
put-item-requires-3 c κs = search rules

array-read-put-u32-4 : tie.Need-bounds-letters-3
array-read-put-u32-4 c = search rules

put-item-requires-4 : tie.Need-put_item-requires-4
put-item-requires-4 c κs = search rules

same_length : tie.Need-shape_of-next
same_length c = search rules

returns : tie.Need-returns
returns c = cc

pub put_letters_spec : {M : Type 1} → statement M
put_letters_spec =
    tie.close
    (tie.spec
    array-read-put-u32
    put-item-requires
    array-read-put-u32-2
    put-item-requires-2
    array-read-put-u32-3
    put-item-requires-3
    array-read-put-u32-4
    put-item-requires-4
    same_length
    returns)
