-- `chip_block::put_item` meets its contract: four bytes, and then the value.
-- Assumes nothing.
use mathlib.Core.Path.{◌∙◌}
use borrow.Author.Rules.{rules}
use Rattle.chip_block.proofs.put_item.Statement.{statement}
use Rattle.chip_block.proofs.put_item.Tie as tie

put-bytes-requires : tie.Need-put_bytes-requires
put-bytes-requires c κs = search rules

put-number-requires : tie.Need-put_number-requires
put-number-requires c κs = search rules

same_length : tie.Need-shape_of-block
same_length c = search rules

returns : tie.Need-returns
returns c = c.put_number.ensures ∙ rw c.put_bytes.ensures

pub put_item_spec : {M : Type 1} → statement M
put_item_spec =
    tie.close
    (tie.spec
    put-bytes-requires
    put-number-requires
    same_length
    returns)
