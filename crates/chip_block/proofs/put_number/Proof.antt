-- `chip_block::put_number` meets its contract: its four bytes, the highest first.
-- Assumes nothing.
use borrow.Author.Rules.{rules}
use Rattle.chip_block.proofs.put_number.Statement.{statement}
use Rattle.chip_block.proofs.put_number.Tie as tie

cast-a : tie.Need-overflow_cast-a
cast-a c = search rules

cast-b : tie.Need-overflow_cast-b
cast-b c = search rules

cast-c : tie.Need-overflow_cast-c
cast-c c = search rules

cast-put-bytes : tie.Need-overflow_cast-n
cast-put-bytes c = search rules

put-bytes-requires : tie.Need-put_bytes-requires
put-bytes-requires c κs = search rules

same_length : tie.Need-shape_of-block
same_length c = search rules

returns : tie.Need-returns
returns c = c.put_bytes.ensures

pub put_number_spec : {M : Type 1} → statement M
put_number_spec =
    tie.close
    (tie.spec
    cast-a
    cast-b
    cast-c
    cast-put-bytes
    put-bytes-requires
    same_length
    returns)
