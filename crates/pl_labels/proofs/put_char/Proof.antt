-- `pl_labels::put_char` meets its contract: its parts one after the other.
-- Assumes nothing.
use Rattle.pl_labels.proofs.Labels.{char_put}
use borrow.Author.Rules.{rules}
use Rattle.pl_labels.proofs.put_char.Statement.{statement}
use Rattle.pl_labels.proofs.put_char.Tie as tie

put-bytes-requires : tie.Need-put_bytes-first-requires
put-bytes-requires c κs = search rules

put-leading-requires : tie.Need-put_leading-second-requires
put-leading-requires c κs = search rules

put-leading-requires-2 : tie.Need-put_leading-last-requires
put-leading-requires-2 c κs = search rules

cast-put-byte : tie.Need-overflow_cast-c
cast-put-byte c = search rules

add-put-byte : tie.Need-overflow_add-c
add-put-byte c = search rules

put-byte-requires : tie.Need-put_byte-requires
put-byte-requires c κs = search rules

same_length : tie.Need-shape_of-out
same_length c = search rules

returns : tie.Need-returns
returns c =
    char_put c.args.c c.put_bytes-first.ensures c.put_leading-second.ensures c.put_leading-last.ensures c.put_byte.ensures

pub put_char_spec : {M : Type 1} → statement M
put_char_spec =
    tie.close
    (tie.spec
    put-bytes-requires
    put-leading-requires
    put-leading-requires-2
    cast-put-byte
    add-put-byte
    put-byte-requires
    same_length
    returns)
