-- `word_plain_letters::write_six` meets its contract: six stores in a row.
-- Assumes nothing.
use Rattle.words.specs.Words.{number_of}
use Rattle.compiling.proofs.OpTables as tables
use Rattle.std.proofs.Common.{rules}
use Rattle.word_plain_letters.proofs.write_six.Statement.{statement}
use Rattle.word_plain_letters.proofs.write_six.Tie as tie

put-in-requires : tie.Need-put_in-requires
put-in-requires c κs = search rules

add-put-in : tie.Need-overflow_add-at
add-put-in c = search rules

put-in-requires-2 : tie.Need-put_in-requires-2
put-in-requires-2 c κs = search rules

add-put-in-2 : tie.Need-overflow_add-at-2
add-put-in-2 c = search rules

put-in-requires-3 : tie.Need-put_in-requires-3
put-in-requires-3 c κs = search rules

add-put-in-3 : tie.Need-overflow_add-at-3
add-put-in-3 c = search rules

put-in-requires-4 : tie.Need-put_in-requires-4
put-in-requires-4 c κs = search rules

add-put-in-4 : tie.Need-overflow_add-at-4
add-put-in-4 c = search rules

put-in-requires-5 : tie.Need-put_in-requires-5
put-in-requires-5 c κs = search rules

add-put-in-5 : tie.Need-overflow_add-at-5
add-put-in-5 c = search rules

put-in-requires-6 : tie.Need-put_in-requires-6
put-in-requires-6 c κs = search rules

same_length : tie.Need-shape_of-items
same_length c = search rules

returns : tie.Need-returns
returns c =
    let a =
    c.args
    in
    tables.put_six a.items.now c.put_in.new.s c.put_in-2.new.s c.put_in-3.new.s c.put_in-4.new.s c.put_in-5.new.s c.put_in-6.new.s a.at (number_of a.kind)
    (number_of a.value) (number_of a.start) (number_of a.count) (number_of a.left) (number_of a.right)
    c.put_in.ensures c.put_in-2.ensures c.put_in-3.ensures c.put_in-4.ensures c.put_in-5.ensures c.put_in-6.ensures

pub write_six_spec : {M : Type 1} → statement M
write_six_spec =
    tie.close
    (tie.spec
    put-in-requires
    add-put-in
    put-in-requires-2
    add-put-in-2
    put-in-requires-3
    add-put-in-3
    put-in-requires-4
    add-put-in-4
    put-in-requires-5
    add-put-in-5
    put-in-requires-6
    same_length
    returns)
