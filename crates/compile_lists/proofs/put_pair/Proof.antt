-- `compile_lists::put_pair` meets its contract: six stores in a row.
-- Assumes nothing.
use Rattle.compiling.proofs.OpTables.{put_row_lem}
use borrow.Author.Rules.{rules}
use Rattle.compile_lists.proofs.put_pair.Statement.{statement}
use Rattle.compile_lists.proofs.put_pair.Tie as tie

get-requires : tie.Need-get-requires
get-requires c κs = search rules

left-word-requires : tie.Need-left_word-requires
left-word-requires c κs = search rules

put-word-requires : tie.Need-put_word-requires
put-word-requires c κs = search rules

add-put-word : tie.Need-overflow_add-p
add-put-word c = search rules

get-requires-2 : tie.Need-get-requires-2
get-requires-2 c κs = search rules

put-word-requires-2 : tie.Need-put_word-requires-2
put-word-requires-2 c κs = search rules

add-put-word-2 : tie.Need-overflow_add-p-2
add-put-word-2 c = search rules

get-requires-3 : tie.Need-get-requires-3
get-requires-3 c κs = search rules

put-word-requires-3 : tie.Need-put_word-requires-3
put-word-requires-3 c κs = search rules

add-put-word-3 : tie.Need-overflow_add-p-3
add-put-word-3 c = search rules

get-requires-4 : tie.Need-get-requires-4
get-requires-4 c κs = search rules

put-word-requires-4 : tie.Need-put_word-requires-4
put-word-requires-4 c κs = search rules

add-put-word-4 : tie.Need-overflow_add-p-4
add-put-word-4 c = search rules

get-requires-5 : tie.Need-get-requires-5
get-requires-5 c κs = search rules

put-word-requires-5 : tie.Need-put_word-requires-5
put-word-requires-5 c κs = search rules

add-put-word-5 : tie.Need-overflow_add-p-5
add-put-word-5 c = search rules

get-requires-6 : tie.Need-get-requires-6
get-requires-6 c κs = search rules

put-word-requires-6 : tie.Need-put_word-requires-6
put-word-requires-6 c κs = search rules

same_length : tie.Need-shape_of-pairs
same_length c = search rules

returns : tie.Need-returns
returns c =
    put_row_lem c.args.work.now c.args.k c.args.p c.args.pairs.now c.put_word.new.s c.put_word-2.new.s c.put_word-3.new.s c.put_word-4.new.s
    c.put_word-5.new.s c.put_word-6.new.s c.left_word.result c.get.result c.get-2.result c.get-3.result c.get-4.result c.get-5.result c.get-6.result
    c.put_word.ensures c.put_word-2.ensures c.put_word-3.ensures c.put_word-4.ensures c.put_word-5.ensures c.put_word-6.ensures c.left_word.ensures
    c.get.ensures c.get-2.ensures c.get-3.ensures c.get-4.ensures c.get-5.ensures c.get-6.ensures

pub put_pair_spec : {M : Type 1} → statement M
put_pair_spec =
    tie.close
    (tie.spec
    get-requires
    left-word-requires
    put-word-requires
    add-put-word
    get-requires-2
    put-word-requires-2
    add-put-word-2
    get-requires-3
    put-word-requires-3
    add-put-word-3
    get-requires-4
    put-word-requires-4
    add-put-word-4
    get-requires-5
    put-word-requires-5
    add-put-word-5
    get-requires-6
    put-word-requires-6
    same_length
    returns)
