-- `text_reply::parts::put_reply` meets its contract: the table, the loops and the word, each where the one before it ends.
-- Assumes nothing.
use mathlib.Core.List.{◌++◌}
use native.Mathlib.Omega.{arith}
use Rattle.words.specs.Words.{number_of}
use Rattle.text_lines.specs.Writing.{Puts}
use Rattle.text_lines.proofs.Steps.{puts_both, puts_length}
use Rattle.text_reply.specs.Sizes.{table_bytes}
use Rattle.text_reply.proofs.Whole.{loop_bytes, loops_put, parts_fit, word_fits, all_put}
use borrow.Author.Rules.{rules}
use Rattle.text_reply.proofs.parts.put_reply.Statement.{statement}
use Rattle.text_reply.proofs.parts.put_reply.Tie as tie

put-table-requires : tie.Need-put_table-ops_end-requires
put-table-requires c κs =
    let a = c.args in
    omega (arith, parts_fit a.pairs.now a.ops.now a.loops.now (number_of a.letters) a.items.now a.out.now c.requires)

-- the table and the loops after it are written
front : (c : tie.After-put_lines-loops_end) → let a = c.args in
    Puts (table_bytes a.pairs.now a.ops.now ++ loop_bytes a.loops.now) a.out.now 0 c.put_lines-loops_end.result c.put_lines-loops_end.new.out
front c =
    let a = c.args in
    let f = parts_fit a.pairs.now a.ops.now a.loops.now (number_of a.letters) a.items.now a.out.now c.requires in
    let p = c.put_table-ops_end.ensures in
    let q = loops_put a.loops.now (omega (arith, f, c.put_table-ops_end.ensures.next, puts_length p)) c.put_lines-loops_end.ensures in
    puts_both p q

put-lines-requires : tie.Need-put_lines-loops_end-requires
put-lines-requires c κs = tt

put-set-word-requires : tie.Need-put_set_word-requires
put-set-word-requires c κs =
    let a = c.args in
    word_fits a.pairs.now a.ops.now a.loops.now (number_of a.letters) a.items.now a.out.now c.requires (front (c.before.before.before))

same_length : tie.Need-shape_of-out
same_length c = search rules

returns : tie.Need-returns
returns c =
    let a = c.args in
    all_put a.pairs.now a.ops.now a.loops.now (number_of a.letters) a.items.now a.out.now c.requires (front (c.before.before.before.before.before.before)) c.put_set_word.ensures

pub put_reply_spec : {M : Type 1} → statement M
put_reply_spec =
    tie.close
    (tie.spec
    put-table-requires
    put-lines-requires
    put-set-word-requires
    same_length
    returns)
