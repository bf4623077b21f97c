-- `compile_ops::put_op` meets its contract: two stores in a row.
-- Assumes nothing.
use mathlib.Core.Path.{refl}
use Rattle.words.specs.Words.{number_of}
use Rattle.compiling.proofs.OpTables.{put_two}
use borrow.Author.Rules.{rules}
use Rattle.compile_ops.proofs.put_op.Statement.{statement}
use Rattle.compile_ops.proofs.put_op.Tie as tie

put-word-requires : tie.Need-put_word-requires
put-word-requires c κs = search rules

add-put-word : tie.Need-overflow_add-p
add-put-word c = search rules

put-word-requires-2 : tie.Need-put_word-requires-2
put-word-requires-2 c κs = search rules

add-result : tie.Need-overflow_add-result
add-result c = search rules

same_length : tie.Need-shape_of-ops
same_length c = search rules

returns : tie.Need-returns
returns c =
    let a = c.args in (
      refl,
      put_two a.ops.now c.put_word.new.s c.put_word-2.new.s a.p (number_of a.kind)
          (number_of a.value) c.put_word.ensures c.put_word-2.ensures,
    )

pub put_op_spec : {M : Type 1} → statement M
put_op_spec =
    tie.close
    (tie.spec
    put-word-requires
    add-put-word
    put-word-requires-2
    add-result
    same_length
    returns)
