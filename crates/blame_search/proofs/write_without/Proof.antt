-- `blame_search::write_without` meets its contract: the instructions are copied, and two numbers of one are written.
-- Assumes nothing.
use mathlib.Core.Path.{◌∙◌}
use Prim.Native.Nat.{◌+◌, ◌*◌}
use lib.IntN.{pos}
use lib.ListN.{set}
use borrow.Author.Rules.{rules}
use Rattle.blame_search.proofs.write_without.Statement.{statement}
use Rattle.blame_search.proofs.write_without.Tie as tie

copy-numbers-requires : tie.Need-copy_numbers-requires
copy-numbers-requires c κs = search rules

mul-put-word : tie.Need-overflow_mul-i
mul-put-word c = search rules

add-put-word : tie.Need-overflow_add-i
add-put-word c = search rules

put-word-requires : tie.Need-put_word-requires
put-word-requires c κs = search rules

mul-put-word-2 : tie.Need-overflow_mul-i-2
mul-put-word-2 c = search rules

add-put-word-2 : tie.Need-overflow_add-i-2
add-put-word-2 c = search rules

put-word-requires-2 : tie.Need-put_word-requires-2
put-word-requires-2 c κs = search rules

same_length : tie.Need-shape_of-edited
same_length c = search rules

returns : tie.Need-returns
returns c =
    let i = c.args.i in
    c.put_word-2.ensures
    ∙ (λ j. set ((c.put_word.ensures ∙ (λ k. set (c.copy_numbers.ensures k) (4 * i + 2) (pos 3))) j) (4 * i + 3) (pos 0))

pub write_without_spec : {M : Type 1} → statement M
write_without_spec =
    tie.close
    (tie.spec
    copy-numbers-requires
    mul-put-word
    add-put-word
    put-word-requires
    mul-put-word-2
    add-put-word-2
    put-word-requires-2
    same_length
    returns)
