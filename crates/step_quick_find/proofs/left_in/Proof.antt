-- `step_quick_find::left_in` meets its contract: the sum wraps at -1.
-- Assumes nothing.
use Rattle.std.proofs.Common.{◌*◌, get_or, pos, rules}
use Rattle.lang.proofs.Records.{word_passed}
use Rattle.step_quick_find.proofs.Laws.{left_word}
use Rattle.step_quick_find.proofs.left_in.Statement.{statement}
use Rattle.step_quick_find.proofs.left_in.Tie as tie

mul-word-of : tie.Need-overflow_mul-k
mul-word-of c = search rules

mul-word-of-2 : tie.Need-offset_bounds-pairs-k
mul-word-of-2 c = search rules

shared-slice-copy-out-word-of : tie.Need-bounds-pairs-k
shared-slice-copy-out-word-of c = search rules

word-of-requires : tie.Need-word_of-requires
word-of-requires c κs = search rules

wrapping-add-u32-requires : tie.Need-wrapping_add_u32-requires
wrapping-add-u32-requires c κs = search rules

returns : tie.Need-returns
returns c =
    let a = c.args in
    left_word a.pairs.now a.k
    (word_passed {x = get_or a.pairs.now (6 * a.k) (pos 0)} (record { sfits = c.word_of-arg-1.given }) c.word_of.ensures)
    c.wrapping_add_u32.ensures

pub left_in_spec : {M : Type 1} → statement M
left_in_spec =
    tie.close
    (tie.spec
    mul-word-of
    mul-word-of-2
    shared-slice-copy-out-word-of
    word-of-requires
    wrapping-add-u32-requires
    returns)
