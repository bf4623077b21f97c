-- `step_quick_op::number_in` meets its contract: the number is in the list.
-- Assumes nothing.
use Rattle.lang.proofs.Records.{word_passed}
use Rattle.captions.specs.Tables.{number}
use borrow.Author.Rules.{rules}
use Rattle.step_quick_op.proofs.number_in.Statement.{statement}
use Rattle.step_quick_op.proofs.number_in.Tie as tie

mul-word-of : tie.Need-overflow_mul-k
mul-word-of c = search rules

add-word-of : tie.Need-overflow_add-k
add-word-of c = search rules

mul-word-of-2 : tie.Need-offset_bounds-pairs-k
mul-word-of-2 c = search rules

shared-slice-copy-out-word-of : tie.Need-bounds-pairs-k
shared-slice-copy-out-word-of c = search rules

word-of-requires : tie.Need-word_of-requires
word-of-requires c κs = search rules

returns : tie.Need-returns
returns c =
    let a = c.args in
    word_passed {x = number a.pairs.now a.k a.j} (record { sfits = c.word_of-arg-1.given }) c.word_of.ensures

pub number_in_spec : {M : Type 1} → statement M
number_in_spec =
    tie.close
    (tie.spec
    mul-word-of
    add-word-of
    mul-word-of-2
    shared-slice-copy-out-word-of
    word-of-requires
    returns)
