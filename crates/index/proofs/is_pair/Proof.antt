-- `index::is_pair` meets its contract: the right decides, and then the left.
-- Assumes nothing.
use Rattle.index.proofs.Looking.{other_right, left_decides}
use borrow.Author.Rules.{rules}
use Rattle.index.proofs.is_pair.Statement.{statement}
use Rattle.index.proofs.is_pair.Tie as tie

mul-word-at : tie.Need-overflow_mul-k
mul-word-at c = search rules

add-word-at : tie.Need-overflow_add-k
add-word-at c = search rules

word-at-requires : tie.Need-word_at-requires
word-at-requires c κs = search rules

returns : tie.Need-returns-then-word_at-right
returns c =
    other_right c.args.pairs.now c.args.k c.args.left c.args.right c.word_at.ensures c.ranges.right.fits c.if-word_at-right.true

mul-word-at-2 : tie.Need-overflow_mul-k-2
mul-word-at-2 c = search rules

word-at-requires-2 : tie.Need-word_at-requires-2
word-at-requires-2 c κs = search rules

left-place-requires : tie.Need-left_place-requires
left-place-requires c κs = search rules

returns-2 : tie.Need-returns
returns-2 c =
    let a = c.args in
    rw c.left_place.ensures
    (left_decides a.pairs.now a.k a.left a.right c.word_at.ensures c.if-word_at-right.false c.word_at-2.ensures)

pub is_pair_spec : {M : Type 1} → statement M
is_pair_spec =
    tie.close
    (tie.spec
    mul-word-at
    add-word-at
    word-at-requires
    returns
    mul-word-at-2
    word-at-requires-2
    left-place-requires
    returns-2)
