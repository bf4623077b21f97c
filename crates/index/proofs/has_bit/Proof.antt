-- `index::has_bit` meets its contract: the bit of a number that was read.
-- Assumes nothing.
use Rattle.index.proofs.Looking.{bit_past, bit_is}
use borrow.Author.Rules.{rules}
use Rattle.index.proofs.has_bit.Statement.{statement}
use Rattle.index.proofs.has_bit.Tie as tie

returns : tie.Need-returns-then-right-gt255
returns c = let a = c.args in bit_past a.index.now a.left a.right c.if-right-gt255.true

mul-index-at : tie.Need-overflow_mul-left
mul-index-at c = search rules

add-index-at : tie.Need-overflow_add-left
add-index-at c = search rules

index-at-requires : tie.Need-index_at-word-requires
index-at-requires c κs = search rules

cast-result : tie.Need-overflow_cast-result
cast-result c = search rules

shr-result : tie.Need-overflow_shr-result
shr-result c = search rules

returns-2 : tie.Need-returns
returns-2 c = let a = c.args in bit_is a.index.now a.left a.right c.if-right-gt255.false c.index_at-word.ensures

pub has_bit_spec : {M : Type 1} → statement M
has_bit_spec =
    tie.close
    (tie.spec
    returns
    mul-index-at
    add-index-at
    index-at-requires
    cast-result
    shr-result
    returns-2)
