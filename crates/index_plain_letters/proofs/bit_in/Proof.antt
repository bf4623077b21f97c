-- `index_plain_letters::bit_in` meets its contract: the bit of a number that was read.
-- Assumes nothing.
use mathlib.Core.Path.{refl}
use Rattle.index.proofs.Looking.{bit_is}
use borrow.Author.Rules.{rules}
use Rattle.index_plain_letters.proofs.bit_in.Statement.{statement}
use Rattle.index_plain_letters.proofs.bit_in.Tie as tie

mul-word : tie.Need-overflow_mul-word
mul-word c = search rules

add-word : tie.Need-overflow_add-word
add-word c = search rules

mul-word-2 : tie.Need-offset_bounds-index-left
mul-word-2 c = search rules

shared-slice-read-word : tie.Need-bounds-index-left
shared-slice-read-word c = search rules

cast-result : tie.Need-overflow_cast-result
cast-result c = search rules

shr-result : tie.Need-overflow_shr-result
shr-result c = search rules

returns : tie.Need-returns
returns c = let a = c.args in bit_is a.index.now a.left a.right c.requires.2 refl

pub bit_in_spec : {M : Type 1} → statement M
bit_in_spec =
    tie.close
    (tie.spec
    mul-word
    add-word
    mul-word-2
    shared-slice-read-word
    cast-result
    shr-result
    returns)
