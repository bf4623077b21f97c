-- `letter_set::is_member` meets its contract: the bit of a number that was read.
-- Assumes nothing.
use borrow.Author.Rules.{rules}
use Rattle.letter_set.proofs.Numbers.{no_letter, letter_is}
use Rattle.letter_set.proofs.is_member.Statement.{statement}
use Rattle.letter_set.proofs.is_member.Tie as tie

returns : tie.Need-returns-then-c-gt255
returns c = let a = c.args in no_letter a.letters.now a.c (search rules)

cast-u64-at : tie.Need-overflow_cast-c
cast-u64-at c = search rules

item-at-requires : tie.Need-item_at-number-requires
item-at-requires c κs = search rules

cast-result : tie.Need-overflow_cast-result
cast-result c = search rules

shr-result : tie.Need-overflow_shr-result
shr-result c = search rules

returns-2 : tie.Need-returns
returns-2 c = let a = c.args in letter_is a.letters.now a.c c.item_at-number.result (search rules) c.item_at-number.ensures

pub is_member_spec : {M : Type 1} → statement M
is_member_spec =
    tie.close
    (tie.spec
    returns
    cast-u64-at
    item-at-requires
    cast-result
    shr-result
    returns-2)
