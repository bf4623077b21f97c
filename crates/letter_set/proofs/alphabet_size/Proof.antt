-- `letter_set::alphabet_size` meets its contract: the ones of the four numbers.
-- Assumes nothing.
use native.Mathlib.Omega.{arith}
use lib.Count.{ones-le}
use borrow.Author.Rules.{rules}
use Rattle.letter_set.proofs.Numbers.{size_is}
use Rattle.letter_set.proofs.alphabet_size.Statement.{statement}
use Rattle.letter_set.proofs.alphabet_size.Tie as tie

item-at-requires : tie.Need-item_at-requires
item-at-requires c κs = search rules

item-at-requires-2 : tie.Need-item_at-requires-2
item-at-requires-2 c κs = search rules

add_low : tie.Need-overflow_add-low
add_low c =
    record { fits = omega (arith, ones-le 64 c.item_at.result c.item_at.type_inv, ones-le 64 c.item_at-2.result c.item_at-2.type_inv) }

item-at-requires-3 : tie.Need-item_at-requires-3
item-at-requires-3 c κs = search rules

item-at-requires-4 : tie.Need-item_at-requires-4
item-at-requires-4 c κs = search rules

add-high : tie.Need-overflow_add-high
add-high c =
    record { fits = omega (arith, ones-le 64 c.item_at-3.result c.item_at-3.type_inv, ones-le 64 c.item_at-4.result c.item_at-4.type_inv) }

add-result : tie.Need-overflow_add-result
add-result c =
    record {
      fits =
          omega (
            arith,
            ones-le 64 c.item_at.result c.item_at.type_inv,
            ones-le 64 c.item_at-2.result c.item_at-2.type_inv,
            ones-le 64 c.item_at-3.result c.item_at-3.type_inv,
            ones-le 64 c.item_at-4.result c.item_at-4.type_inv,
          );
    }

returns : tie.Need-returns
returns c =
    size_is c.args.letters.now c.item_at.ensures c.item_at-2.ensures c.item_at-3.ensures c.item_at-4.ensures
    c.item_at.type_inv c.item_at-2.type_inv c.item_at-3.type_inv c.item_at-4.type_inv

pub alphabet_size_spec : {M : Type 1} → statement M
alphabet_size_spec =
    tie.close
    (tie.spec
    item-at-requires
    item-at-requires-2
    add_low
    item-at-requires-3
    item-at-requires-4
    add-high
    add-result
    returns)
