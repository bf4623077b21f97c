-- `letter_set::letter_from` meets its contract. The loop's invariant: from the place reached the same letter is found as from c. The measure is how many
-- characters are left. Assumes nothing.
use mathlib.Core.Path.{◌≡◌, refl, sym, ap, ◌∙◌}
use Prim.Native.Nat.{ℕ, ◌-◌}
use mathlib.Core.Option.{Option}
use native.Mathlib.Omega.{arith}
use borrow.Author.Rules.{rules}
use Rattle.letter_set.specs.LetterSets.{letter_from, letter_found}
use Rattle.letter_set.proofs.Numbers.{goes_on, zeros_inside, letter_here, nothing_past}
use Rattle.letter_set.proofs.letter_from.Statement.{statement}
use Rattle.letter_set.proofs.letter_from.Tie as tie

abbrev invariant-loop : tie.invariant-loop-at
invariant-loop letters c at₀ at = letter_from letters at ≡ letter_from letters c

abbrev decreases-loop : tie.decreases-loop-at
decreases-loop letters c at₀ at = 256 - at

loop-holds : tie.Need-loop-at-init invariant-loop decreases-loop
loop-holds c = refl

cast-u64-at : tie.Need-overflow_cast-at invariant-loop decreases-loop
cast-u64-at c = search rules

item-at-requires : tie.Need-item_at-requires invariant-loop decreases-loop
item-at-requires c κs = search rules

cast-own : tie.Need-overflow_cast-own invariant-loop decreases-loop
cast-own c = search rules

shr-own : tie.Need-overflow_shr-own invariant-loop decreases-loop
shr-own c = search rules

add-t14 : tie.Need-overflow_add-result invariant-loop decreases-loop
add-t14 c =
    record {
      fits =
          omega (
            arith,
            zeros_inside c.args.letters.now c.loop-at.at c.item_at.result c.loop-at-test.true c.item_at.ensures c.item_at.type_inv c.if-own-ne0.true,
          );
    }

returns : tie.Need-returns-then-own-ne0 invariant-loop decreases-loop
returns c =
    ap letter_found
    (sym (letter_here c.args.letters.now c.loop-at.at c.item_at.result c.loop-at-test.true c.item_at.ensures c.item_at.type_inv c.if-own-ne0.true)
    ∙ c.loop-at.invariant)

mul_at : tie.Need-overflow_mul-at invariant-loop decreases-loop
mul_at c = search rules

add_at : tie.Need-overflow_add-at invariant-loop decreases-loop
add_at c = search rules

loop-less : tie.Need-loop-at-smaller invariant-loop decreases-loop
loop-less c = omega (arith, c.loop-at-test.true)

loop-again : tie.Need-loop-at-preserved invariant-loop decreases-loop
loop-again c =
    goes_on c.args.letters.now c.loop-at.at c.item_at.result c.loop-at-test.true c.item_at.ensures c.item_at.type_inv c.if-own-ne0.false ∙ c.loop-at.invariant

returns-2 : tie.Need-returns invariant-loop decreases-loop
returns-2 c =
    ap letter_found (sym (nothing_past c.args.letters.now c.loop-at.at (search rules)) ∙ c.loop-at.invariant)

pub letter_from_spec : {M : Type 1} → statement M
letter_from_spec =
    tie.close
    (tie.spec
    invariant-loop
    decreases-loop
    loop-holds
    cast-u64-at
    item-at-requires
    cast-own
    shr-own
    add-t14
    returns
    mul_at
    add_at
    loop-less
    loop-again
    returns-2)
