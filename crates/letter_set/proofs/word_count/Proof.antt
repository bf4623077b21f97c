-- `letter_set::word_count` meets its contract: the powers of the number of letters, which is at most 256.
-- Assumes nothing.
use mathlib.Core.Path.{◌≡◌, ap}
use Prim.Native.Nat.{◌*◌, ◌≤◌}
use native.Mathlib.Nat.{mul-le-mul}
use native.Mathlib.Omega.{arith}
use borrow.Author.Rules.{rules}
use Rattle.index.proofs.Tests.{many_le}
use Rattle.letter_set.specs.LetterSets.{letter_in, word_count}
use Rattle.letter_set.proofs.Numbers.{Powers, powers}
use Rattle.letter_set.proofs.word_count.Statement.{statement}
use Rattle.letter_set.proofs.word_count.Tie as tie

alphabet-size-requires : tie.Need-alphabet_size-n-requires
alphabet-size-requires c κs = search rules

cast-n : tie.Need-overflow_cast-n
cast-n c = search rules

mul-two : tie.Need-overflow_mul-two
mul-two c = let p = powers c.args.letters.now c.alphabet_size-n.result c.alphabet_size-n.ensures in record { fits = omega (arith, p.two) }

mul-three : tie.Need-overflow_mul-three
mul-three c = let p = powers c.args.letters.now c.alphabet_size-n.result c.alphabet_size-n.ensures in record { fits = omega (arith, p.three) }

add-result : tie.Need-overflow_add-result
add-result c = search rules

add-result-2 : tie.Need-overflow_add-result-2
add-result-2 c =
    let p = powers c.args.letters.now c.alphabet_size-n.result c.alphabet_size-n.ensures in
    record { fits = omega (arith, p.first, p.two) }

add-result-3 : tie.Need-overflow_add-result-3
add-result-3 c =
    let p = powers c.args.letters.now c.alphabet_size-n.result c.alphabet_size-n.ensures in
    record { fits = omega (arith, p.first, p.two, p.three) }

mul-result : tie.Need-overflow_mul-result
mul-result c = let p = powers c.args.letters.now c.alphabet_size-n.result c.alphabet_size-n.ensures in record { fits = omega (arith, p.four) }

add-result-4 : tie.Need-overflow_add-result-4
add-result-4 c =
    let p = powers c.args.letters.now c.alphabet_size-n.result c.alphabet_size-n.ensures in
    record { fits = omega (arith, p.first, p.two, p.three, p.four) }

returns : tie.Need-returns
returns c = ap word_count c.alphabet_size-n.ensures

pub word_count_spec : {M : Type 1} → statement M
word_count_spec =
    tie.close
    (tie.spec
    alphabet-size-requires
    cast-n
    mul-two
    mul-three
    add-result
    add-result-2
    add-result-3
    mul-result
    add-result-4
    returns)
