-- `letter_set::letter_after` meets its contract: the letter from the next character on.
-- Assumes nothing.
use mathlib.Core.Path.{sym, ap, ◌∙◌}
use Prim.Native.Nat.{ℕ, suc}
use native.Mathlib.Numerals.{add-one}
use native.Mathlib.Omega.{arith}
use borrow.Author.Rules.{rules}
use Rattle.letter_set.specs.LetterSets.{letter_from, letter_found}
use Rattle.letter_set.proofs.Numbers.{nothing_past}
use Rattle.letter_set.proofs.letter_after.Statement.{statement}
use Rattle.letter_set.proofs.letter_after.Tie as tie

returns : tie.Need-returns-then-c-gt255
returns c =
    let a = c.args in
    ap letter_found (sym (nothing_past a.letters.now (suc a.c) (omega (arith, c.if-c-gt255.true))))

add-letter-from : tie.Need-overflow_add-c
add-letter-from c = search rules

letter-from-requires : tie.Need-letter_from-requires
letter-from-requires c κs = search rules

returns-2 : tie.Need-returns
returns-2 c =
    let a = c.args in
    c.letter_from.ensures ∙ ap (λ (i : ℕ). letter_found (letter_from a.letters.now i)) (add-one a.c)

pub letter_after_spec : {M : Type 1} → statement M
letter_after_spec =
    tie.close
    (tie.spec
    returns
    add-letter-from
    letter-from-requires
    returns-2)
