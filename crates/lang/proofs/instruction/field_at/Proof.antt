-- `lang::instruction::field_at` meets its contract: below the number of instructions the element's word, past it 0.
-- Assumes nothing.
use mathlib.Core.Path.{refl}
use Prim.Native.Nat.{◌/◌}
use lib.ListN.{length}
use mir.Facts.{sfits_lit}
use borrow.Author.Rules.{rules}
use borrow.Author.Tests.{lt-ltb, le-ltb}
use Rattle.lang.proofs.instruction.field_at.Statement.{statement}
use Rattle.lang.proofs.instruction.field_at.Tie as tie

mul-word-at : tie.Need-overflow_mul-i
mul-word-at c = search rules

add-word-at : tie.Need-overflow_add-i
add-word-at c = search rules

word-at-requires : tie.Need-word_at-requires
word-at-requires c κs = search rules

returns : tie.Need-returns-then-i-instructions
returns c = let a = c.args in rw (lt-ltb a.i (length a.instructions.now / 4) c.if-i-instructions.true) c.word_at.ensures

returns-2 : tie.Need-returns-else-i-instructions
returns-2 c = let a = c.args in rw (le-ltb a.i (length a.instructions.now / 4) c.if-i-instructions.false) (record { is = refl; fits = sfits_lit tt })

pub field_at_spec : {M : Type 1} → statement M
field_at_spec =
    tie.close
    (tie.spec
    mul-word-at
    add-word-at
    word-at-requires
    returns
    returns-2)
