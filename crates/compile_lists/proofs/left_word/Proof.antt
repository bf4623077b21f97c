-- `compile_lists::left_word` meets its contract: 0 is the boundary, whose number is -1; any other is one more than its character.
-- Assumes nothing.
use mathlib.Core.Path.{sym, ap}
use Prim.Native.Nat.{ℕ}
use Rattle.fonts.specs.Numbers.{left_number}
use Rattle.fonts.specs.Fonts.{left_of}
use Rattle.compiling.proofs.OpTables.{left_word}
use borrow.Author.Rules.{rules}
use Rattle.compile_lists.proofs.left_word.Statement.{statement}
use Rattle.compile_lists.proofs.left_word.Tie as tie

sub-result : tie.Need-overflow_sub-result
sub-result c = search rules

returns : tie.Need-returns-then-left-eq0
returns c = sym (ap (λ (x : ℕ). left_number (left_of x)) c.if-left-eq0.true)

returns-2 : tie.Need-returns-else-left-eq0
returns-2 c = left_word c.args.left c.requires c.if-left-eq0.false

pub left_word_spec : {M : Type 1} → statement M
left_word_spec =
    tie.close
    (tie.spec
    sub-result
    returns
    returns-2)
