-- `file_commands::operand_word` meets its contract: of a kern the flag in the third byte is taken off.
-- Assumes nothing.
use mathlib.Core.Path.{◌≡◌}
use Prim.Native.Nat.{ℕ, ◌+◌, ◌-◌, ◌*◌, ◌<◌, ◌≤◌}
use native.Mathlib.Omega.{arith}
use lib.Dec.{leb}
use lib.IntN.{pos}
use borrow.Author.Tests.{le-leb, lt-leb}
use borrow.Author.Rules.{rules}
use Rattle.words.specs.Words.{number_of}
use Rattle.words.proofs.Bits.{number_pos}
use Rattle.lang.proofs.Every.{both_false}
use Rattle.files.specs.Commands.{command_operand}
use Rattle.file_commands.proofs.operand_word.Statement.{statement}
use Rattle.file_commands.proofs.operand_word.Tie as tie

module _ (a c d : ℕ) (g : c < 256) (h : d < 256) where
  unflagged : c < 128 → number_of (256 * c + d) ≡ pos (command_operand a c d)
  unflagged k = rw (lt-leb 128 c k, both_false (leb a 128)) (number_pos (256 * c + d) (omega arith))

  of-kern : 128 ≤ c → a ≤ 128 → number_of (256 * c + d - 32768) ≡ pos (command_operand a c d)
  of-kern k l =
      let e : 256 * c + d - 32768 ≡ 256 * (c - 128) + d = omega arith in
      rw (le-leb a 128 l, le-leb 128 c k, e) (number_pos (256 * (c - 128) + d) (omega arith))

  of-redirect : 128 < a → number_of (256 * c + d) ≡ pos (command_operand a c d)
  of-redirect l = rw (lt-leb a 128 l) (number_pos (256 * c + d) (omega arith))

mul-word : tie.Need-overflow_mul-word
mul-word c = search rules

add-word : tie.Need-overflow_add-word
add-word c = search rules

returns : tie.Need-returns-then-c-lt128
returns c = let a = c.args in unflagged a.a a.c a.d (omega arith) (omega arith) c.if-c-lt128.true

sub-result : tie.Need-overflow_sub-result
sub-result c = search rules

returns-2 : tie.Need-returns-then-a-le128
returns-2 c =
    let a = c.args in
    of-kern a.a a.c a.d (omega arith) (omega arith) c.if-c-lt128.false c.if-a-le128.true

returns-3 : tie.Need-returns-else-a-le128
returns-3 c = let a = c.args in of-redirect a.a a.c a.d (omega arith) (omega arith) c.if-a-le128.false

pub operand_word_spec : {M : Type 1} → statement M
operand_word_spec =
    tie.close
    (tie.spec
    mul-word
    add-word
    returns
    sub-result
    returns-2
    returns-3)
