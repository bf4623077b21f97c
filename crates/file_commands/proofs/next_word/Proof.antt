-- `file_commands::next_word` meets its contract: below 128 the byte is the next.
-- Assumes nothing.
use native.Mathlib.Omega.{arith}
use borrow.Author.Tests.{lt-ltb, le-ltb}
use Rattle.words.proofs.Bits.{number_pos}
use Rattle.file_commands.proofs.next_word.Statement.{statement}
use Rattle.file_commands.proofs.next_word.Tie as tie

returns : tie.Need-returns-then-a-lt128
returns c = let a = c.args.a in rw (lt-ltb a 128 c.if-a-lt128.true) (number_pos a (omega arith))

returns-2 : tie.Need-returns-else-a-lt128
returns-2 c = rw (le-ltb c.args.a 128 c.if-a-lt128.false)

pub next_word_spec : {M : Type 1} → statement M
next_word_spec =
    tie.close
    (tie.spec
    returns
    returns-2)
