-- `file_commands::kind_word` meets its contract: its tests are those of the definition.
-- Assumes nothing.
use borrow.Author.Tests.{lt-ltb, le-ltb, le-leb, lt-leb}
use Rattle.file_commands.proofs.kind_word.Statement.{statement}
use Rattle.file_commands.proofs.kind_word.Tie as tie

returns : tie.Need-returns-then-a-gt128
returns c = rw (lt-ltb 128 c.args.a c.if-a-gt128.true)

returns-2 : tie.Need-returns-then-c-lt128
returns-2 c = let a = c.args in rw (le-ltb 128 a.a c.if-a-gt128.false, lt-leb 128 a.c c.if-c-lt128.true)

returns-3 : tie.Need-returns-else-c-lt128
returns-3 c = let a = c.args in rw (le-ltb 128 a.a c.if-a-gt128.false, le-leb 128 a.c c.if-c-lt128.false)

pub kind_word_spec : {M : Type 1} → statement M
kind_word_spec =
    tie.close
    (tie.spec
    returns
    returns-2
    returns-3)
