-- `step_quick::left::has_letter` meets its contract, by its tests.
-- Assumes nothing.
use lib.ListN.{length}
use borrow.Author.Tests.{lt-ltb, le-ltb}
use Rattle.step_quick.proofs.left.has_letter.Statement.{statement}
use Rattle.step_quick.proofs.left.has_letter.Tie as tie

returns : tie.Need-returns-then-word-s
returns c = let a = c.args in rw (le-ltb a.s.read (length a.word.now) c.if-word-s.true)

returns-2 : tie.Need-returns
returns-2 c = let a = c.args in rw (lt-ltb a.s.read (length a.word.now) c.if-word-s.false)

pub has_letter_spec : {M : Type 1} → statement M
has_letter_spec =
    tie.close
    (tie.spec
    returns
    returns-2)
