-- `caption_run::edges::word_refusal` meets its contract: each return by the test that leads to it.
-- Assumes nothing.
use lib.ListN.{length}
use borrow.Author.Tests.{le-leb, lt-leb}
use Rattle.caption_run.proofs.edges.word_refusal.Statement.{statement}
use Rattle.caption_run.proofs.edges.word_refusal.Tie as tie

returns : tie.Need-returns-then-word-le65535
returns c = rw (le-leb (length c.args.word.now) 65535 c.if-word-le65535.true)

returns-2 : tie.Need-returns-else-word-le65535
returns-2 c = rw (lt-leb (length c.args.word.now) 65535 c.if-word-le65535.false)

pub word_refusal_spec : {M : Type 1} → statement M
word_refusal_spec =
    tie.close
    (tie.spec
    returns
    returns-2)
