-- `pl_progress::has_label` meets its contract.
-- Assumes nothing.
use borrow.Author.Rules.{rules}
use Rattle.pl_progress.proofs.has_label.Statement.{statement}
use Rattle.pl_progress.proofs.has_label.Tie as tie

word-at-requires : tie.Need-word_at-requires
word-at-requires c κs = search rules

returns : tie.Need-returns
returns c =
    rw c.word_at.ensures.is

pub has_label_spec : {M : Type 1} → statement M
has_label_spec =
    tie.close
    (tie.spec
    word-at-requires
    returns)
