-- `blame_answer::removal_answer` meets its contract, branch by branch.
-- Assumes nothing.
use borrow.Author.Rules.{rules}
use Rattle.blame_answer.proofs.Laws.{by_loop, by_number}
use Rattle.blame_answer.proofs.removal_answer.Statement.{statement}
use Rattle.blame_answer.proofs.removal_answer.Tie as tie

returns : tie.Need-returns-then-number-eq15
returns c = by_loop _ _ _ c.if-number-eq15.true

returns-2 : tie.Need-returns-then-number-ne0
returns-2 c = by_number _ _ _ c.if-number-eq15.false c.if-number-ne0.true

returns-3 : tie.Need-returns-then-same
returns-3 c = search rules

returns-4 : tie.Need-returns-else-same
returns-4 c = rw (c.if-number-ne0.false, c.if-same.false)

pub removal_answer_spec : {M : Type 1} → statement M
removal_answer_spec =
    tie.close
    (tie.spec
    returns
    returns-2
    returns-3
    returns-4)
