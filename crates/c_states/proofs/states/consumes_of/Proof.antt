-- `c_states::states::consumes_of` meets its contract, by the arm that is taken.
-- Assumes nothing.
use Rattle.c_states.proofs.ReadBack.{consumes_other}
use borrow.Author.Rules.{rules}
use Rattle.c_states.proofs.states.consumes_of.Statement.{statement}
use Rattle.c_states.proofs.states.consumes_of.Tie as tie

returns : tie.Need-returns-in-0
returns c = search rules

returns-2 : tie.Need-returns-in-1
returns-2 c = rw c.in-1.is

returns-3 : tie.Need-returns-in_default
returns-3 c = consumes_other c.args.n c.in_default.in_default-own.rest

pub consumes_of_spec : {M : Type 1} → statement M
consumes_of_spec =
    tie.close
    (tie.spec
    returns
    returns-2
    returns-3)
