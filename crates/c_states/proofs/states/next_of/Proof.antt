-- `c_states::states::next_of` meets its contract, by the arm that is taken.
-- Assumes nothing.
use Rattle.c_states.proofs.ReadBack.{next_other}
use borrow.Author.Rules.{rules}
use Rattle.c_states.proofs.states.next_of.Statement.{statement}
use Rattle.c_states.proofs.states.next_of.Tie as tie

returns : tie.Need-returns-in-0
returns c = search rules

returns-2 : tie.Need-returns-in-1
returns-2 c = rw c.in-1.is

returns-3 : tie.Need-returns-in-2
returns-3 c = rw c.in-2.is

returns-4 : tie.Need-returns-in-3
returns-4 c = rw c.in-3.is

returns-5 : tie.Need-returns-in_default
returns-5 c = next_other c.args.kind c.args.code c.in_default.in_default-own.rest

pub next_of_spec : {M : Type 1} → statement M
next_of_spec =
    tie.close
    (tie.spec
    returns
    returns-2
    returns-3
    returns-4
    returns-5)
