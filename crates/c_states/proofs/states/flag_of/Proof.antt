-- `c_states::states::flag_of` meets its contract, by the arm that is taken.
-- Assumes nothing.
use Rattle.c_states.proofs.ReadBack.{flag_other}
use borrow.Author.Rules.{rules}
use Rattle.c_states.proofs.states.flag_of.Statement.{statement}
use Rattle.c_states.proofs.states.flag_of.Tie as tie

returns : tie.Need-returns-in-0
returns c = search rules

returns-2 : tie.Need-returns-in_default
returns-2 c = flag_other c.args.n c.in_default.in_default-own.rest

pub flag_of_spec : {M : Type 1} → statement M
flag_of_spec =
    tie.close
    (tie.spec
    returns
    returns-2)
