-- `c_font_runs::asked_of` meets its contract, by the arm that is taken.
-- Assumes nothing.
use Rattle.c_font_runs.proofs.Laws.{asked_other}
use borrow.Author.Rules.{rules}
use Rattle.c_font_runs.proofs.asked_of.Statement.{statement}
use Rattle.c_font_runs.proofs.asked_of.Tie as tie

returns : tie.Need-returns-in-0
returns c = search rules

returns-2 : tie.Need-returns-in_default
returns-2 c = asked_other c.args.flag c.args.number c.in_default.in_default-own.rest

pub asked_of_spec : {M : Type 1} → statement M
asked_of_spec =
    tie.close
    (tie.spec
    returns
    returns-2)
