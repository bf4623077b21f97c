-- `c_font_runs::run_in` meets its contract: the numbers are a run, or they are not.
-- Assumes nothing.
use mathlib.Core.Path.{sym, ◌∙◌}
use native.Mathlib.Omega.{arith}
use Rattle.c_font_runs.proofs.Laws.{run_long, run_font, run_read_lem}
use borrow.Author.Rules.{rules}
use Rattle.c_font_runs.proofs.run_in.Statement.{statement}
use Rattle.c_font_runs.proofs.run_in.Tie as tie

is-run-requires : tie.Need-is_run-requires
is-run-requires c κs = search rules

state-in-requires : tie.Need-state_in-state-requires
state-in-requires c κs = search rules

asked-in-requires : tie.Need-asked_in-asked-requires
asked-in-requires c κs = sym c.is_run.ensures ∙ c.if-is_run.true

shared-slice-read-t7 : tie.Need-bounds-list-9
shared-slice-read-t7 c =
    omega (arith, run_long c.args.list.now (sym c.is_run.ensures ∙ c.if-is_run.true))

cast-t8 : tie.Need-overflow_cast-result
cast-t8 c =
    record { fits = omega (arith, run_font c.args.list.now (sym c.is_run.ensures ∙ c.if-is_run.true)) }

returns : tie.Need-returns-then-is_run
returns c =
    run_read_lem c.args.list.now (sym c.is_run.ensures ∙ c.if-is_run.true) c.state_in-state.ensures c.asked_in-asked.ensures

returns-2 : tie.Need-returns
returns-2 c = rw (sym c.is_run.ensures ∙ c.if-is_run.false)

pub run_in_spec : {M : Type 1} → statement M
run_in_spec =
    tie.close
    (tie.spec
    is-run-requires
    state-in-requires
    asked-in-requires
    shared-slice-read-t7
    cast-t8
    returns
    returns-2)
