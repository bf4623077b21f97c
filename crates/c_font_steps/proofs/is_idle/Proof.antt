-- `c_font_steps::is_idle` meets its contract, by the tests.
-- Assumes nothing.
use mathlib.Core.Path.{sym, ◌∙◌}
use native.Mathlib.Omega.{arith}
use Rattle.c_font_runs.proofs.Laws.{run_long}
use borrow.Author.Rules.{rules}
use Rattle.c_font_steps.proofs.is_idle.Statement.{statement}
use Rattle.c_font_steps.proofs.is_idle.Tie as tie

is-run-requires : tie.Need-is_run-requires
is-run-requires c κs = search rules

shared-slice-read-result : tie.Need-bounds-run-10
shared-slice-read-result c =
    omega (arith, run_long c.args.run.now (sym c.is_run.ensures ∙ c.if-is_run.true))

returns : tie.Need-returns-then-is_run
returns c = rw (sym c.is_run.ensures ∙ c.if-is_run.true)

returns-2 : tie.Need-returns
returns-2 c = rw (sym c.is_run.ensures ∙ c.if-is_run.false)

pub is_idle_spec : {M : Type 1} → statement M
is_idle_spec =
    tie.close
    (tie.spec
    is-run-requires
    shared-slice-read-result
    returns
    returns-2)
