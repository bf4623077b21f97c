-- `c_font_requests::run_refusal` meets its contract, by the test.
-- Assumes nothing.
use mathlib.Core.Path.{sym, ◌∙◌}
use borrow.Author.Rules.{rules}
use Rattle.c_font_requests.proofs.run_refusal.Statement.{statement}
use Rattle.c_font_requests.proofs.run_refusal.Tie as tie

is-run-requires : tie.Need-is_run-requires
is-run-requires c κs = search rules

returns : tie.Need-returns-then-is_run
returns c = rw (sym c.is_run.ensures ∙ c.if-is_run.true)

returns-2 : tie.Need-returns-else-is_run
returns-2 c = rw (sym c.is_run.ensures ∙ c.if-is_run.false)

pub run_refusal_spec : {M : Type 1} → statement M
run_refusal_spec =
    tie.close
    (tie.spec
    is-run-requires
    returns
    returns-2)
