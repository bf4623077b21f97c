-- `c_font_runs::is_run` meets its contract: the first test that fails, or the last.
-- Assumes nothing.
use mathlib.Core.Path.{◌≡◌, sym, ◌∙◌}
use native.Mathlib.Omega.{arith}
use lib.ListN.{length, get_or}
use borrow.Author.Tests.{le-leb, lt-leb, not-true, not-false}
use borrow.Author.Rules.{rules}
use Rattle.c_font_runs.proofs.is_run.Statement.{statement}
use Rattle.c_font_runs.proofs.is_run.Tie as tie

returns : tie.Need-returns-then-list-lt12
returns c = let s = c.args.list.now in rw (lt-leb 12 (length s) (omega (arith, c.if-list-lt12.true)))

is-state-requires : tie.Need-is_state-requires
is-state-requires c κs = search rules

returns-2 : tie.Need-returns-then-not-is_state
returns-2 c =
    let s = c.args.list.now in
    rw (le-leb 12 (length s) c.if-list-lt12.false, sym c.is_state.ensures ∙ c.if-not-is_state.true)

shared-slice-read-if3 : tie.Need-bounds-list-9
shared-slice-read-if3 c = search rules

returns-3 : tie.Need-returns-then-list-gt4294967295
returns-3 c =
    let s = c.args.list.now in
    rw (
      le-leb 12 (length s) c.if-list-lt12.false,
      sym c.is_state.ensures ∙ c.if-not-is_state.false,
      lt-leb (get_or s 9 0) 4294967295 (omega (arith, c.if-list-gt4294967295.true)),
    )

shared-slice-read-if4 : tie.Need-bounds-list-10
shared-slice-read-if4 c = search rules

returns-4 : tie.Need-returns-then-list-gt1
returns-4 c =
    let s = c.args.list.now in
    rw (
      le-leb 12 (length s) c.if-list-lt12.false,
      sym c.is_state.ensures ∙ c.if-not-is_state.false,
      le-leb (get_or s 9 0) 4294967295 c.if-list-gt4294967295.false,
      lt-leb (get_or s 10 0) 1 (omega (arith, c.if-list-gt1.true)),
    )

shared-slice-read-asked-fits : tie.Need-bounds-list-10-2
shared-slice-read-asked-fits c = search rules

shared-slice-read-asked-fits-2 : tie.Need-bounds-list-11
shared-slice-read-asked-fits-2 c = search rules

asked-fits-requires : tie.Need-asked_fits-requires
asked-fits-requires c κs = search rules

returns-5 : tie.Need-returns
returns-5 c =
    let s = c.args.list.now in
    rw (
      le-leb 12 (length s) c.if-list-lt12.false,
      sym c.is_state.ensures ∙ c.if-not-is_state.false,
      le-leb (get_or s 9 0) 4294967295 c.if-list-gt4294967295.false,
      le-leb (get_or s 10 0) 1 c.if-list-gt1.false,
    ) c.asked_fits.ensures

pub is_run_spec : {M : Type 1} → statement M
is_run_spec =
    tie.close
    (tie.spec
    returns
    is-state-requires
    returns-2
    shared-slice-read-if3
    returns-3
    shared-slice-read-if4
    returns-4
    shared-slice-read-asked-fits
    shared-slice-read-asked-fits-2
    asked-fits-requires
    returns-5)
