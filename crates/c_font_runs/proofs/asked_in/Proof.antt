-- `c_font_runs::asked_in` meets its contract: by the flag.
-- Assumes nothing.
use native.Mathlib.Omega.{arith}
use Rattle.c_font_runs.proofs.Laws.{run_long, run_asked}
use borrow.Author.Rules.{rules}
use Rattle.c_font_runs.proofs.asked_in.Statement.{statement}
use Rattle.c_font_runs.proofs.asked_in.Tie as tie

shared-slice-read-if1 : tie.Need-bounds-list-10
shared-slice-read-if1 c = omega (arith, run_long c.args.list.now c.requires)

returns : tie.Need-returns-then-list-eq0
returns c = rw c.if-list-eq0.true

shared-slice-read-asked-of : tie.Need-bounds-list-10-2
shared-slice-read-asked-of c = omega (arith, run_long c.args.list.now c.requires)

shared-slice-read-asked-of-2 : tie.Need-bounds-list-11
shared-slice-read-asked-of-2 c = omega (arith, run_long c.args.list.now c.requires)

cast-asked-of : tie.Need-overflow_cast-list
cast-asked-of c =
    record { fits = omega (arith, run_asked c.args.list.now c.requires c.if-list-eq0.false) }

asked-of-requires : tie.Need-asked_of-requires
asked-of-requires c κs = search rules

returns-2 : tie.Need-returns
returns-2 c = search rules

pub asked_in_spec : {M : Type 1} → statement M
asked_in_spec =
    tie.close
    (tie.spec
    shared-slice-read-if1
    returns
    shared-slice-read-asked-of
    shared-slice-read-asked-of-2
    cast-asked-of
    asked-of-requires
    returns-2)
