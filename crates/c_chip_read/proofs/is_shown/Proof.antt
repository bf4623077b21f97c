-- `c_chip_read::is_shown` meets its contract: the first test that fails, or the last.
-- Assumes nothing.
use native.Mathlib.Omega.{arith}
use lib.ListN.{get_or}
use borrow.Author.Tests.{le-leb, lt-leb}
use borrow.Author.Rules.{rules}
use Rattle.c_chip_read.proofs.is_shown.Statement.{statement}
use Rattle.c_chip_read.proofs.is_shown.Tie as tie

shared-slice-read-if1 : tie.Need-bounds-list-2
shared-slice-read-if1 c = search rules

returns : tie.Need-returns-then-list-gt1
returns c = let s = c.args.list.now in rw (lt-leb (get_or s 2 0) 1 (omega (arith, c.if-list-gt1.true)))

shared-slice-read-if2 : tie.Need-bounds-list-3
shared-slice-read-if2 c = search rules

returns-2 : tie.Need-returns-then-list-gt2
returns-2 c =
    let s = c.args.list.now in
    rw (le-leb (get_or s 2 0) 1 c.if-list-gt1.false, lt-leb (get_or s 3 0) 2 (omega (arith, c.if-list-gt2.true)))

shared-slice-read-if3 : tie.Need-bounds-list-4
shared-slice-read-if3 c = search rules

returns-3 : tie.Need-returns-then-list-gt4294967295
returns-3 c =
    let s = c.args.list.now in
    rw (le-leb (get_or s 2 0) 1 c.if-list-gt1.false, le-leb (get_or s 3 0) 2 c.if-list-gt2.false, lt-leb (get_or s 4 0) 4294967295 (omega (arith, c.if-list-gt4294967295.true)))

shared-slice-read-if4 : tie.Need-bounds-list-7
shared-slice-read-if4 c = search rules

returns-4 : tie.Need-returns-then-list-gt1-2
returns-4 c =
    let s = c.args.list.now in
    rw (
      le-leb (get_or s 2 0) 1 c.if-list-gt1.false,
      le-leb (get_or s 3 0) 2 c.if-list-gt2.false,
      le-leb (get_or s 4 0) 4294967295 c.if-list-gt4294967295.false,
      lt-leb (get_or s 7 0) 1 (omega (arith, c.if-list-gt1-2.true)),
    )

shared-slice-read-result : tie.Need-bounds-list-8
shared-slice-read-result c = search rules

returns-5 : tie.Need-returns
returns-5 c =
    let s = c.args.list.now in
    rw (
      le-leb (get_or s 2 0) 1 c.if-list-gt1.false,
      le-leb (get_or s 3 0) 2 c.if-list-gt2.false,
      le-leb (get_or s 4 0) 4294967295 c.if-list-gt4294967295.false,
      le-leb (get_or s 7 0) 1 c.if-list-gt1-2.false,
    )

pub is_shown_spec : {M : Type 1} → statement M
is_shown_spec =
    tie.close
    (tie.spec
    shared-slice-read-if1
    returns
    shared-slice-read-if2
    returns-2
    shared-slice-read-if3
    returns-3
    shared-slice-read-if4
    returns-4
    shared-slice-read-result
    returns-5)
