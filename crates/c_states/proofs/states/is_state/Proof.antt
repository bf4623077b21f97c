-- `c_states::states::is_state` meets its contract: the first test that fails, or the last.
-- Assumes nothing.
use native.Mathlib.Omega.{arith}
use lib.ListN.{length, get_or}
use borrow.Author.Tests.{le-leb, lt-leb}
use borrow.Author.Rules.{rules}
use Rattle.c_states.proofs.states.is_state.Statement.{statement}
use Rattle.c_states.proofs.states.is_state.Tie as tie

returns : tie.Need-returns-then-list-lt9
returns c = let s = c.args.list.now in rw (lt-leb 9 (length s) (omega (arith, c.if-list-lt9.true)))

shared-slice-read-if2 : tie.Need-bounds-list-0
shared-slice-read-if2 c = search rules

returns-2 : tie.Need-returns-then-list-gt4
returns-2 c =
    let s = c.args.list.now in
    rw (le-leb 9 (length s) c.if-list-lt9.false, lt-leb (get_or s 0 0) 4 (omega (arith, c.if-list-gt4.true)))

shared-slice-read-if3 : tie.Need-bounds-list-1
shared-slice-read-if3 c = search rules

returns-3 : tie.Need-returns-then-list-gt4294967295
returns-3 c =
    let s = c.args.list.now in
    rw (
      le-leb 9 (length s) c.if-list-lt9.false,
      le-leb (get_or s 0 0) 4 c.if-list-gt4.false,
      lt-leb (get_or s 1 0) 4294967295 (omega (arith, c.if-list-gt4294967295.true)),
    )

shared-slice-read-if4 : tie.Need-bounds-list-7
shared-slice-read-if4 c = search rules

returns-4 : tie.Need-returns-then-list-gt1
returns-4 c =
    let s = c.args.list.now in
    rw (
      le-leb 9 (length s) c.if-list-lt9.false,
      le-leb (get_or s 0 0) 4 c.if-list-gt4.false,
      le-leb (get_or s 1 0) 4294967295 c.if-list-gt4294967295.false,
      lt-leb (get_or s 7 0) 1 (omega (arith, c.if-list-gt1.true)),
    )

shared-slice-read-result : tie.Need-bounds-list-8
shared-slice-read-result c = search rules

returns-5 : tie.Need-returns
returns-5 c =
    let s = c.args.list.now in
    rw (
      le-leb 9 (length s) c.if-list-lt9.false,
      le-leb (get_or s 0 0) 4 c.if-list-gt4.false,
      le-leb (get_or s 1 0) 4294967295 c.if-list-gt4294967295.false,
      le-leb (get_or s 7 0) 1 c.if-list-gt1.false,
    )

pub is_state_spec : {M : Type 1} → statement M
is_state_spec =
    tie.close
    (tie.spec
    returns
    shared-slice-read-if2
    returns-2
    shared-slice-read-if3
    returns-3
    shared-slice-read-if4
    returns-4
    shared-slice-read-result
    returns-5)
