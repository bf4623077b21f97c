-- `c_states::states::state_at` meets its contract: each part from its number.
-- Assumes nothing.
use native.Mathlib.Omega.{arith}
use lib.ListN.{get_or}
use borrow.Author.Rules.{rules}
use Rattle.c_states.proofs.states.state_at.Statement.{statement}
use Rattle.c_states.proofs.states.state_at.Tie as tie

shared-slice-read-next-of : tie.Need-bounds-list-0
shared-slice-read-next-of c = omega arith

shared-slice-read-next-of-2 : tie.Need-bounds-list-1
shared-slice-read-next-of-2 c = omega arith

cast-next-of : tie.Need-overflow_cast-list
cast-next-of c = search rules

next-of-requires : tie.Need-next_of-next-requires
next-of-requires c κs = search rules

shared-slice-read-flag-of : tie.Need-bounds-list-7
shared-slice-read-flag-of c = omega arith

flag-of-requires : tie.Need-flag_of-boundary-requires
flag-of-requires c κs = search rules

shared-slice-read-consumes-of : tie.Need-bounds-list-8
shared-slice-read-consumes-of c = omega arith

consumes-of-requires : tie.Need-consumes_of-consumes-requires
consumes-of-requires c κs = search rules

shared-slice-read-t6 : tie.Need-bounds-list-2
shared-slice-read-t6 c = omega arith

shared-slice-read-t8 : tie.Need-bounds-list-3
shared-slice-read-t8 c = omega arith

shared-slice-read-t17 : tie.Need-bounds-list-4
shared-slice-read-t17 c = omega arith

shared-slice-read-t20 : tie.Need-bounds-list-5
shared-slice-read-t20 c = omega arith

shared-slice-read-t23 : tie.Need-bounds-list-6
shared-slice-read-t23 c = omega arith

returns : tie.Need-returns
returns c =
    let s = c.args.list.now in
    λ j. record {
      next_left = c.next_of-next.ensures j;
      op = get_or s 2 0;
      ops = get_or s 3 0;
      read = get_or s 4 0;
      given = get_or s 5 0;
      pending = get_or s 6 0;
      pending_boundary = c.flag_of-boundary.ensures j;
      consumes_left = c.consumes_of-consumes.ensures j;
    }

pub state_at_spec : {M : Type 1} → statement M
state_at_spec =
    tie.close
    (tie.spec
    shared-slice-read-next-of
    shared-slice-read-next-of-2
    cast-next-of
    next-of-requires
    shared-slice-read-flag-of
    flag-of-requires
    shared-slice-read-consumes-of
    consumes-of-requires
    shared-slice-read-t6
    shared-slice-read-t8
    shared-slice-read-t17
    shared-slice-read-t20
    shared-slice-read-t23
    returns)
