-- `c_font_runs::put_run` meets its contract: no room; or the twelve numbers.
-- Assumes nothing.
use mathlib.Core.Path.{refl, sym}
use native.Mathlib.Omega.{arith}
use lib.ListN.{length, length-set}
use Rattle.lang.proofs.Refusals.{room_is, room_short}
use Rattle.c_font_runs.proofs.Laws.{run_put}
use borrow.Author.Rules.{rules}
use Rattle.c_font_runs.proofs.put_run.Statement.{statement}
use Rattle.c_font_runs.proofs.put_run.Tie as tie

returns : tie.Need-returns-then-list-lt12
returns c =
    let a = c.args in
    let e = room_short 12 (length a.list.now) c.if-list-lt12.true in
    record { number = sym e; stored = rw e }

put-state-requires : tie.Need-put_state-requires
put-state-requires c κs = search rules

cast-list : tie.Need-overflow_cast-list
cast-list c = search rules

slice-write-list : tie.Need-bounds-list-9
slice-write-list c = search rules

asked-flag-requires : tie.Need-asked_flag-requires
asked-flag-requires c κs = search rules

slice-write-list-2 : tie.Need-bounds-list-10
slice-write-list-2 c = simp length-set (omega arith)

asked-number-requires : tie.Need-asked_number-requires
asked-number-requires c κs = search rules

cast-list-2 : tie.Need-overflow_cast-list-2
cast-list-2 c = search rules

slice-write-list-3 : tie.Need-bounds-list-11
slice-write-list-3 c = search rules

same_length : tie.Need-shape_of-list
same_length c = search rules

returns-2 : tie.Need-returns
returns-2 c =
    let a = c.args in
    record {
      number = sym (room_is 12 (length a.list.now) c.if-list-lt12.false);
      stored = run_put a.list.now c.if-list-lt12.false a.run c.put_state.ensures refl c.asked_flag.ensures c.asked_number.ensures;
    }

pub put_run_spec : {M : Type 1} → statement M
put_run_spec =
    tie.close
    (tie.spec
    returns
    put-state-requires
    cast-list
    slice-write-list
    asked-flag-requires
    slice-write-list-2
    asked-number-requires
    cast-list-2
    slice-write-list-3
    same_length
    returns-2)
