-- `c_chip_write::show_changes` meets its contract: the list is no chip's, or it is written and shown.
-- Assumes nothing.
use mathlib.Core.Path.{◌≡◌, sym, ◌∙◌}
use mathlib.Core.Bool.{true, false, not}
use mathlib.Core.List.{List}
use Prim.Native.Nat.{ℕ}
use native.Mathlib.Omega.{arith}
use borrow.Author.Tests.{not-true, not-false}
use Rattle.c_chip_write.specs.Changes.{can_show}
use Rattle.c_chip_write.proofs.Laws.{shows, can_room, can_few, can_caller, can_count_lem}
use borrow.Author.Rules.{rules}
use Rattle.c_chip_write.proofs.show_changes.Statement.{statement}
use Rattle.c_chip_write.proofs.show_changes.Tie as tie

-- the list as it was lent, where it can be shown
module _ (c : tie.After-can_show) where
  abbrev ns : List ℕ
  ns = c.args.list.now

  can : c.can_show.result ≡ true → can_show ns ≡ true
  can e = sym c.can_show.ensures ∙ e

can-show-requires : tie.Need-can_show-requires
can-show-requires c κs = search rules

same_length : tie.Need-shape_of-list-then-not-can_show
same_length c = search rules

returns : tie.Need-returns-then-not-can_show
returns c =
    let e = sym c.can_show.ensures ∙ c.if-not-can_show.true in
    record { shown = rw e; moved = rw e }

slice-read-caller : tie.Need-bounds-list-90
slice-read-caller c = omega (arith, can_room (ns (c.before.before)) (can (c.before.before) c.if-not-can_show.false))

add-count : tie.Need-overflow_add-count
add-count c = omega (arith, can_caller (ns (c.before.before)) (can (c.before.before) c.if-not-can_show.false))

mul-count : tie.Need-offset_bounds-list-caller
mul-count c = omega (arith, can_caller (ns (c.before.before)) (can (c.before.before) c.if-not-can_show.false))

slice-read-count : tie.Need-bounds-list-caller
slice-read-count c =
    omega (arith, can_room (ns (c.before.before.before)) (can (c.before.before.before) c.if-not-can_show.false), can_caller (ns (c.before.before.before)) (can (c.before.before.before) c.if-not-can_show.false))

cast-count : tie.Need-overflow_cast-count
cast-count c = omega (arith, can_count_lem (ns (c.before.before.before)) (can (c.before.before.before) c.if-not-can_show.false))

put-changes-requires : tie.Need-put_changes-requires
put-changes-requires c κs =
    (can_room (ns (c.before.before.before.before)) (can (c.before.before.before.before) c.if-not-can_show.false), can_few (ns (c.before.before.before.before)) (can (c.before.before.before.before) c.if-not-can_show.false))

show-requires : tie.Need-show-requires
show-requires c κs = search rules

same-length-2 : tie.Need-shape_of-block
same-length-2 c = search rules

same-length-3 : tie.Need-shape_of-list
same-length-3 c = search rules

returns-2 : tie.Need-returns
returns-2 c =
    let a = c.args in
    let e = can (c.before.before.before.before.before.before.before.before.before.before.before) c.if-not-can_show.false in
    let s = shows (ns (c.before.before.before.before.before.before.before.before.before.before.before)) a.opened a.item a.state (can_room (ns (c.before.before.before.before.before.before.before.before.before.before.before)) e) (can_few (ns (c.before.before.before.before.before.before.before.before.before.before.before)) e) a.block.now (can_caller (ns (c.before.before.before.before.before.before.before.before.before.before.before)) e) in
    record { shown = rw e (c.show.ensures ∙ s); moved = rw e c.put_changes.ensures }

pub show_changes_spec : {M : Type 1} → statement M
show_changes_spec =
    tie.close
    (tie.spec
    can-show-requires
    same_length
    returns
    slice-read-caller
    add-count
    mul-count
    slice-read-count
    cast-count
    put-changes-requires
    show-requires
    same-length-2
    same-length-3
    returns-2)
