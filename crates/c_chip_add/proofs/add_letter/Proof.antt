-- `c_chip_add::add_letter` meets its contract: no word is open, it is full, or it has a letter more.
-- Assumes nothing.
use mathlib.Core.Path.{◌≡◌, sym, subst, ◌∙◌}
use mathlib.Core.Bool.{true}
use Prim.Native.Nat.{ℕ, ◌+◌, ◌<◌}
use native.Mathlib.Omega.{arith}
use lib.ListN.{length, get_or, set, length-set}
use borrow.Author.Tests.{le-ltb, not-true, not-false}
use Rattle.captions.specs.declared.Answer.TheVariants.{End}
use Rattle.chips.specs.Commands.{chip_added}
use Rattle.c_chips.specs.ChipLists.{chip_at}
use Rattle.c_chips.proofs.Laws.{chip_long, chip_few, state_given, refused_moves}
use Rattle.c_chip_write.specs.Changes.{ShowsChanges}
use Rattle.c_chip_write.proofs.Altered.{altered_moves}
use Rattle.c_chip_add.proofs.Laws.{letter_altered, added_is, may_add_lem}
use borrow.Author.Rules.{rules}
use Rattle.c_chip_add.proofs.add_letter.Statement.{statement}
use Rattle.c_chip_add.proofs.add_letter.Tie as tie

slice-read-length : tie.Need-bounds-list-1
slice-read-length c = omega (arith, chip_long c.args.list.now c.requires.1)

slice-read-flag-of : tie.Need-bounds-list-0
slice-read-flag-of c = omega (arith, chip_long c.args.list.now c.requires.1)

flag-of-requires : tie.Need-flag_of-requires
flag-of-requires c κs = search rules

returns : tie.Need-returns-then-not-flag_of
returns c =
    let a = c.args in
    let block = a.block.now in
    let ns = a.list.now in
    let x = chip_at ns in
    refused_moves (chip_added (get_or block 1 0) x) block ns (rw (sym c.flag_of.ensures ∙ c.if-not-flag_of.true)) (λ z. omega (arith, z))

returns-2 : tie.Need-returns-then-length-gt63
returns-2 c =
    let a = c.args in
    let block = a.block.now in
    let ns = a.list.now in
    refused_moves (chip_added (get_or block 1 0) (chip_at ns)) block ns
    (rw (sym c.flag_of.ensures ∙ c.if-not-flag_of.false, le-ltb (get_or ns 1 0) 64 (omega (arith, c.if-length-gt63.true)))) (λ z. omega (arith, z))

sub-state-in : tie.Need-slice_bounds-state_in-count
sub-state-in c =
    omega (arith, chip_long c.args.list.now c.requires.1)

part-state-in-start : tie.Need-slice_bounds-state_in-start
part-state-in-start c =
    omega (arith, chip_long c.args.list.now c.requires.1)

part-state-in-end : tie.Need-slice_bounds-state_in-end
part-state-in-end c = search rules

state-in-requires : tie.Need-state_in-state-requires
state-in-requires c κs = search rules

item-at-requires : tie.Need-item_at-requires
item-at-requires c κs = search rules

cast-list : tie.Need-overflow_cast-list
cast-list c = search rules

add-list : tie.Need-overflow_add-list
add-list c = search rules

mul-list : tie.Need-offset_bounds-list-length
mul-list c = search rules

slice-write-list : tie.Need-bounds-list-length
slice-write-list c =
    let ns = c.args.list.now in
    omega (arith, chip_long ns c.requires.1, chip_few ns c.requires.1)

add-list-2 : tie.Need-overflow_add-list-2
add-list-2 c = search rules

slice-write-list-2 : tie.Need-bounds-list-1-2
slice-write-list-2 c =
    let ns = c.args.list.now in
    omega (arith, chip_long ns c.requires.1, length-set ns (18 + get_or ns 1 0) c.item_at.result)

show-changes-requires : tie.Need-show_changes-requires
show-changes-requires c κs = search rules

same_length : tie.Need-shape_of-block
same_length c = search rules

same-length-2 : tie.Need-shape_of-list
same-length-2 c =
    let ns = c.args.list.now in
    let n = get_or ns 1 0 in
    let v = c.item_at.result in
    let k : length c.show_changes.new.list ≡ length (set (set ns (18 + n) v) 1 (n + 1)) = search rules in
    k ∙ length-set (set ns (18 + n) v) 1 (n + 1) ∙ length-set ns (18 + n) v

returns-3 : tie.Need-returns
returns-3 c =
    let block = c.args.block.now in
    let ns = c.args.list.now in
    let n = get_or ns 1 0 in
    let o = sym c.flag_of.ensures ∙ c.if-not-flag_of.false in
    let room : n < 64 = omega (arith, c.if-length-gt63.false) in
    let y = get_or block 1 0 in
    altered_moves (letter_altered ns c.requires.1 c.requires.2 y room) true End c.state_in-state.result block c.requires.0
    (may_add_lem ns c.requires.1 c.requires.2 y room o)
    (added_is ns c.requires.1 c.requires.2 y room o c.state_in-state.result (c.state_in-state.ensures ∙ state_given ns c.requires.1))
    (subst (λ (v : ℕ). ShowsChanges true End c.state_in-state.result block (set (set ns (18 + n) v) 1 (n + 1)) c.show_changes.new.block c.show_changes.new.list) c.item_at.ensures
    c.show_changes.ensures)

pub add_letter_spec : {M : Type 1} → statement M
add_letter_spec =
    tie.close
    (tie.spec
    slice-read-length
    slice-read-flag-of
    flag-of-requires
    returns
    returns-2
    sub-state-in
    part-state-in-start
    part-state-in-end
    state-in-requires
    item-at-requires
    cast-list
    add-list
    mul-list
    slice-write-list
    add-list-2
    slice-write-list-2
    show-changes-requires
    same_length
    same-length-2
    returns-3)
