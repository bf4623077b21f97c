-- `c_chip_begin::open_word` meets its contract: out of turn, of no caller, or a word is open.
-- Assumes nothing.
use mathlib.Core.Path.{◌≡◌, sym, ap, subst, ◌∙◌}
use mathlib.Core.Bool.{true, false}
use mathlib.Core.List.{List}
use Prim.Native.Nat.{ℕ, ◌<◌, ◌≤◌}
use native.Mathlib.Omega.{arith}
use lib.ListN.{length, get_or, set, length-set}
use borrow.Author.Tests.{lt-leb, not-true, not-false}
use Rattle.captions.specs.declared.Answer.TheVariants.{End}
use Rattle.chips.specs.Commands.{may_begin, chip_begun}
use Rattle.chips.proofs.Turns.{all_taken}
use Rattle.c_chips.specs.ChipLists.{chip_at}
use Rattle.c_chips.proofs.Laws.{chip_long, ready_is, refused_moves}
use Rattle.c_chip_write.specs.Changes.{ShowsChanges}
use Rattle.c_chip_begin.proofs.Laws.{opened_long, opened_moves}
use borrow.Author.Rules.{rules}
use Rattle.c_chip_begin.proofs.open_word.Statement.{statement}
use Rattle.c_chip_begin.proofs.open_word.Tie as tie

-- whose turn it is, by the caller in byte 1
module _ (c : tie.After-may_begin) where
  abbrev block : List ℕ
  block = c.args.block.now

  abbrev ns : List ℕ
  ns = c.args.list.now

  turn : c.may_begin.result ≡ may_begin (get_or block 1 0) (chip_at ns)
  turn = c.may_begin.ensures ∙ ap (λ (x : ℕ). may_begin x (chip_at ns)) c.item_at-caller.ensures

-- the list keeps its length
list-kept : (c : tie.After-show_changes) →
    length c.show_changes.new.list ≡ length c.args.list.now
list-kept c =
    let l : c.item_at-caller.result ≤ 7 = omega (arith, c.if-caller-gt7.false) in
    opened_long c.args.list.now c.item_at-caller.result c.requires.1 l c.args.state c.args.block.now c.show_changes.ensures

item-at-requires : tie.Need-item_at-caller-requires
item-at-requires c κs = search rules

may-begin-requires : tie.Need-may_begin-requires
may-begin-requires c κs = chip_long c.args.list.now c.requires.1

same_length : tie.Need-shape_of-block-then-not-may_begin
same_length c = search rules

same-length-2 : tie.Need-shape_of-list-then-not-may_begin
same-length-2 c = search rules

returns : tie.Need-returns-then-not-may_begin
returns c =
    let caller = get_or (block (c.before)) 1 0 in
    let m : may_begin caller (chip_at (ns (c.before))) ≡ false = sym (turn (c.before)) ∙ c.if-not-may_begin.true in
    refused_moves (chip_begun caller (chip_at (ns (c.before)))) (block (c.before)) (ns (c.before)) (rw m) (λ z. omega (arith, z))

same-length-3 : tie.Need-shape_of-block-then-caller-gt7
same-length-3 c = search rules

same-length-4 : tie.Need-shape_of-list-then-caller-gt7
same-length-4 c = search rules

returns-2 : tie.Need-returns-then-caller-gt7
returns-2 c =
    let caller = get_or (block (c.before.before)) 1 0 in
    let m : may_begin caller (chip_at (ns (c.before.before))) ≡ true = sym (turn (c.before.before)) ∙ c.if-not-may_begin.false in
    let l : 7 < caller = omega (arith, c.item_at-caller.ensures, c.if-caller-gt7.true) in
    refused_moves (chip_begun caller (chip_at (ns (c.before.before)))) (block (c.before.before)) (ns (c.before.before)) (rw (m, lt-leb caller 7 l)) (λ z. omega (arith, z))

cast-list : tie.Need-overflow_cast-list
cast-list c = search rules

slice-write-list : tie.Need-bounds-list-90
slice-write-list c =
    omega (arith, chip_long c.args.list.now c.requires.1)

show-changes-requires : tie.Need-show_changes-requires
show-changes-requires c κs = search rules

slice-write-list-2 : tie.Need-bounds-list-1
slice-write-list-2 c =
    omega (arith, chip_long c.args.list.now c.requires.1, list-kept (c.before.before.before.before))

same-length-5 : tie.Need-shape_of-block
same-length-5 c = search rules

same-length-6 : tie.Need-shape_of-list
same-length-6 c =
    length-set c.show_changes.new.list 1 0 ∙ list-kept c.before.before.before.before

returns-3 : tie.Need-returns
returns-3 c =
    let l = c.args.list.now in
    let b = c.args.block.now in
    let caller = get_or b 1 0 in
    let m : may_begin caller (chip_at l) ≡ true = sym (turn (c.before.before.before.before.before.before.before.before.before)) ∙ c.if-not-may_begin.false in
    let low : caller ≤ 7 = omega (arith, c.item_at-caller.ensures, c.if-caller-gt7.false) in
    opened_moves l caller c.requires.1 low c.args.state c.requires.3 (sym (ready_is l) ∙ all_taken caller (chip_at l) m) b c.requires.0 m
    (subst (λ (x : ℕ). ShowsChanges true End c.args.state b (set l 90 x) c.show_changes.new.block c.show_changes.new.list) c.item_at-caller.ensures c.show_changes.ensures)

pub open_word_spec : {M : Type 1} → statement M
open_word_spec =
    tie.close
    (tie.spec
    item-at-requires
    may-begin-requires
    same_length
    same-length-2
    returns
    same-length-3
    same-length-4
    returns-2
    cast-list
    slice-write-list
    show-changes-requires
    slice-write-list-2
    same-length-5
    same-length-6
    returns-3)
