-- `chip_block::show` meets its contract: a short block stays; into any other the status, the count and the item are stored.
-- Assumes nothing.
use mathlib.Core.Path.{◌≡◌, ap, ◌∙◌}
use native.Mathlib.Omega.{arith}
use lib.ListN.{length, length-set}
use lib.Seq.{length-sets}
use borrow.Author.Tests.{le-leb, lt-leb}
use Rattle.chips.specs.Blocks.{status_byte, high_first, item_bytes}
use Rattle.chips.proofs.Blocks.{item_eight}
use Rattle.chip_block.specs.Showing.{chip_showing}
use Rattle.chip_block.proofs.Laws.{stored, kept_length}
use borrow.Author.Rules.{rules}
use Rattle.chip_block.proofs.show.Statement.{statement}
use Rattle.chip_block.proofs.show.Tie as tie

returns : tie.Need-returns-then-block-lt16
returns c = let a = c.args in rw (lt-leb 16 (length a.block.now) c.if-block-lt16.true)

is-ready-requires : tie.Need-is_ready-ready-requires
is-ready-requires c κs = search rules

slice-read-status : tie.Need-bounds-block-3
slice-read-status c = search rules

status-requires : tie.Need-status-requires
status-requires c κs = search rules

slice-write-block : tie.Need-bounds-block-2
slice-write-block c = search rules

put-number-requires : tie.Need-put_number-requires
put-number-requires c κs = simp length-set (omega arith)

show-item-requires : tie.Need-show_item-requires
show-item-requires c κs =
    let a = c.args in
    let l : length c.put_number.new.block ≡ length a.block.now = ap length c.put_number.ensures ∙ simp (length-sets, length-set) in
    omega (arith, l)

same_length : tie.Need-shape_of-block
same_length c =
    let a = c.args in
    kept_length a.block.now c.put_number.new.block c.show_item.new.block c.status.result (high_first a.count) (item_bytes a.item)
    c.put_number.ensures c.show_item.ensures

returns-2 : tie.Need-returns
returns-2 c =
    let a = c.args in
    rw (le-leb 16 (length a.block.now) c.if-block-lt16.false)
    (c.show_item.ensures ∙ rw (c.put_number.ensures, c.status.ensures, c.is_ready-ready.ensures)
    (stored a.block.now (status_byte a.block.now (chip_showing a.opened a.count a.item)) a.count (item_bytes a.item)
    c.if-block-lt16.false (item_eight a.item)))

pub show_spec : {M : Type 1} → statement M
show_spec =
    tie.close
    (tie.spec
    returns
    is-ready-requires
    slice-read-status
    status-requires
    slice-write-block
    put-number-requires
    show-item-requires
    same_length
    returns-2)
