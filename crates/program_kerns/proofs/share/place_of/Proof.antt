-- `program_kerns::share::place_of` meets its contract: the slot at which the search ends has the value's link, or none.
-- Assumes nothing.
use mathlib.Core.Path.{sym}
use native.Mathlib.Omega.{arith}
use Rattle.program_kerns.proofs.Tree.{link_lt, ends_lt, ends_found, ends_absent}
use borrow.Author.Rules.{rules}
use Rattle.program_kerns.proofs.share.place_of.Statement.{statement}
use Rattle.program_kerns.proofs.share.place_of.Tie as tie

slot-of-requires : tie.Need-slot_of-slot-requires
slot-of-requires c κs = search rules

mul-link : tie.Need-offset_bounds-links-slot
mul-link c = omega (arith, ends_lt c.requires c.slot_of-slot.ensures)

element-copy-out-link : tie.Need-bounds-links-slot
element-copy-out-link c = omega (arith, ends_lt c.requires c.slot_of-slot.ensures)

cast-link : tie.Need-overflow_cast-link
cast-link c = omega (arith, link_lt c.requires c.slot_of-slot.result)

returns : tie.Need-returns-then-link-eq0
returns c = sym (ends_absent c.requires c.slot_of-slot.ensures c.ranges.word.fits c.if-link-eq0.true)

sub-result : tie.Need-overflow_sub-result
sub-result c = search rules

returns-2 : tie.Need-returns
returns-2 c = ends_found c.requires c.slot_of-slot.ensures c.ranges.word.fits c.if-link-eq0.false

pub place_of_spec : {M : Type 1} → statement M
place_of_spec =
    tie.close
    (tie.spec
    slot-of-requires
    mul-link
    element-copy-out-link
    cast-link
    returns
    sub-result
    returns-2)
