-- `program_kerns::share::share_kern` meets its contract: the instruction has no kern value, or one that is there, or a new one, which is stored, and linked in
-- the slot at which the search for it ended. Assumes nothing.
use mathlib.Core.Path.{sym}
use mathlib.Core.List.{List}
use Prim.Native.Nat.{ℕ, ◌<◌}
use native.Mathlib.Omega.{arith}
use lib.IntN.{ℤ}
use lib.ListN.{take}
use lib.Seq.{length-take-le}
use Rattle.program_kerns.specs.Kerns.{values}
use Rattle.program_kerns.specs.Sharing.{SearchEnds, Gathered}
use Rattle.program_kerns.proofs.Changes.{kind_is, kind_not}
use Rattle.program_kerns.proofs.Tree.{ends_lt}
use Rattle.program_kerns.proofs.Sharing.{values_other, values_le, gathered_room, gathered_front, counted_same, counted_there, counted_more}
use borrow.Author.Rules.{rules}
use Rattle.program_kerns.proofs.share.share_kern.Statement.{statement}
use Rattle.program_kerns.proofs.share.share_kern.Tie as tie

module _ {s : List ℤ} {i n : ℕ} {kerns : List ℤ} {links : List ℕ} {m : ℕ} (g : Gathered s i n kerns links m) where
  -- there are fewer values than instructions
  few : i < 32767 → m < 32767
  few h = omega (arith, g.counted, values_le s i)

  -- the search was among the values
  among : {w slot : ℕ} → SearchEnds (take m kerns) links w slot → SearchEnds (values s i) links w slot
  among h = rw (gathered_front g) at h

  slot_lt : {w slot : ℕ} → SearchEnds (take m kerns) links w slot → slot < 65535
  slot_lt h = ends_lt g.linked (among h)

field-at-requires : tie.Need-field_at-requires
field-at-requires c κs = search rules

returns : tie.Need-returns-then-field_at-ne0
returns c =
    let s = c.args.instructions.now in
    counted_same c.requires.1 (values_other s c.args.i (kind_not 0 s c.args.i c.field_at.ensures c.if-field_at-ne0.true))

field-at-requires-2 : tie.Need-field_at-word-requires
field-at-requires-2 c κs = search rules

slice-reshare-prefix-slot-of : tie.Need-slice_bounds-slot_of-end
slice-reshare-prefix-slot-of c = gathered_room c.requires.1

slice-aggregate-slot-of : tie.Need-slice_bounds-slot_of-end-2
slice-aggregate-slot-of c = sym (length-take-le c.args.m c.args.kerns.now (gathered_room c.requires.1))

slot-of-requires : tie.Need-slot_of-slot-requires
slot-of-requires c κs = let g = c.requires.1 in rw (gathered_front g) g.linked

mul-if2 : tie.Need-offset_bounds-links-slot
mul-if2 c = omega (arith, slot_lt c.requires.1 c.slot_of-slot.ensures)

element-copy-out-if2 : tie.Need-bounds-links-slot
element-copy-out-if2 c = omega (arith, slot_lt c.requires.1 c.slot_of-slot.ensures)

same_length : tie.Need-shape_of-kerns-then-links-slot-ne0
same_length c = search rules

returns-2 : tie.Need-returns-then-links-slot-ne0
returns-2 c =
    let s = c.args.instructions.now in
    counted_there c.requires.1 c.field_at-word.ensures (kind_is 0 s c.args.i c.field_at.ensures c.if-field_at-ne0.false)
    (among c.requires.1 c.slot_of-slot.ensures) c.if-links-slot-ne0.true

put-word-requires : tie.Need-put_word-requires
put-word-requires c κs = search rules

add-links : tie.Need-overflow_add-links
add-links c = search rules

cast-links : tie.Need-overflow_cast-links
cast-links c = search rules

mul-links : tie.Need-offset_bounds-links-slot-2
mul-links c =
    omega (arith, slot_lt c.requires.1 c.slot_of-slot.ensures)

element-write-links : tie.Need-bounds-links-slot-2
element-write-links c =
    omega (arith, slot_lt c.requires.1 c.slot_of-slot.ensures)

add-result : tie.Need-overflow_add-result
add-result c = search rules

same-length-2 : tie.Need-shape_of-kerns
same-length-2 c = search rules

returns-3 : tie.Need-returns
returns-3 c =
    let s = c.args.instructions.now in
    rw c.put_word.ensures
    (counted_more c.requires.1 c.field_at-word.ensures (kind_is 0 s c.args.i c.field_at.ensures c.if-field_at-ne0.false)
    (among c.requires.1 c.slot_of-slot.ensures) c.if-links-slot-ne0.false (few c.requires.1 c.requires.0))

pub share_kern_spec : {M : Type 1} → statement M
share_kern_spec =
    tie.close
    (tie.spec
    field-at-requires
    returns
    field-at-requires-2
    slice-reshare-prefix-slot-of
    slice-aggregate-slot-of
    slot-of-requires
    mul-if2
    element-copy-out-if2
    same_length
    returns-2
    put-word-requires
    add-links
    cast-links
    mul-links
    element-write-links
    add-result
    same-length-2
    returns-3)
