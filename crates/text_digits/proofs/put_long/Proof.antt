-- `text_digits::put_long` meets its contract: the digits, and before those of a negative number its sign, where there is room.
-- Assumes nothing.
use mathlib.Core.Path.{sym, ◌∙◌}
use Prim.Native.Nat.{◌+◌, ◌≤◌}
use native.Mathlib.Omega.{arith}
use lib.ListN.{length}
use Rattle.text_digits.proofs.Decimal.{sign_place, spells_positive, spells_negative, room_is, room_none}
use borrow.Author.Rules.{rules}
use Rattle.text_digits.proofs.put_long.Statement.{statement}
use Rattle.text_digits.proofs.put_long.Tie as tie

-- there is room
room : (c : tie.Else-out-at-lt12) → let a = c.args in a.at + 12 ≤ length a.out.now
room c = omega (arith, c.if-out-at.false, c.if-out-at-lt12.false)

returns : tie.Need-returns-then-out-at
returns c = let a = c.args in sym (room_none a.out.now a.at a.w (omega (arith, c.if-out-at.true)))

sub-if2 : tie.Need-overflow_sub-out
sub-if2 c = search rules

returns-2 : tie.Need-returns-then-out-at-lt12
returns-2 c = let a = c.args in sym (room_none a.out.now a.at a.w (omega (arith, c.if-out-at.false, c.if-out-at-lt12.true)))

add-put-digits : tie.Need-overflow_add-at
add-put-digits c = search rules

size-of-requires : tie.Need-size_of-requires
size-of-requires c κs = search rules

put-digits-requires : tie.Need-put_digits-first-requires
put-digits-requires c κs = search rules

same_length : tie.Need-shape_of-out-then-w-lt2147483648
same_length c = search rules

returns-3 : tie.Need-returns-then-w-lt2147483648
returns-3 c =
    let a = c.args in
    let e = c.size_of.ensures.positive c.if-w-lt2147483648.true in
    spells_positive a.out.now a.at a.w c.if-w-lt2147483648.true c.put_digits-first.new.out c.put_digits-first.result (rw e at c.put_digits-first.ensures.0)
    (rw e at c.put_digits-first.ensures.1)
    ∙ sym (room_is a.out.now a.at a.w (room (c.before.before.before.before.before.before)))

sub_out : tie.Need-overflow_sub-out-2
sub_out c =
    let e = c.size_of.ensures.negative c.if-w-lt2147483648.false in
    (sign_place c.args.out.now c.args.at c.args.w c.if-w-lt2147483648.false c.ranges.w.fits c.put_digits-first.new.out c.put_digits-first.result
    (rw e at c.put_digits-first.ensures.0)).0

slice-write-out : tie.Need-bounds-out-first
slice-write-out c = search rules

same-length-2 : tie.Need-shape_of-out
same-length-2 c = search rules

returns-4 : tie.Need-returns
returns-4 c =
    let a = c.args in
    let e = c.size_of.ensures.negative c.if-w-lt2147483648.false in
    spells_negative a.out.now a.at a.w c.if-w-lt2147483648.false c.ranges.w.fits c.put_digits-first.new.out c.put_digits-first.result
    (rw e at c.put_digits-first.ensures.0) (rw e at c.put_digits-first.ensures.1)
    ∙ sym (room_is a.out.now a.at a.w (room (c.before.before.before.before.before.before)))

pub put_long_spec : {M : Type 1} → statement M
put_long_spec =
    tie.close
    (tie.spec
    returns
    sub-if2
    returns-2
    add-put-digits
    size-of-requires
    put-digits-requires
    same_length
    returns-3
    sub_out
    slice-write-out
    same-length-2
    returns-4)
