use Rattle.std.proofs.Common.{◌≡◌}
use Rattle.tfm.specs.declared.ScalingError.TheVariants.{SizeOutOfRange}
use Rattle.c_scale.proofs.Laws.{told_number_lem}
use Rattle.c_scale.proofs.tell_scaled.Goals as goal

-- the lower of 19 and the number of the room
pub returns-in-Err-SizeOutOfRange : goal.returns-in-Err-SizeOutOfRange
returns-in-Err-SizeOutOfRange c =
    let e : c.in-Err-SizeOutOfRange.field-0 ≡ SizeOutOfRange = rw c.in-Err-SizeOutOfRange.is at c.in-Err-SizeOutOfRange.field-0-is in
    rw (c.in-Err-SizeOutOfRange.is, e)
    (told_number_lem c.args.scaled.now c.zero_all.ensures c.room_refusal-room.ensures 19 c.lower_of.ensures)
