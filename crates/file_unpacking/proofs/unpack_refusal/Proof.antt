-- `file_unpacking::unpack_refusal` meets its contract: the first of three numbers that is not 0.
-- Assumes nothing.
use Prim.Native.Nat.{◌/◌, ◌≤◌}
use native.Mathlib.Omega.{arith}
use lib.ListN.{length}
use borrow.Author.Rules.{rules}
use Rattle.file_unpacking.proofs.Unpacking.{leading_few, long_refused, entries_refused, lost_refused}
use Rattle.file_unpacking.proofs.unpack_refusal.Statement.{statement}
use Rattle.file_unpacking.proofs.unpack_refusal.Tie as tie

few : (n : tie.After-count_leading-n) → n.count_leading-n.result ≤ length n.args.packed.now / 2
few n =
    let a = n.args in
    leading_few a.instructions.now a.packed.now (length a.packed.now / 2) n.count_leading-n.result n.count_leading-n.ensures

returns : tie.Need-returns-then-instructions-gt32767
returns c = let a = c.args in long_refused a.instructions.now a.packed.now a.room a.lost_room c.if-instructions-gt32767.true

count-leading-requires : tie.Need-count_leading-n-requires
count-leading-requires c κs = search rules

mul-room-refusal : tie.Need-overflow_mul-n
mul-room-refusal c = omega (arith, few c)

room-refusal-requires : tie.Need-room_refusal-entries-requires
room-refusal-requires c κs = search rules

returns-2 : tie.Need-returns-then-entries-ne0
returns-2 c =
    let a = c.args in
    entries_refused a.instructions.now a.packed.now c.if-instructions-gt32767.false c.count_leading-n.result c.count_leading-n.ensures a.room a.lost_room
    c.room_refusal-entries.ensures c.if-entries-ne0.true

sub-room-refusal : tie.Need-overflow_sub-packed
sub-room-refusal c = few c.before.before

room-refusal-requires-2 : tie.Need-room_refusal-requires
room-refusal-requires-2 c κs = search rules

returns-3 : tie.Need-returns
returns-3 c =
    let a = c.args in
    lost_refused a.instructions.now a.packed.now c.if-instructions-gt32767.false c.count_leading-n.result c.count_leading-n.ensures a.room a.lost_room
    c.room_refusal-entries.ensures c.if-entries-ne0.false c.room_refusal.ensures

pub unpack_refusal_spec : {M : Type 1} → statement M
unpack_refusal_spec =
    tie.close
    (tie.spec
    returns
    count-leading-requires
    mul-room-refusal
    room-refusal-requires
    returns-2
    sub-room-refusal
    room-refusal-requires-2
    returns-3)
