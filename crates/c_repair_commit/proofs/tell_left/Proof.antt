-- `c_repair_commit::tell_left` meets its contract: by the answer, and by the place in the list (proofs/Telling).
-- Assumes nothing.
use mathlib.Core.Path.{ap}
use native.Mathlib.Omega.{arith}
use lib.ListN.{set}
use Rattle.words.proofs.Bits.{number_word}
use Rattle.c_repair_commit.proofs.Telling.{told_number_lem, told_short, told_entry, has_place}
use borrow.Author.Rules.{rules}
use Rattle.c_repair_commit.proofs.tell_left.Statement.{statement}
use Rattle.c_repair_commit.proofs.tell_left.Tie as tie

zero-all-requires : tie.Need-zero_all-requires
zero-all-requires c κs = search rules

room-refusal-requires : tie.Need-room_refusal-room-requires
room-refusal-requires c κs = search rules

enum-known-committed : tie.Need-enum_known-committed
enum-known-committed c = search rules

lower-of-requires : tie.Need-lower_of-requires
lower-of-requires c κs = search rules

enum-known-committed-2 : tie.Need-enum_known-committed-in-Fixed-1
enum-known-committed-2 c = search rules

same_length : tie.Need-shape_of-left-then-room-ne0
same_length c = search rules

returns : tie.Need-returns-then-room-ne0
returns c =
    let a = c.args in
    rw c.in-Fixed.is (told_short a.left.now c.zero_all.ensures c.room_refusal-room.ensures c.in-Fixed.entry c.if-room-ne0.true)

slice-set-from-entry : tie.Need-bounds-left-0
slice-set-from-entry c =
    omega (arith, has_place c.args.left.now c.zero_all.ensures c.room_refusal-room.ensures c.if-room-ne0.false)

same-length-2 : tie.Need-shape_of-left-in-Refused
same-length-2 c = search rules

returns-2 : tie.Need-returns-in-Refused
returns-2 c =
    let a = c.args in
    rw c.in-Refused.is
    (told_number_lem a.left.now c.zero_all.ensures c.room_refusal-room.ensures c.in-Refused.n c.lower_of.ensures)

same-length-3 : tie.Need-shape_of-left-else-room-ne0
same-length-3 c = search rules

returns-3 : tie.Need-returns-else-room-ne0
returns-3 c =
    let a = c.args in
    let v = c.in-Fixed.entry in
    rw c.in-Fixed.is
    (told_entry a.left.now c.zero_all.ensures c.room_refusal-room.ensures v c.if-room-ne0.false
    (ap (set c.zero_all.new.s 0) (number_word v (record { sfits = c.in-Fixed.known_told-in-Fixed-1-own.given.0.1 }))))

pub tell_left_spec : {M : Type 1} → statement M
tell_left_spec =
    tie.close
    (tie.spec
    zero-all-requires
    room-refusal-requires
    enum-known-committed
    lower-of-requires
    enum-known-committed-2
    same_length
    returns
    slice-set-from-entry
    same-length-2
    returns-2
    same-length-3
    returns-3)
