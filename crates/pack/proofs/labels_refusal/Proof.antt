-- `pack::labels_refusal` meets its contract: 10, else 11, else 15, each by the test that leads to it.
-- Assumes nothing.
use Rattle.lang.proofs.Refusals.{first_refusal, later_refusal_lem}
use Rattle.pack.proofs.Packing.{redirects_many, redirects_few, room_first, room_entries, room_none}
use borrow.Author.Rules.{rules}
use Rattle.pack.proofs.labels_refusal.Statement.{statement}
use Rattle.pack.proofs.labels_refusal.Tie as tie

shift-refusal-requires : tie.Need-shift_refusal-shift-requires
shift-refusal-requires c κs = search rules

returns : tie.Need-returns-then-redirects-gt255
returns c = redirects_many _ c.if-redirects-gt255.true

returns-2 : tie.Need-returns-then-shift-ne0
returns-2 c = redirects_few c.if-redirects-gt255.false (first_refusal _ c.shift_refusal-shift.ensures c.if-shift-ne0.true)

returns-3 : tie.Need-returns-then-room-size
returns-3 c =
    let a = c.args in
    redirects_few c.if-redirects-gt255.false
    (later_refusal_lem c.shift_refusal-shift.ensures c.if-shift-ne0.false (room_first a.size a.room a.entry_size a.entry_room c.if-room-size.true))

returns-4 : tie.Need-returns-then-entry_room-entry_size
returns-4 c =
    let a = c.args in
    redirects_few c.if-redirects-gt255.false
    (later_refusal_lem c.shift_refusal-shift.ensures c.if-shift-ne0.false
    (room_entries a.size a.room a.entry_size a.entry_room c.if-room-size.false c.if-entry_room-entry_size.true))

returns-5 : tie.Need-returns-else-entry_room-entry_size
returns-5 c =
    let a = c.args in
    redirects_few c.if-redirects-gt255.false
    (later_refusal_lem c.shift_refusal-shift.ensures c.if-shift-ne0.false
    (room_none a.size a.room a.entry_size a.entry_room c.if-room-size.false c.if-entry_room-entry_size.false))

pub labels_refusal_spec : {M : Type 1} → statement M
labels_refusal_spec =
    tie.close
    (tie.spec
    shift-refusal-requires
    returns
    returns-2
    returns-3
    returns-4
    returns-5)
