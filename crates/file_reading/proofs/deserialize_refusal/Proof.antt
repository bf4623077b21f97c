-- `file_reading::deserialize_refusal` meets its contract: the first of four numbers that is not 0.
-- Assumes nothing.
use mathlib.Core.Path.{◌≡◌}
use native.Mathlib.Omega.{arith}
use Rattle.lang.specs.Answers.{room_refusal}
use Rattle.lang.proofs.Refusals.{first_refusal, later_refusal_lem}
use Rattle.files.specs.Reading.{file_instructions, file_kerns}
use lib.ListN.{length}
use Rattle.file_reading.proofs.Reading.{program_room, kern_room, entry_room}
use borrow.Author.Rules.{rules}
use Rattle.file_reading.proofs.deserialize_refusal.Statement.{statement}
use Rattle.file_reading.proofs.deserialize_refusal.Tie as tie

-- 15 for the instructions, and for the kerns
program : (c : tie.After-room_refusal-program) → let a = c.args in
    c.room_refusal-program.result ≡ room_refusal (length (file_instructions a.file.now)) a.room
program c =
    let a = c.args in
    program_room a.file.now a.room c.lengths_of-l.ensures c.room_refusal-program.ensures

kerns : (c : tie.After-room_refusal-kerns) → let a = c.args in
    c.room_refusal-kerns.result ≡ room_refusal (length (file_kerns a.file.now)) a.kern_room
kerns c =
    let a = c.args in
    kern_room a.file.now a.kern_room c.lengths_of-l.ensures c.room_refusal-kerns.ensures

lengths-refusal-requires : tie.Need-lengths_refusal-lengths-requires
lengths-refusal-requires c κs = search rules

lengths-of-requires : tie.Need-lengths_of-l-requires
lengths-of-requires c κs = search rules

cast-room-refusal : tie.Need-overflow_cast-l
cast-room-refusal c = search rules

mul-room-refusal : tie.Need-overflow_mul-l
mul-room-refusal c = search rules

room-refusal-requires : tie.Need-room_refusal-program-requires
room-refusal-requires c κs = search rules

returns : tie.Need-returns-then-lengths-ne0
returns c = first_refusal _ c.lengths_refusal-lengths.ensures c.if-lengths-ne0.true

returns-2 : tie.Need-returns-then-program-ne0
returns-2 c =
    later_refusal_lem c.lengths_refusal-lengths.ensures c.if-lengths-ne0.false (first_refusal _ (program c.before.before) c.if-program-ne0.true)

cast-room-refusal-2 : tie.Need-overflow_cast-l-2
cast-room-refusal-2 c = search rules

room-refusal-requires-2 : tie.Need-room_refusal-kerns-requires
room-refusal-requires-2 c κs = search rules

returns-3 : tie.Need-returns-then-kerns-ne0
returns-3 c =
    later_refusal_lem c.lengths_refusal-lengths.ensures c.if-lengths-ne0.false
    (later_refusal_lem (program c.before.before.before.before.before) c.if-program-ne0.false (first_refusal _ (kerns c.before) c.if-kerns-ne0.true))

char-start-requires : tie.Need-char_start-requires
char-start-requires c κs = search rules

char-count-requires : tie.Need-char_count-requires
char-count-requires c κs = search rules

count-entries-requires : tie.Need-count_entries-requires
count-entries-requires c κs = search rules

mul-room-refusal-2 : tie.Need-overflow_mul-count_entries
mul-room-refusal-2 c = omega (arith, c.count_entries.ensures.0)

room-refusal-requires-3 : tie.Need-room_refusal-requires
room-refusal-requires-3 c κs = search rules

returns-4 : tie.Need-returns
returns-4 c =
    let a = c.args in
    later_refusal_lem c.lengths_refusal-lengths.ensures c.if-lengths-ne0.false
    (later_refusal_lem (program c.before.before.before.before.before.before.before.before.before) c.if-program-ne0.false
    (later_refusal_lem (kerns c.before.before.before.before.before) c.if-kerns-ne0.false
    (entry_room a.file.now a.entry_room c.lengths_of-l.ensures c.char_start.result c.char_count.result c.count_entries.result
    c.char_start.ensures c.char_count.ensures c.count_entries.ensures.1 c.room_refusal.ensures)))

pub deserialize_refusal_spec : {M : Type 1} → statement M
deserialize_refusal_spec =
    tie.close
    (tie.spec
    lengths-refusal-requires
    lengths-of-requires
    cast-room-refusal
    mul-room-refusal
    room-refusal-requires
    returns
    returns-2
    cast-room-refusal-2
    room-refusal-requires-2
    returns-3
    char-start-requires
    char-count-requires
    count-entries-requires
    mul-room-refusal-2
    room-refusal-requires-3
    returns-4)
