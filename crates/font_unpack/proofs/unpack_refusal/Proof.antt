-- `font_unpack::unpack_refusal` meets its contract: the first of five refusals that is not 0.
-- Assumes nothing.
use mathlib.Core.Path.{◌≡◌, ap, sym, ◌∙◌}
use Prim.Native.Nat.{ℕ, ◌*◌}
use native.Mathlib.Omega.{arith}
use borrow.Author.Rules.{rules}
use lib.ListN.{length}
use Rattle.words.proofs.Bits.{number_word}
use Rattle.lang.specs.Checks.{absent_refusal}
use Rattle.lang.specs.Answers.{room_refusal}
use Rattle.lang.proofs.Refusals.{first_refusal, later_refusal_lem}
use Rattle.font_unpackings.specs.Unpackings.{unpacked_program}
use Rattle.font_unpack.proofs.Standing.{part_within, part_length}
use Rattle.font_unpack.proofs.unpack_refusal.Statement.{statement}
use Rattle.font_unpack.proofs.unpack_refusal.Tie as tie

absent : (c : tie.After-absent_refusal-absent) → c.absent_refusal-absent.result ≡ absent_refusal 65535 c.args.left_entry
absent c =
    c.absent_refusal-absent.ensures ∙ ap (absent_refusal 65535) (number_word c.args.left_entry c.ranges.left_entry)

-- a program that is taken so far has four numbers an instruction
size : (c : tie.After-room_refusal-size) → let a = c.args in
    c.room_refusal-size.result ≡ room_refusal (length (unpacked_program a.instructions.now a.entries.now a.left_entry)) a.room
size c =
    let a = c.args in
    let ok = sym c.program_refusal-program.ensures ∙ c.if-program-ne0.false in
    c.room_refusal-size.ensures
    ∙ ap (λ (n : ℕ). room_refusal n a.room)
    (ap (λ (n : ℕ). 4 * n) c.requires ∙ part_length a.instructions.now a.entries.now a.left_entry ok)

program-refusal-requires : tie.Need-program_refusal-program-requires
program-refusal-requires c κs = search rules

returns : tie.Need-returns-then-program-ne0
returns c = first_refusal _ c.program_refusal-program.ensures c.if-program-ne0.true

entries-refusal-requires : tie.Need-entries_refusal-entered-requires
entries-refusal-requires c κs = search rules

returns-2 : tie.Need-returns-then-entered-ne0
returns-2 c =
    later_refusal_lem c.program_refusal-program.ensures c.if-program-ne0.false (first_refusal _ c.entries_refusal-entered.ensures c.if-entered-ne0.true)

absent-refusal-requires : tie.Need-absent_refusal-absent-requires
absent-refusal-requires c κs = search rules

returns-3 : tie.Need-returns-then-absent-ne0
returns-3 c =
    later_refusal_lem c.program_refusal-program.ensures c.if-program-ne0.false
    (later_refusal_lem c.entries_refusal-entered.ensures c.if-entered-ne0.false (first_refusal _ (absent c.before) c.if-absent-ne0.true))

mul-room-refusal : tie.Need-overflow_mul-count
mul-room-refusal c =
    let a = c.args in
    omega (arith, c.requires, part_within a.instructions.now a.entries.now a.left_entry)

room-refusal-requires : tie.Need-room_refusal-size-requires
room-refusal-requires c κs = search rules

returns-4 : tie.Need-returns-then-size-ne0
returns-4 c =
    later_refusal_lem c.program_refusal-program.ensures c.if-program-ne0.false
    (later_refusal_lem c.entries_refusal-entered.ensures c.if-entered-ne0.false
    (later_refusal_lem (absent c.before.before.before) c.if-absent-ne0.false (first_refusal _ (size c.before) c.if-size-ne0.true)))

room-refusal-requires-2 : tie.Need-room_refusal-requires
room-refusal-requires-2 c κs = search rules

returns-5 : tie.Need-returns
returns-5 c =
    later_refusal_lem c.program_refusal-program.ensures c.if-program-ne0.false
    (later_refusal_lem c.entries_refusal-entered.ensures c.if-entered-ne0.false
    (later_refusal_lem (absent c.before.before.before.before) c.if-absent-ne0.false (later_refusal_lem (size c.before.before) c.if-size-ne0.false c.room_refusal.ensures)))

pub unpack_refusal_spec : {M : Type 1} → statement M
unpack_refusal_spec =
    tie.close
    (tie.spec
    program-refusal-requires
    returns
    entries-refusal-requires
    returns-2
    absent-refusal-requires
    returns-3
    mul-room-refusal
    room-refusal-requires
    returns-4
    room-refusal-requires-2
    returns-5)
