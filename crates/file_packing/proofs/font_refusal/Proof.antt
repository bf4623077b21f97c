-- `file_packing::font_refusal` meets its contract: the first refusal that is not 0.
-- Assumes nothing.
use mathlib.Core.Path.{◌≡◌}
use Rattle.words.proofs.Bits.{number_word}
use Rattle.lang.proofs.Refusals.{first_refusal, later_refusal_lem}
use Rattle.files.specs.Writing.{writable, pack_font_refusal}
use Rattle.file_packing.proofs.Packing.{empty_known}
use borrow.Author.Rules.{rules}
use Rattle.file_packing.proofs.font_refusal.Statement.{statement}
use Rattle.file_packing.proofs.font_refusal.Tie as tie

-- what the entries are refused with is what the font is
asked : (e : tie.After-entered_refusal-entered) → let s = e.before.before.before.before.before in
    e.entered_refusal-entered.result
    ≡ pack_font_refusal
    (writable e.args.instructions.now e.args.kerns.now e.args.entries.now e.args.boundary e.args.left_entry)
asked e =
    let s = e.before.before.before.before.before in
    later_refusal_lem e.program_refusal-program.ensures e.if-program-ne0.false
    (later_refusal_lem e.kerns_refusal-many.ensures e.if-many-ne0.false
    (empty_known e.args.entries.now (number_word e.args.boundary e.ranges.boundary) (number_word e.args.left_entry e.ranges.left_entry)
    e.entered_refusal-entered.ensures))

program-refusal-requires : tie.Need-program_refusal-program-requires
program-refusal-requires c κs = search rules

returns : tie.Need-returns-then-program-ne0
returns c = first_refusal _ (first_refusal _ c.program_refusal-program.ensures c.if-program-ne0.true) c.if-program-ne0.true

kerns-refusal-requires : tie.Need-kerns_refusal-many-requires
kerns-refusal-requires c κs = search rules

returns-2 : tie.Need-returns-then-many-ne0
returns-2 c =
    first_refusal _
    (later_refusal_lem c.program_refusal-program.ensures c.if-program-ne0.false (first_refusal _ c.kerns_refusal-many.ensures c.if-many-ne0.true))
    c.if-many-ne0.true

entered-refusal-requires : tie.Need-entered_refusal-entered-requires
entered-refusal-requires c κs = search rules

short-refusal-requires : tie.Need-short_refusal-short-requires
short-refusal-requires c κs = search rules

returns-3 : tie.Need-returns-then-entered-ne0
returns-3 c = first_refusal _ (asked c.before.before) c.if-entered-ne0.true

returns-4 : tie.Need-returns
returns-4 c = later_refusal_lem (asked c.before.before) c.if-entered-ne0.false c.short_refusal-short.ensures

pub font_refusal_spec : {M : Type 1} → statement M
font_refusal_spec =
    tie.close
    (tie.spec
    program-refusal-requires
    returns
    kerns-refusal-requires
    returns-2
    entered-refusal-requires
    short-refusal-requires
    returns-3
    returns-4)
