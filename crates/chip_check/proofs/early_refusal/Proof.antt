-- `chip_check::early_refusal` meets its contract: the first of three numbers that is not 0.
-- Assumes nothing.
use mathlib.Core.Path.{◌≡◌, sym, ap, ◌∙◌}
use Rattle.words.proofs.Bits.{number_word}
use Rattle.lang.specs.Checks.{absent_refusal}
use Rattle.lang.proofs.Refusals.{first_refusal, later_refusal_lem, room_is, room_short}
use borrow.Author.Rules.{rules}
use Rattle.chip_check.proofs.early_refusal.Statement.{statement}
use Rattle.chip_check.proofs.early_refusal.Tie as tie

-- the boundary character as it was lent
edge : (c : tie.After-absent_refusal-edge) → c.absent_refusal-edge.result ≡ absent_refusal 255 c.args.boundary
edge c = c.absent_refusal-edge.ensures ∙ ap (absent_refusal 255) (number_word c.args.boundary c.ranges.boundary)

absent-refusal-requires : tie.Need-absent_refusal-edge-requires
absent-refusal-requires c κs = search rules

returns : tie.Need-returns-then-edge-ne0
returns c = first_refusal _ (edge c.before) c.if-edge-ne0.true

chip-refusal-requires : tie.Need-chip_refusal-stands-requires
chip-refusal-requires c κs = search rules

returns-2 : tie.Need-returns-then-stands-ne0
returns-2 c =
    later_refusal_lem (edge c.before.before.before) c.if-edge-ne0.false (first_refusal _ c.chip_refusal-stands.ensures c.if-stands-ne0.true)

returns-3 : tie.Need-returns-then-bytes-lt16
returns-3 c =
    later_refusal_lem (edge c.before.before.before.before) c.if-edge-ne0.false
    (later_refusal_lem c.chip_refusal-stands.ensures c.if-stands-ne0.false (sym (room_short 16 c.args.bytes c.if-bytes-lt16.true)))

returns-4 : tie.Need-returns-else-bytes-lt16
returns-4 c =
    later_refusal_lem (edge c.before.before.before.before) c.if-edge-ne0.false
    (later_refusal_lem c.chip_refusal-stands.ensures c.if-stands-ne0.false (sym (room_is 16 c.args.bytes c.if-bytes-lt16.false)))

pub early_refusal_spec : {M : Type 1} → statement M
early_refusal_spec =
    tie.close
    (tie.spec
    absent-refusal-requires
    returns
    chip-refusal-requires
    returns-2
    returns-3
    returns-4)
