-- `font_requests::ask_refusal` meets its contract: the first of two numbers that is not 0.
-- Assumes nothing.
use mathlib.Core.Path.{◌≡◌, ap, ◌∙◌}
use Rattle.words.proofs.Bits.{number_word}
use Rattle.lang.specs.Checks.{absent_refusal}
use Rattle.lang.proofs.Refusals.{first_refusal, later_refusal_lem}
use borrow.Author.Rules.{rules}
use Rattle.font_requests.proofs.ask_refusal.Statement.{statement}
use Rattle.font_requests.proofs.ask_refusal.Tie as tie

-- the boundary character as it was lent
edge : (c : tie.After-absent_refusal-edge) → c.absent_refusal-edge.result ≡ absent_refusal 255 c.args.boundary
edge c = c.absent_refusal-edge.ensures ∙ ap (absent_refusal 255) (number_word c.args.boundary c.ranges.boundary)

absent-refusal-requires : tie.Need-absent_refusal-edge-requires
absent-refusal-requires c κs = search rules

returns : tie.Need-returns-then-edge-ne0
returns c = first_refusal _ (edge c.before) c.if-edge-ne0.true

table-refusal-requires : tie.Need-table_refusal-requires
table-refusal-requires c κs = search rules

returns-2 : tie.Need-returns
returns-2 c = later_refusal_lem (edge c.before.before) c.if-edge-ne0.false c.table_refusal.ensures

pub ask_refusal_spec : {M : Type 1} → statement M
ask_refusal_spec =
    tie.close
    (tie.spec
    absent-refusal-requires
    returns
    table-refusal-requires
    returns-2)
