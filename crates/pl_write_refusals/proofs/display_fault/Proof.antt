-- `pl_write_refusals::display_fault` meets its contract: the first refusal that is not 0.
-- Assumes nothing.
use Rattle.property_lists.specs.Displays.{shows_all}
use mathlib.Core.Path.{sym, ap, ◌∙◌}
use Rattle.lang.specs.Checks.{unless}
use Rattle.lang.proofs.Refusals.{first_refusal, later_refusal_lem}
use Rattle.pl_write_refusals.proofs.Shown.{lent_passed, shows_passed}
use borrow.Author.Rules.{rules}
use Rattle.pl_write_refusals.proofs.display_fault.Statement.{statement}
use Rattle.pl_write_refusals.proofs.display_fault.Tie as tie

program-refusal-requires : tie.Need-program_refusal-program-requires
program-refusal-requires c κs = search rules

returns : tie.Need-returns-then-program-ne0
returns c =
    first_refusal _ c.program_refusal-program.ensures c.if-program-ne0.true

lent-refusal-requires : tie.Need-lent_refusal-lent-requires
lent-refusal-requires c κs = search rules

returns-2 : tie.Need-returns-then-lent-ne0
returns-2 c =
    later_refusal_lem c.program_refusal-program.ensures c.if-program-ne0.false
    (first_refusal (unless 24 (shows_all c.args.instructions.now c.args.kerns.now c.args.entries.now c.args.left_entry))
    (lent_passed c.args.kerns.now c.args.entries.now c.ranges.boundary c.ranges.left_entry c.lent_refusal-lent.ensures)
    c.if-lent-ne0.true)

shows-all-requires : tie.Need-shows_all-requires
shows-all-requires c κs = search rules

returns-3 : tie.Need-returns-then-shows_all
returns-3 c =
    later_refusal_lem c.program_refusal-program.ensures c.if-program-ne0.false
    (later_refusal_lem (lent_passed c.args.kerns.now c.args.entries.now c.ranges.boundary c.ranges.left_entry
    c.lent_refusal-lent.ensures) c.if-lent-ne0.false
    (ap (unless 24) (sym c.if-shows_all.true ∙ shows_passed c.args.instructions.now c.args.kerns.now c.args.entries.now
    c.ranges.left_entry c.shows_all.ensures)))

returns-4 : tie.Need-returns-else-shows_all
returns-4 c =
    later_refusal_lem c.program_refusal-program.ensures c.if-program-ne0.false
    (later_refusal_lem (lent_passed c.args.kerns.now c.args.entries.now c.ranges.boundary c.ranges.left_entry
    c.lent_refusal-lent.ensures) c.if-lent-ne0.false
    (ap (unless 24) (sym c.if-shows_all.false ∙ shows_passed c.args.instructions.now c.args.kerns.now c.args.entries.now
    c.ranges.left_entry c.shows_all.ensures)))

pub display_fault_spec : {M : Type 1} → statement M
display_fault_spec =
    tie.close
    (tie.spec
    program-refusal-requires
    returns
    lent-refusal-requires
    returns-2
    shows-all-requires
    returns-3
    returns-4)
