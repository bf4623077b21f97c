-- `repair_refusals::lists_refusal` meets its contract: the first refusal that is not 0.
-- Assumes nothing.
use Rattle.lang.proofs.Refusals.{first_refusal, later_refusal_lem}
use borrow.Author.Rules.{rules}
use Rattle.repair_refusals.proofs.lists_refusal.Statement.{statement}
use Rattle.repair_refusals.proofs.lists_refusal.Tie as tie

program-refusal-requires : tie.Need-program_refusal-program-requires
program-refusal-requires c κs = search rules

returns : tie.Need-returns-then-program-ne0
returns c = first_refusal _ c.program_refusal-program.ensures c.if-program-ne0.true

kerns-refusal-requires : tie.Need-kerns_refusal-of_kerns-requires
kerns-refusal-requires c κs = search rules

returns-2 : tie.Need-returns-then-of_kerns-ne0
returns-2 c =
    later_refusal_lem c.program_refusal-program.ensures c.if-program-ne0.false (first_refusal _ c.kerns_refusal-of_kerns.ensures c.if-of_kerns-ne0.true)

entries-refusal-requires : tie.Need-entries_refusal-requires
entries-refusal-requires c κs = search rules

returns-3 : tie.Need-returns
returns-3 c =
    later_refusal_lem c.program_refusal-program.ensures c.if-program-ne0.false
    (later_refusal_lem c.kerns_refusal-of_kerns.ensures c.if-of_kerns-ne0.false c.entries_refusal.ensures)

pub lists_refusal_spec : {M : Type 1} → statement M
lists_refusal_spec =
    tie.close
    (tie.spec
    program-refusal-requires
    returns
    kerns-refusal-requires
    returns-2
    entries-refusal-requires
    returns-3)
