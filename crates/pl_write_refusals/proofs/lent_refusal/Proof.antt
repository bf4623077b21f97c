-- `pl_write_refusals::lent_refusal` meets its contract: the first refusal that is not 0.
-- Assumes nothing.
use Rattle.lang.proofs.Refusals.{first_refusal, later_refusal_lem}
use Rattle.pl_write_refusals.proofs.Shown.{absent_passed}
use borrow.Author.Rules.{rules}
use Rattle.pl_write_refusals.proofs.lent_refusal.Statement.{statement}
use Rattle.pl_write_refusals.proofs.lent_refusal.Tie as tie

kerns-refusal-requires : tie.Need-kerns_refusal-kern-requires
kerns-refusal-requires c κs = search rules

returns : tie.Need-returns-then-kern-ne0
returns c =
    first_refusal _ c.kerns_refusal-kern.ensures c.if-kern-ne0.true

entries-refusal-requires : tie.Need-entries_refusal-entry-requires
entries-refusal-requires c κs = search rules

returns-2 : tie.Need-returns-then-entry-ne0
returns-2 c =
    later_refusal_lem c.kerns_refusal-kern.ensures c.if-kern-ne0.false (first_refusal _ c.entries_refusal-entry.ensures c.if-entry-ne0.true)

absent-refusal-requires : tie.Need-absent_refusal-character-requires
absent-refusal-requires c κs = search rules

returns-3 : tie.Need-returns-then-character-ne0
returns-3 c =
    later_refusal_lem c.kerns_refusal-kern.ensures c.if-kern-ne0.false (later_refusal_lem c.entries_refusal-entry.ensures c.if-entry-ne0.false
    (first_refusal _ (absent_passed 255 c.ranges.boundary c.absent_refusal-character.ensures) c.if-character-ne0.true))

absent-refusal-requires-2 : tie.Need-absent_refusal-requires
absent-refusal-requires-2 c κs = search rules

returns-4 : tie.Need-returns
returns-4 c =
    later_refusal_lem c.kerns_refusal-kern.ensures c.if-kern-ne0.false (later_refusal_lem c.entries_refusal-entry.ensures c.if-entry-ne0.false
    (later_refusal_lem (absent_passed 255 c.ranges.boundary c.absent_refusal-character.ensures) c.if-character-ne0.false (absent_passed 65535
    c.ranges.left_entry c.absent_refusal.ensures)))

pub lent_refusal_spec : {M : Type 1} → statement M
lent_refusal_spec =
    tie.close
    (tie.spec
    kerns-refusal-requires
    returns
    entries-refusal-requires
    returns-2
    absent-refusal-requires
    returns-3
    absent-refusal-requires-2
    returns-4)
