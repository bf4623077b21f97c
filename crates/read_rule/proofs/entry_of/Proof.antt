-- `read_rule::entry_of` meets its contract: the table's place of the left.
-- Assumes nothing.
use native.Mathlib.Omega.{arith}
use Rattle.words.proofs.Bits.{number_word}
use Rattle.read_rule.proofs.Laws.{boundary_entry, character_entry}
use borrow.Author.Rules.{rules}
use Rattle.read_rule.proofs.entry_of.Statement.{statement}
use Rattle.read_rule.proofs.entry_of.Tie as tie

entries-table-requires : tie.Need-entries_table-table-requires
entries-table-requires c κs = search rules

entry-at-requires : tie.Need-entry_at-requires
entry-at-requires c κs = search rules

returns : tie.Need-returns-then-boundary
returns c =
    boundary_entry c.args.entries.now _ c.args.left_entry c.entries_table-table.result c.args.boundary c.args.left c.entry_at.result
    c.entries_table-table.ensures (number_word c.args.left_entry c.ranges.left_entry) c.if-boundary.true c.entry_at.ensures

entry-at-requires-2 : tie.Need-entry_at-requires-2
entry-at-requires-2 c κs = search rules

returns-2 : tie.Need-returns
returns-2 c =
    character_entry c.args.entries.now _ c.args.left_entry c.entries_table-table.result c.args.boundary c.args.left c.entry_at-2.result
    c.entries_table-table.ensures (number_word c.args.left_entry c.ranges.left_entry) c.if-boundary.false (omega (arith, c.ranges.left))
    c.entry_at-2.ensures

pub entry_of_spec : {M : Type 1} → statement M
entry_of_spec =
    tie.close
    (tie.spec
    entries-table-requires
    entry-at-requires
    returns
    entry-at-requires-2
    returns-2)
