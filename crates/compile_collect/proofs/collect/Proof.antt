-- `compile_collect::collect` meets its contract: proofs/Zeroed, at the table of the font's entries.
-- Assumes nothing.
use mathlib.Core.Path.{◌∙◌, ap}
use Rattle.words.proofs.Bits.{number_word}
use Rattle.lang.specs.Entries.{entries_table}
use Rattle.compile_collect.proofs.Zeroed.{room_zeroed, too_long, rows_left, zeros_left, collects}
use borrow.Author.Rules.{rules}
use Rattle.compile_collect.proofs.collect.Statement.{statement}
use Rattle.compile_collect.proofs.collect.Tie as tie

zero-all-requires : tie.Need-zero_all-requires
zero-all-requires c κs = search rules

same_length : tie.Need-shape_of-work-then-instructions-gt32767
same_length c = search rules

returns : tie.Need-returns-then-instructions-gt32767
returns c =
    let a = c.args in
    collects _ _ _ _ _ _
    (too_long a.instructions.now (entries_table a.entries.now a.left_entry) a.room a.work.now c.zero_all.new.s c.if-instructions-gt32767.true c.zero_all.ensures)

entries-table-requires : tie.Need-entries_table-table-requires
entries-table-requires c κs = search rules

smaller-requires : tie.Need-min-cap-requires
smaller-requires c κs = search rules

collect-rows-requires : tie.Need-collect_rows-requires
collect-rows-requires c κs =
    let a = c.args in
    let q = room_zeroed a.room c.min-cap.result a.work.now c.zero_all.new.s c.zero_all.ensures c.min-cap.ensures in
    (c.if-instructions-gt32767.false, q.0, q.1)

enum-known-n : tie.Need-enum_known-n
enum-known-n c = search rules

enum-known-number : tie.Need-enum_known-number
enum-known-number c = search rules

zero-all-requires-2 : tie.Need-zero_all-requires-in-Refused
zero-all-requires-2 c κs = search rules

same-length-2 : tie.Need-shape_of-work-in-Rows
same-length-2 c = search rules

returns-2 : tie.Need-returns-in-Rows
returns-2 c =
    let a = c.args in
    let table = entries_table a.entries.now a.left_entry in
    let e = c.entries_table-table.ensures ∙ ap (entries_table a.entries.now) (number_word a.left_entry c.ranges.left_entry) in
    collects _ _ _ _ _ _
    (rows_left a.instructions.now table a.room a.work.now a.work.now c.if-instructions-gt32767.false c.zero_all.new.s c.zero_all.ensures c.min-cap.result
    c.min-cap.ensures c.entries_table-table.result e c.collect_rows.result c.collect_rows.new.work c.collect_rows.ensures
    c.in-Rows.n c.in-Rows.e c.in-Rows.is)

same-length-3 : tie.Need-shape_of-work-in-Refused
same-length-3 c = search rules

returns-3 : tie.Need-returns-in-Refused
returns-3 c =
    let a = c.args in
    let table = entries_table a.entries.now a.left_entry in
    let e = c.entries_table-table.ensures ∙ ap (entries_table a.entries.now) (number_word a.left_entry c.ranges.left_entry) in
    collects _ _ _ _ _ _
    (zeros_left a.instructions.now table a.room a.work.now c.zero_all-in-Refused.new.s c.if-instructions-gt32767.false c.zero_all.new.s c.zero_all.ensures c.min-cap.result
    c.min-cap.ensures c.entries_table-table.result e c.collect_rows.result c.collect_rows.new.work c.collect_rows.ensures c.in-Refused.number
    c.in-Refused.is c.collect_rows.auto.work c.zero_all-in-Refused.ensures)

pub collect_spec : {M : Type 1} → statement M
collect_spec =
    tie.close
    (tie.spec
    zero-all-requires
    same_length
    returns
    entries-table-requires
    smaller-requires
    collect-rows-requires
    enum-known-n
    enum-known-number
    zero-all-requires-2
    same-length-2
    returns-2
    same-length-3
    returns-3)
