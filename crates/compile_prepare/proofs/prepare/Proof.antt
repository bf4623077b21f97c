-- `compile_prepare::prepare` meets its contract: proofs/Preparing, of the rows that were collected and encoded.
-- Assumes nothing.
use Prim.Native.Nat.{◌/◌, min}
use lib.ListN.{length}
use Rattle.words.proofs.Bits.{number_word}
use Rattle.lang.specs.Entries.{entries_table}
use Rattle.fonts.specs.Fonts.{font_of}
use Rattle.compile_prepare.proofs.Preparing.{encodes_as, collects_as, unfit, prepared, prepares}
use borrow.Author.Rules.{rules}
use Rattle.compile_prepare.proofs.prepare.Statement.{statement}
use Rattle.compile_prepare.proofs.prepare.Tie as tie

collect-requires : tie.Need-collect-requires
collect-requires c κs = search rules

enum-known-number : tie.Need-enum_known-number
enum-known-number c = search rules

enum-known-n : tie.Need-enum_known-n
enum-known-n c = search rules

encode-requires : tie.Need-encode-scaled-requires
encode-requires c κs =
    let a = c.args in
    let q =
    (collects_as a.instructions.now (entries_table a.entries.now) _ a.left_entry (min a.room (length a.work.now / 16))
    a.work.now c.collect.new.work c.collect.result _ c.collect.ensures c.in-Rows.is
    (number_word a.left_entry c.ranges.left_entry)).rows in
    q.2.ascending

same_length : tie.Need-shape_of-work-in-Refused
same_length c = search rules

returns : tie.Need-returns-in-Refused
returns c = λ b.
    let a = c.args in
    let cap = min a.room (length a.work.now / 16) in
    let q =
    (collects_as a.instructions.now (entries_table a.entries.now) _ a.left_entry cap a.work.now c.collect.new.work
    c.collect.result _ c.collect.ensures c.in-Refused.is (number_word a.left_entry c.ranges.left_entry)).rows in
    prepares _ _ _ _ _
    (unfit (font_of a.instructions.now a.kerns.now a.entries.now b a.left_entry a.design_size) cap a.work.now
    c.in-Refused.number c.collect.new.work q)

same-length-2 : tie.Need-shape_of-work-in-Rows
same-length-2 c = search rules

returns-2 : tie.Need-returns-in-Rows
returns-2 c = λ b.
    let a = c.args in
    let cap = min a.room (length a.work.now / 16) in
    let q =
    (collects_as a.instructions.now (entries_table a.entries.now) _ a.left_entry cap a.work.now c.collect.new.work
    c.collect.result _ c.collect.ensures c.in-Rows.is (number_word a.left_entry c.ranges.left_entry)).rows in
    let e = encodes_as a.instructions.now a.kerns.now _ a.design_size c.in-Rows.n c.collect.new.work c.encode-scaled.new.work
    c.encode-scaled.result c.encode-scaled.ensures (number_word a.design_size c.ranges.design_size) in
    prepares _ _ _ _ _
    (prepared (font_of a.instructions.now a.kerns.now a.entries.now b a.left_entry a.design_size) cap a.work.now c.in-Rows.n
    c.in-Rows.e c.collect.new.work c.encode-scaled.new.work q c.encode-scaled.result e)

pub prepare_spec : {M : Type 1} → statement M
prepare_spec =
    tie.close
    (tie.spec
    collect-requires
    enum-known-number
    enum-known-n
    encode-requires
    same_length
    returns
    same-length-2
    returns-2)
