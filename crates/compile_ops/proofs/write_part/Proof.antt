-- `compile_ops::write_part` meets its contract: each arm is a clause of its definition.
-- Assumes nothing.
use mathlib.Core.Path.{sym, subst}
use Rattle.compiling.specs.OpSteps.{PartFits, PartWritten}
use Rattle.compiling.proofs.OpTables.{nothing_written, row_copied}
use borrow.Author.Rules.{rules}
use Rattle.compile_ops.proofs.write_part.Statement.{statement}
use Rattle.compile_ops.proofs.write_part.Tie as tie

enum_told : tie.Need-enum_told-1
enum_told c = search rules

enum-known-part : tie.Need-enum_known-part
enum-known-part c = search rules

put-op-requires : tie.Need-put_op-requires
put-op-requires c κs =
    subst (PartFits c.args.work.now c.args.ops.now c.args.p) c.in-Character.is c.requires

enum-known-part-2 : tie.Need-enum_known-part-in-Ligature-1
enum-known-part-2 c = search rules

put-op-requires-2 : tie.Need-put_op-requires-in-Ligature
put-op-requires-2 c κs =
    subst (PartFits c.args.work.now c.args.ops.now c.args.p) c.in-Ligature.is c.requires

enum-known-part-3 : tie.Need-enum_known-part-in-Kern-1
enum-known-part-3 c = search rules

put-op-requires-3 : tie.Need-put_op-requires-in-Kern
put-op-requires-3 c κs =
    subst (PartFits c.args.work.now c.args.ops.now c.args.p) c.in-Kern.is c.requires

enum-known-part-4 : tie.Need-enum_known-part-in-OfRow-1
enum-known-part-4 c = search rules

copy-row-requires : tie.Need-copy_row-requires
copy-row-requires c κs =
    subst (PartFits c.args.work.now c.args.ops.now c.args.p) c.in-OfRow.is c.requires

returns : tie.Need-returns-in-Nothing
returns c =
    subst (PartWritten c.args.work.now c.args.ops.now c.args.ops.now c.args.p c.args.p) (sym c.in-Nothing.is)
    (nothing_written c.args.work.now c.args.ops.now c.args.p)

same_length : tie.Need-shape_of-ops-in-Character
same_length c = search rules

returns-2 : tie.Need-returns-in-Character
returns-2 c =
    subst (PartWritten c.args.work.now c.args.ops.now c.put_op.new.ops c.args.p c.put_op.result) (sym c.in-Character.is)
    (record { next = c.put_op.ensures.0; written = c.put_op.ensures.1 })

same-length-2 : tie.Need-shape_of-ops-in-Ligature
same-length-2 c = search rules

returns-3 : tie.Need-returns-in-Ligature
returns-3 c =
    subst (PartWritten c.args.work.now c.args.ops.now c.put_op-in-Ligature.new.ops c.args.p c.put_op-in-Ligature.result)
    (sym c.in-Ligature.is)
    (record { next = c.put_op-in-Ligature.ensures.0; written = c.put_op-in-Ligature.ensures.1 })

same-length-3 : tie.Need-shape_of-ops-in-Kern
same-length-3 c = search rules

returns-4 : tie.Need-returns-in-Kern
returns-4 c =
    subst (PartWritten c.args.work.now c.args.ops.now c.put_op-in-Kern.new.ops c.args.p c.put_op-in-Kern.result)
    (sym c.in-Kern.is)
    (record { next = c.put_op-in-Kern.ensures.0; written = c.put_op-in-Kern.ensures.1 })

same-length-4 : tie.Need-shape_of-ops-in-OfRow
same-length-4 c = search rules

returns-5 : tie.Need-returns-in-OfRow
returns-5 c =
    subst (PartWritten c.args.work.now c.args.ops.now c.copy_row.new.ops c.args.p c.copy_row.result)
    (sym c.in-OfRow.is)
    (row_copied c.args.work.now c.args.ops.now c.copy_row.new.ops c.args.p c.copy_row.result c.in-OfRow.k
    (subst (PartFits c.args.work.now c.args.ops.now c.args.p) c.in-OfRow.is c.requires) c.copy_row.ensures.0
    c.copy_row.ensures.1)

pub write_part_spec : {M : Type 1} → statement M
write_part_spec =
    tie.close
    (tie.spec
    enum_told
    enum-known-part
    put-op-requires
    enum-known-part-2
    put-op-requires-2
    enum-known-part-3
    put-op-requires-3
    enum-known-part-4
    copy-row-requires
    returns
    same_length
    returns-2
    same-length-2
    returns-3
    same-length-3
    returns-4
    same-length-4
    returns-5)
