-- `compile_ops::write_second` meets its contract: a kern, or the part as it is found.
-- Assumes nothing.
use mathlib.Core.Path.{sym, subst, ◌∙◌}
use Rattle.compiling.specs.OpSteps.{PartFits, PartWritten}
use Rattle.compile_op_parts.proofs.Laws.{second_written}
use Rattle.compile_ops.proofs.KernOps.{kern_second}
use borrow.Author.Rules.{rules}
use Rattle.compile_ops.proofs.write_second.Statement.{statement}
use Rattle.compile_ops.proofs.write_second.Tie as tie

get-requires : tie.Need-get-requires
get-requires c κs = search rules

second-part-requires : tie.Need-second_part-requires
second-part-requires c κs = search rules

write-part-requires : tie.Need-write_part-requires
write-part-requires c κs =
    let a = c.args in
    subst (PartFits a.work.now a.ops.now a.p) (sym (c.second_part.ensures ∙ second_written a.n a.work.now a.k c.requires.0 c.requires.1 c.requires.2)) c.requires.3

same_length : tie.Need-shape_of-ops-then-get-ne128
same_length c = search rules

returns : tie.Need-returns-then-get-ne128
returns c =
    let a = c.args in
    subst (PartWritten a.work.now a.ops.now c.write_part.new.ops a.p c.write_part.result)
    (c.second_part.ensures ∙ second_written a.n a.work.now a.k c.requires.0 c.requires.1 c.requires.2) c.write_part.ensures

get-requires-2 : tie.Need-get-value-requires
get-requires-2 c κs = search rules

put-op-requires : tie.Need-put_op-requires
put-op-requires c κs =
    let a = c.args in
    let q = kern_second a.n a.work.now a.k (sym c.get.ensures ∙ c.if-get-ne128.false) c.get-value.result c.get-value.ensures in
    subst (PartFits a.work.now a.ops.now a.p) (sym q) c.requires.3

same-length-2 : tie.Need-shape_of-ops
same-length-2 c = search rules

returns-2 : tie.Need-returns
returns-2 c =
    let a = c.args in
    let q = kern_second a.n a.work.now a.k (sym c.get.ensures ∙ c.if-get-ne128.false) c.get-value.result
    c.get-value.ensures in
    subst (PartWritten a.work.now a.ops.now c.put_op.new.ops a.p c.put_op.result) q (record { next = c.put_op.ensures.0; written = c.put_op.ensures.1 })

pub write_second_spec : {M : Type 1} → statement M
write_second_spec =
    tie.close
    (tie.spec
    get-requires
    second-part-requires
    write-part-requires
    same_length
    returns
    get-requires-2
    put-op-requires
    same-length-2
    returns-2)
