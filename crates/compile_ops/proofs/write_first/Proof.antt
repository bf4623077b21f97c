-- `compile_ops::write_first` meets its contract: a kern's left, or the part as it is found.
-- Assumes nothing.
use mathlib.Core.Path.{sym, subst, ◌∙◌}
use Rattle.compiling.specs.OpSteps.{PartFits, PartWritten}
use Rattle.compiling.proofs.OpTables.{nothing_written}
use Rattle.compile_op_parts.proofs.Laws.{first_written}
use Rattle.compile_ops.proofs.KernOps.{kern_edge, kern_left}
use borrow.Author.Rules.{rules}
use Rattle.compile_ops.proofs.write_first.Statement.{statement}
use Rattle.compile_ops.proofs.write_first.Tie as tie

get-requires : tie.Need-get-requires
get-requires c κs = search rules

first-part-requires : tie.Need-first_part-requires
first-part-requires c κs = search rules

write-part-requires : tie.Need-write_part-requires
write-part-requires c κs =
    let a = c.args in
    subst (PartFits a.work.now a.ops.now a.p) (sym (c.first_part.ensures ∙ first_written a.n a.work.now a.k c.requires.0 c.requires.1)) c.requires.2

same_length : tie.Need-shape_of-ops-then-get-ne128
same_length c = search rules

returns : tie.Need-returns-then-get-ne128
returns c =
    let a = c.args in
    subst (PartWritten a.work.now a.ops.now c.write_part.new.ops a.p c.write_part.result)
    (c.first_part.ensures ∙ first_written a.n a.work.now a.k c.requires.0 c.requires.1) c.write_part.ensures

get-requires-2 : tie.Need-get-left-requires
get-requires-2 c κs = search rules

returns-2 : tie.Need-returns-then-left-eq0
returns-2 c =
    let a = c.args in
    let q = kern_edge a.n a.work.now a.k (sym c.get.ensures ∙ c.if-get-ne128.false) c.get-left.result c.get-left.ensures
    c.if-left-eq0.true in
    subst (PartWritten a.work.now a.ops.now a.ops.now a.p a.p) q (nothing_written a.work.now a.ops.now a.p)

sub-put-op : tie.Need-overflow_sub-left
sub-put-op c = search rules

put-op-requires : tie.Need-put_op-requires
put-op-requires c κs =
    let a = c.args in
    let q = kern_left a.n a.work.now a.k (sym c.get.ensures ∙ c.if-get-ne128.false) c.get-left.result
    c.get-left.ensures c.if-left-eq0.false in
    subst (PartFits a.work.now a.ops.now a.p) (sym q) c.requires.2

same-length-2 : tie.Need-shape_of-ops
same-length-2 c = search rules

returns-3 : tie.Need-returns
returns-3 c =
    let a = c.args in
    let q = kern_left a.n a.work.now a.k (sym c.get.ensures ∙ c.if-get-ne128.false) c.get-left.result
    c.get-left.ensures c.if-left-eq0.false in
    subst (PartWritten a.work.now a.ops.now c.put_op.new.ops a.p c.put_op.result) q (record { next = c.put_op.ensures.0; written = c.put_op.ensures.1 })

pub write_first_spec : {M : Type 1} → statement M
write_first_spec =
    tie.close
    (tie.spec
    get-requires
    first-part-requires
    write-part-requires
    same_length
    returns
    get-requires-2
    returns-2
    sub-put-op
    put-op-requires
    same-length-2
    returns-3)
