-- `compile_op_counts::row_count` meets its contract: a kern and its left, or the sum of the counts of the row's two parts.
-- Assumes nothing.
use mathlib.Core.Path.{sym, ap, ◌∙◌}
use Prim.Native.Nat.{◌+◌}
use Rattle.compiling.specs.OpRows.{capped}
use Rattle.compiling.specs.OpSteps.{part_count}
use Rattle.compile_op_parts.proofs.Laws.{first_written, second_written}
use Rattle.compile_op_counts.proofs.KernRows.{edge_kern, character_kern}
use borrow.Author.Rules.{rules}
use Rattle.compile_op_counts.proofs.row_count.Statement.{statement}
use Rattle.compile_op_counts.proofs.row_count.Tie as tie

get-requires : tie.Need-get-requires
get-requires c κs = search rules

get-requires-2 : tie.Need-get-requires-then-get-eq128
get-requires-2 c κs = search rules

returns : tie.Need-returns-then-get-eq0
returns c =
    let a = c.args in
    edge_kern a.n a.work.now a.k (sym c.get.ensures ∙ c.if-get-eq128.true) c.get-then-get-eq128.result c.get-then-get-eq128.ensures c.if-get-eq0.true

returns-2 : tie.Need-returns-then-get-eq128
returns-2 c =
    let a = c.args in
    character_kern a.n a.work.now a.k (sym c.get.ensures ∙ c.if-get-eq128.true) c.get-then-get-eq128.result c.get-then-get-eq128.ensures c.if-get-eq0.false

first-part-requires : tie.Need-first_part-requires
first-part-requires c κs = search rules

part-count-requires : tie.Need-part_count-first-requires
part-count-requires c κs = search rules

second-part-requires : tie.Need-second_part-requires
second-part-requires c κs = search rules

part-count-requires-2 : tie.Need-part_count-second-requires
part-count-requires-2 c κs = search rules

capped-sum-requires : tie.Need-capped_sum-requires
capped-sum-requires c κs = search rules

returns-3 : tie.Need-returns
returns-3 c =
    let p = c.requires in
    let w = c.args.work.now in
    let f = c.first_part.ensures ∙ first_written c.args.n w c.args.k p.0 p.1 in
    let g = c.second_part.ensures ∙ second_written c.args.n w c.args.k p.0 p.1 p.2 in
    let x = c.part_count-first.ensures ∙ ap (part_count w) f in
    let y = c.part_count-second.ensures ∙ ap (part_count w) g in
    c.capped_sum.ensures ∙ (λ i. capped (x i + y i))

pub row_count_spec : {M : Type 1} → statement M
row_count_spec =
    tie.close
    (tie.spec
    get-requires
    get-requires-2
    returns
    returns-2
    first-part-requires
    part-count-requires
    second-part-requires
    part-count-requires-2
    capped-sum-requires
    returns-3)
