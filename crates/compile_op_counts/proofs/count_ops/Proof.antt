-- `compile_op_counts::count_ops` meets its contract: the counts are zeroed, found in the order in which rows finished, and summed; no pass changes what the
-- rows say.
-- Assumes nothing.
use mathlib.Core.Path.{ap, ◌∙◌}
use native.Mathlib.Omega.{arith}
use Rattle.compiling.specs.OpRows.{capped}
use Rattle.compiling.proofs.FieldLaws.{only_more, encoded_still, settled_still, count_still, total_is, total_still}
use borrow.Author.Rules.{rules}
use Rattle.compile_op_counts.proofs.count_ops.Statement.{statement}
use Rattle.compile_op_counts.proofs.count_ops.Tie as tie

zero-counts-requires : tie.Need-zero_counts-requires
zero-counts-requires c κs = search rules

count-rows-requires : tie.Need-count_rows-requires
count-rows-requires c κs =
    let o = c.zero_counts.ensures.only in (
      encoded_still c.args.n c.args.m c.args.work.now c.requires.0 c.requires.1 c.zero_counts.new.work o,
      settled_still c.args.n c.args.m c.args.work.now c.requires.0 c.requires.1 c.zero_counts.new.work o,
      c.zero_counts.ensures.stored,
    )

total-count-requires : tie.Need-total_count-requires
total-count-requires c κs = search rules

same_length : tie.Need-shape_of-work
same_length c = search rules

returns : tie.Need-returns
returns c =
    let w = c.args.work.now in
    let n = c.args.n in
    let o = c.zero_counts.ensures.only in
    record {
      only = only_more w c.zero_counts.new.work c.count_rows.new.work o c.count_rows.ensures.only;
      counts = λ k h. c.count_rows.ensures.counts k h ∙ ap capped (count_still n c.args.m w c.requires.0 c.requires.1 c.zero_counts.new.work o k h);
      total = c.total_count.ensures ∙ total_is n c.zero_counts.new.work c.count_rows.new.work c.count_rows.ensures.counts n (omega arith) ∙ ap capped (total_still n w c.zero_counts.new.work o);
    }

pub count_ops_spec : {M : Type 1} → statement M
count_ops_spec =
    tie.close
    (tie.spec
    zero-counts-requires
    count-rows-requires
    total-count-requires
    same_length
    returns)
