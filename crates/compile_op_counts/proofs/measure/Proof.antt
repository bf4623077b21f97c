-- `compile_op_counts::measure` meets its contract: proofs/CountedFonts.
-- Assumes nothing.
use mathlib.Core.Path.{sym, ap, ◌∙◌}
use Prim.Native.Nat.{ℕ}
use lib.ListN.{replicate}
use Rattle.compile_op_counts.proofs.CountedFonts.{encoded₁, settled₁, exact₁, total₁, refused, measured}
use borrow.Author.Rules.{rules}
use Rattle.compile_op_counts.proofs.measure.Statement.{statement}
use Rattle.compile_op_counts.proofs.measure.Tie as tie

count-ops-requires : tie.Need-count_ops-total-requires
count-ops-requires c κs = search rules

sizes-refusal-requires : tie.Need-sizes_refusal-number-requires
sizes-refusal-requires c κs = search rules

zero-all-requires : tie.Need-zero_all-requires
zero-all-requires c κs = search rules

same_length : tie.Need-shape_of-work-then-number-ne0
same_length c = search rules

returns : tie.Need-returns-then-number-ne0
returns c = λ f g.
    let a = c.args in
    refused f a.n a.m a.r a.work.now g c.count_ops-total.result c.count_ops-total.new.work c.count_ops-total.ensures a.scaled a.op_room a.loop_room c.sizes_refusal-number.result c.zero_all.new.s
    c.sizes_refusal-number.ensures c.if-number-ne0.true (c.zero_all.ensures ∙ ap (λ (n : ℕ). replicate n 0) c.count_ops-total.auto.work)

first-ops-requires : tie.Need-first_ops-requires
first-ops-requires c κs =
    let a = c.args in
    let f = c.requires.0 in
    let g = c.requires.1 in
    let z = sym c.if-number-ne0.false ∙ c.sizes_refusal-number.ensures in (
      encoded₁ f a.n a.m a.r a.work.now g c.count_ops-total.result c.count_ops-total.new.work c.count_ops-total.ensures,
      settled₁ f a.n a.m a.r a.work.now g c.count_ops-total.result c.count_ops-total.new.work c.count_ops-total.ensures,
      exact₁ f a.n a.m a.r a.work.now g c.count_ops-total.result c.count_ops-total.new.work c.count_ops-total.ensures a.scaled a.op_room a.loop_room z,
      total₁ f a.n a.m a.r a.work.now g c.count_ops-total.result c.count_ops-total.new.work c.count_ops-total.ensures a.scaled a.op_room a.loop_room z,
    )

same-length-2 : tie.Need-shape_of-work
same-length-2 c = search rules

returns-2 : tie.Need-returns
returns-2 c = λ f g.
    let a = c.args in
    measured f a.n a.m a.r a.work.now g c.count_ops-total.result c.count_ops-total.new.work c.count_ops-total.ensures a.scaled a.op_room a.loop_room
    (sym c.if-number-ne0.false ∙ c.sizes_refusal-number.ensures) c.first_ops.new.work c.first_ops.ensures

pub measure_spec : {M : Type 1} → statement M
measure_spec =
    tie.close
    (tie.spec
    count-ops-requires
    sizes-refusal-requires
    zero-all-requires
    same_length
    returns
    first-ops-requires
    same-length-2
    returns-2)
