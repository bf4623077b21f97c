-- `step_quick_op::is_entered` meets its contract: the last fits, the ops are among the ops, and the first is a character.
-- Assumes nothing.
use mathlib.Core.Path.{sym, ◌∙◌}
use Prim.Native.Nat.{◌+◌}
use borrow.Author.Tests.{not-true, not-false, lt-leb, le-leb}
use Rattle.captions.specs.Tables.{op_count}
use Rattle.table_numbers.proofs.Records.{record_last, record_ops}
use Rattle.step_quick.specs.Quick.{first_plain}
use borrow.Author.Rules.{rules}
use Rattle.step_quick_op.proofs.is_entered.Statement.{statement}
use Rattle.step_quick_op.proofs.is_entered.Tie as tie

last-fits-requires : tie.Need-last_fits-requires
last-fits-requires c κs = search rules

returns : tie.Need-returns-then-not-last_fits
returns c =
    let a = c.args in
    rw (sym (record_last a.pairs.now a.ops.now a.k (sym c.last_fits.ensures ∙ c.if-not-last_fits.true)))

number-in-requires : tie.Need-number_in-first-requires
number-in-requires c κs = search rules

cast-first : tie.Need-overflow_cast-first
cast-first c = search rules

number-in-requires-2 : tie.Need-number_in-count-requires
number-in-requires-2 c κs = search rules

cast-count : tie.Need-overflow_cast-count
cast-count c = search rules

add-if2 : tie.Need-overflow_add-first
add-if2 c = search rules

returns-2 : tie.Need-returns-then-ops-first
returns-2 c =
    let a = c.args in
    rw (sym (record_ops a.pairs.now a.ops.now a.k
    (sym c.last_fits.ensures ∙ c.if-not-last_fits.false) c.number_in-first.ensures c.number_in-count.ensures)
    ∙ lt-leb (c.number_in-first.result + c.number_in-count.result) (op_count a.ops.now) c.if-ops-first.true)

first-plain-requires : tie.Need-first_plain-requires
first-plain-requires c κs = search rules

returns-3 : tie.Need-returns
returns-3 c =
    let a = c.args in
    rw (sym (record_ops a.pairs.now a.ops.now a.k
    (sym c.last_fits.ensures ∙ c.if-not-last_fits.false) c.number_in-first.ensures
    c.number_in-count.ensures) ∙ le-leb (c.number_in-first.result + c.number_in-count.result) (op_count a.ops.now) c.if-ops-first.false)
    (c.first_plain.ensures ∙ (λ i. first_plain a.ops.now (c.number_in-first.ensures.is i) (c.number_in-count.ensures.is i)))

pub is_entered_spec : {M : Type 1} → statement M
is_entered_spec =
    tie.close
    (tie.spec
    last-fits-requires
    returns
    number-in-requires
    cast-first
    number-in-requires-2
    cast-count
    add-if2
    returns-2
    first-plain-requires
    returns-3)
