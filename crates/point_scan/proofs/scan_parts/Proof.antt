-- `point_scan::scan_parts` meets its contract: each test is one of its definition.
-- Assumes nothing.
use mathlib.Core.Path.{sym, ◌∙◌}
use borrow.Author.Tests.{not-true, not-false}
use Rattle.point_scan.proofs.Parts.{whole_unreadable, decimals_unreadable, none_unreadable, large_unreadable, sum_read}
use borrow.Author.Rules.{rules}
use Rattle.point_scan.proofs.scan_parts.Statement.{statement}
use Rattle.point_scan.proofs.scan_parts.Tie as tie

only-digits-requires : tie.Need-only_digits-requires
only-digits-requires c κs = search rules

returns : tie.Need-returns-then-not-only_digits
returns c =
    let s = c.args in
    whole_unreadable s.whole.now s.decimals.now (sym (c.if-not-only_digits.true) ∙ c.only_digits.ensures)

only-digits-requires-2 : tie.Need-only_digits-requires-2
only-digits-requires-2 c κs = search rules

returns-2 : tie.Need-returns-then-not-only_digits-2
returns-2 c =
    let s = c.args in
    decimals_unreadable s.whole.now s.decimals.now (sym (c.if-not-only_digits.false) ∙ c.only_digits.ensures)
    (sym (c.if-not-only_digits-2.true) ∙ c.only_digits-2.ensures)

both-empty-requires : tie.Need-both_empty-requires
both-empty-requires c κs = search rules

returns-3 : tie.Need-returns-then-both_empty
returns-3 c =
    let s = c.args in
    none_unreadable s.whole.now s.decimals.now (sym (c.if-not-only_digits.false) ∙ c.only_digits.ensures)
    (sym (c.if-not-only_digits-2.false) ∙ c.only_digits-2.ensures) (sym c.if-both_empty.true ∙ c.both_empty.ensures)

whole-of-requires : tie.Need-whole_of-requires
whole-of-requires c κs = search rules

mul-sum : tie.Need-overflow_mul-sum
mul-sum c = search rules

round-decimals-requires : tie.Need-round_decimals-requires
round-decimals-requires c κs = search rules

add-sum : tie.Need-overflow_add-sum
add-sum c = search rules

returns-4 : tie.Need-returns-then-sum-ge134217728
returns-4 c =
    let s = c.args in
    large_unreadable s.whole.now s.decimals.now (sym (c.if-not-only_digits.false) ∙ c.only_digits.ensures)
    (sym (c.if-not-only_digits-2.false) ∙ c.only_digits-2.ensures) (sym c.if-both_empty.false ∙ c.both_empty.ensures) c.whole_of.ensures
    c.round_decimals.ensures.0 c.if-sum-ge134217728.true

returns-5 : tie.Need-returns
returns-5 c =
    let s = c.args in
    sum_read s.whole.now s.decimals.now (sym (c.if-not-only_digits.false) ∙ c.only_digits.ensures)
    (sym (c.if-not-only_digits-2.false) ∙ c.only_digits-2.ensures) (sym c.if-both_empty.false ∙ c.both_empty.ensures) c.whole_of.ensures
    c.round_decimals.ensures.0 c.if-sum-ge134217728.false

pub scan_parts_spec : {M : Type 1} → statement M
scan_parts_spec =
    tie.close
    (tie.spec
    only-digits-requires
    returns
    only-digits-requires-2
    returns-2
    both-empty-requires
    returns-3
    whole-of-requires
    mul-sum
    round-decimals-requires
    add-sum
    returns-4
    returns-5)
