-- `text_line_numbers::line_ends` meets its contract. Assumes nothing.
use mathlib.Core.Path.{sym}
use native.Mathlib.Omega.{arith}
use borrow.Author.Rules.{rules}
use Rattle.text_line_numbers.proofs.Storing.{ends_past, ends_before, ends_by}
use Rattle.text_line_numbers.proofs.line_ends.Statement.{statement}
use Rattle.text_line_numbers.proofs.line_ends.Tie as tie

returns : tie.Need-returns-then-text-at
returns c = let a = c.args in sym (ends_past a.text.now a.at a.n c.if-text-at.true)

sub-if2 : tie.Need-overflow_sub-text
sub-if2 c = search rules

sub-if2-2 : tie.Need-overflow_sub-text-2
sub-if2-2 c = search rules

returns-2 : tie.Need-returns-then-text-at-2
returns-2 c =
    let a = c.args in
    sym (ends_before a.text.now a.at a.n (omega (arith, c.if-text-at.false)) c.if-text-at-2.true)

mul-result : tie.Need-overflow_mul-result
mul-result c = search rules

add-result : tie.Need-overflow_add-result
add-result c = search rules

shared-slice-read-result : tie.Need-bounds-text-at
shared-slice-read-result c = search rules

returns-3 : tie.Need-returns
returns-3 c =
    let a = c.args in
    sym (ends_by a.text.now a.at a.n (omega (arith, c.if-text-at.false)) c.if-text-at-2.false)

pub line_ends_spec : {M : Type 1} → statement M
line_ends_spec =
    tie.close
    (tie.spec
    returns
    sub-if2
    sub-if2-2
    returns-2
    mul-result
    add-result
    shared-slice-read-result
    returns-3)
