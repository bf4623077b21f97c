-- `text_convert_lines::is_whole_lines` meets its contract. Assumes nothing.
use lib.ListN.{length}
use borrow.Author.Rules.{rules}
use borrow.Author.Tests.{eq-eqb, ne_eqb}
use Rattle.text_convert_lines.proofs.is_whole_lines.Statement.{statement}
use Rattle.text_convert_lines.proofs.is_whole_lines.Tie as tie

returns : tie.Need-returns-then-text-eq0
returns c = let a = c.args in rw (eq-eqb (length a.text.now) 0 c.if-text-eq0.true)

sub-result : tie.Need-overflow_sub-result
sub-result c = search rules

shared-slice-read-result : tie.Need-bounds-text-text
shared-slice-read-result c = search rules

returns-2 : tie.Need-returns
returns-2 c = let a = c.args in rw (ne_eqb (length a.text.now) 0 c.if-text-eq0.false)

pub is_whole_lines_spec : {M : Type 1} → statement M
is_whole_lines_spec =
    tie.close
    (tie.spec
    returns
    sub-result
    shared-slice-read-result
    returns-2)
