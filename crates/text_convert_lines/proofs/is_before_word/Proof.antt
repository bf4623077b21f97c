-- `text_convert_lines::is_before_word` meets its contract. Assumes nothing.
use lib.ListN.{length}
use borrow.Author.Rules.{rules}
use borrow.Author.Tests.{lt-ltb, le-ltb}
use Rattle.text_convert_lines.proofs.is_before_word.Statement.{statement}
use Rattle.text_convert_lines.proofs.is_before_word.Tie as tie

shared-slice-read-result : tie.Need-bounds-text-at
shared-slice-read-result c = search rules

returns : tie.Need-returns-then-at-text
returns c =
    let a = c.args in
    rw (lt-ltb a.at (length a.text.now) c.if-at-text.true)

returns-2 : tie.Need-returns-else-at-text
returns-2 c = let a = c.args in rw (le-ltb a.at (length a.text.now) c.if-at-text.false)

pub is_before_word_spec : {M : Type 1} → statement M
is_before_word_spec =
    tie.close
    (tie.spec
    shared-slice-read-result
    returns
    returns-2)
