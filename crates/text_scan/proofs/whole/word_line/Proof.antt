-- `text_scan::whole::word_line` meets its contract. Assumes nothing.
use native.Mathlib.Omega.{arith}
use borrow.Author.Tests.{not-true, not-false}
use Rattle.text_scan.proofs.WordLine.{word_unended, word_unread, word_all}
use borrow.Author.Rules.{rules}
use Rattle.text_scan.proofs.whole.word_line.Statement.{statement}
use Rattle.text_scan.proofs.whole.word_line.Tie as tie

add_at : tie.Need-overflow_add-at
add_at c = search rules

sub-rest : tie.Need-overflow_sub-rest
sub-rest c = search rules

returns : tie.Need-returns-then-rest-ne1
returns c =
    let a = c.args in
    word_unended a.text.now a.p a.word.now a.word.now (λ e. omega (arith, e, c.if-rest-ne1.true))

read-letters-requires : tie.Need-read_letters-requires
read-letters-requires c κs = search rules

returns-2 : tie.Need-returns-then-not-read_letters
returns-2 c =
    let a = c.args in
    word_unread a.text.now a.p a.word.now c.read_letters.new.word (omega (arith, c.if-rest-ne1.false)) c.read_letters-arg-1.given.0.1
    c.read_letters.result c.read_letters.ensures (c.if-not-read_letters.true)

cast-heads-of : tie.Need-overflow_cast-n
cast-heads-of c = record { fits = omega (arith, c.requires.short) }

heads-of-requires : tie.Need-heads_of-requires
heads-of-requires c κs = search rules

returns-3 : tie.Need-returns
returns-3 c =
    let a = c.args in
    word_all a.text.now a.p a.word.now c.read_letters.new.word (omega (arith, c.if-rest-ne1.false)) c.read_letters-arg-1.given.0.1
    c.read_letters.result c.read_letters.ensures (c.if-not-read_letters.false) c.heads_of.result c.heads_of.ensures

pub word_line_spec : {M : Type 1} → statement M
word_line_spec =
    tie.close
    (tie.spec
    add_at
    sub-rest
    returns
    read-letters-requires
    returns-2
    cast-heads-of
    heads-of-requires
    returns-3)
