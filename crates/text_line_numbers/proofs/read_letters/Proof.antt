-- `text_line_numbers::read_letters` meets its contract. Assumes nothing.
use mathlib.Core.Path.{sym, ap, ◌∙◌}
use native.Mathlib.Omega.{arith}
use lib.ListN.{length, drop}
use Rattle.text_line_numbers.specs.LineNumbers.{numbers_in, leading_in, words_of}
use Rattle.text_line_numbers.proofs.Storing.{ends_inside, in_short, in_unended, in_is, leading_short, leading_unended, leading_is}
use Rattle.text_line_numbers.proofs.Storing.{worded, stores_nothing}
use borrow.Author.Rules.{rules}
use Rattle.text_line_numbers.proofs.read_letters.Statement.{statement}
use Rattle.text_line_numbers.proofs.read_letters.Tie as tie

returns : tie.Need-returns-then-word-n
returns c =
    let a = c.args in
    let bs = drop a.at a.text.now in
    let room = length a.word.now in
    stores_nothing (words_of (numbers_in room a.n bs)) (worded (leading_in room a.n bs)) a.word.now 0
    (ap words_of (in_short room a.n bs c.if-word-n.true)) (ap worded (leading_short room a.n bs c.if-word-n.true))

line-ends-requires : tie.Need-line_ends-requires
line-ends-requires c κs = search rules

returns-2 : tie.Need-returns-then-not-line_ends
returns-2 c =
    let a = c.args in
    let bs = drop a.at a.text.now in
    let room = length a.word.now in
    let u = sym c.line_ends.ensures ∙ c.if-not-line_ends.true in
    stores_nothing (words_of (numbers_in room a.n bs)) (worded (leading_in room a.n bs)) a.word.now 0
    (ap words_of (in_unended room a.n bs u)) (ap worded (leading_unended room a.n bs u))

read-words-requires : tie.Need-read_words-requires
read-words-requires c κs =
    let a = c.args in (
      omega (arith, ends_inside a.text.now a.at a.n (sym c.line_ends.ensures ∙ c.if-not-line_ends.false)),
      c.if-word-n.false,
    )

same_length : tie.Need-shape_of-word
same_length c = search rules

returns-3 : tie.Need-returns
returns-3 c =
    let a = c.args in
    let bs = drop a.at a.text.now in
    let u = sym c.line_ends.ensures ∙ c.if-not-line_ends.false in
    rw (in_is (length a.word.now) a.n bs c.if-word-n.false u, leading_is (length a.word.now) a.n bs c.if-word-n.false u)
    c.read_words.ensures

pub read_letters_spec : {M : Type 1} → statement M
read_letters_spec =
    tie.close
    (tie.spec
    returns
    line-ends-requires
    returns-2
    read-words-requires
    same_length
    returns-3)
