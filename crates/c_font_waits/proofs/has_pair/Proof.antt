-- `c_font_waits::has_pair` meets its contract, by the tests.
-- Assumes nothing.
use Rattle.c_font_waits.proofs.Waiting.{no_character, no_letter, letter_above, by_place}
use borrow.Author.Rules.{rules}
use Rattle.c_font_waits.proofs.has_pair.Statement.{statement}
use Rattle.c_font_waits.proofs.has_pair.Tie as tie

plain-code-requires : tie.Need-plain_code-c-requires
plain-code-requires c κs = search rules

returns : tie.Need-returns-then-c-gt255
returns c =
    let a = c.args in
    no_character a.pairs.now a.word.now a.s c.plain_code-c.ensures c.if-c-gt255.true

returns-2 : tie.Need-returns-then-word-read
returns-2 c =
    let a = c.args in
    no_letter a.pairs.now a.word.now a.s c.plain_code-c.ensures c.if-c-gt255.false c.if-word-read.true

mul-y : tie.Need-offset_bounds-word-read
mul-y c = search rules

shared-slice-read-y : tie.Need-bounds-word-read
shared-slice-read-y c = search rules

returns-3 : tie.Need-returns-then-y-gt255
returns-3 c =
    let a = c.args in
    letter_above a.pairs.now a.word.now a.s c.plain_code-c.ensures c.if-c-gt255.false c.if-word-read.false c.if-y-gt255.true

add-found-place : tie.Need-overflow_add-c
add-found-place c = search rules

found-place-requires : tie.Need-found_place-requires
found-place-requires c κs = search rules

returns-4 : tie.Need-returns
returns-4 c =
    let a = c.args in
    by_place a.pairs.now a.word.now a.s c.plain_code-c.ensures c.if-c-gt255.false c.if-word-read.false c.if-y-gt255.false c.found_place.ensures

pub has_pair_spec : {M : Type 1} → statement M
has_pair_spec =
    tie.close
    (tie.spec
    plain-code-requires
    returns
    returns-2
    mul-y
    shared-slice-read-y
    returns-3
    add-found-place
    found-place-requires
    returns-4)
