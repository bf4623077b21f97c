-- `font_free::free::is_character_free` meets its contract: the character is above 255, a letter follows, or the right item.
-- Assumes nothing.
use mathlib.Core.Path.{◌≡◌, ◌∙◌}
use Prim.Native.Nat.{◌+◌}
use Rattle.words.specs.Words.{number_of}
use Rattle.captions.specs.Steps.{or_boundary}
use Rattle.font_runs.specs.Changes.{following}
use Rattle.font_free.proofs.Laws.{left_above, right_bits, before_letter, past_last}
use borrow.Author.Rules.{rules}
use Rattle.font_free.proofs.free.is_character_free.Statement.{statement}
use Rattle.font_free.proofs.free.is_character_free.Tie as tie

returns : tie.Need-returns-then-c-gt255
returns c =
    let a = c.args in
    left_above a.pairs.now a.c (following a.word.now (or_boundary (number_of a.right)) a.read) c.if-c-gt255.true

add-is-pairless : tie.Need-overflow_add-c
add-is-pairless c = search rules

mul-is-pairless : tie.Need-offset_bounds-word-read
mul-is-pairless c = search rules

shared-slice-read-is-pairless : tie.Need-bounds-word-read
shared-slice-read-is-pairless c = search rules

is-pairless-requires : tie.Need-is_pairless-requires
is-pairless-requires c κs = search rules

returns-2 : tie.Need-returns-then-read-word
returns-2 c =
    let a = c.args in
    before_letter a.pairs.now (or_boundary (number_of a.right)) a.word.now a.read a.c c.if-read-word.true c.is_pairless.ensures

add-is-pairless-2 : tie.Need-overflow_add-c-2
add-is-pairless-2 c = search rules

is-pairless-requires-2 : tie.Need-is_pairless-requires-2
is-pairless-requires-2 c κs = search rules

returns-3 : tie.Need-returns
returns-3 c =
    let a = c.args in
    past_last a.pairs.now (or_boundary (number_of a.right)) a.word.now a.read a.c c.if-read-word.false
    (c.is_pairless-2.ensures ∙ right_bits a.pairs.now (a.c + 1) a.right)

pub is_character_free_spec : {M : Type 1} → statement M
is_character_free_spec =
    tie.close
    (tie.spec
    returns
    add-is-pairless
    mul-is-pairless
    shared-slice-read-is-pairless
    is-pairless-requires
    returns-2
    add-is-pairless-2
    is-pairless-requires-2
    returns-3)
