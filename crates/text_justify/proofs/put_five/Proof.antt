-- `text_justify::put_five` meets its contract: blanks, and five numbers spelled over them.
-- Assumes nothing.
use Prim.Native.Nat.{◌+◌}
use lib.IntN.{pos}
use lib.ListN.{get_or}
use Rattle.lang.proofs.Records.{word_passed}
use Rattle.text_justify.proofs.Fill.{five_filled}
use borrow.Author.Rules.{rules}
use Rattle.text_justify.proofs.put_five.Statement.{statement}
use Rattle.text_justify.proofs.put_five.Tie as tie

put-blanks-requires : tie.Need-put_blanks-requires
put-blanks-requires c κs = search rules

mul-word-of : tie.Need-offset_bounds-pairs-first
mul-word-of c = search rules

shared-slice-copy-out-word-of : tie.Need-bounds-pairs-first
shared-slice-copy-out-word-of c = search rules

word-of-requires : tie.Need-word_of-requires
word-of-requires c κs = search rules

put-character-requires : tie.Need-put_character-requires
put-character-requires c κs = search rules

add-put-character : tie.Need-overflow_add-at
add-put-character c = search rules

add-word-of : tie.Need-overflow_add-first
add-word-of c = search rules

mul-word-of-2 : tie.Need-offset_bounds-pairs-first-2
mul-word-of-2 c = search rules

shared-slice-copy-out-word-of-2 : tie.Need-bounds-pairs-first-2
shared-slice-copy-out-word-of-2 c = search rules

word-of-requires-2 : tie.Need-word_of-requires-2
word-of-requires-2 c κs = search rules

put-character-requires-2 : tie.Need-put_character-requires-2
put-character-requires-2 c κs = search rules

add-put-character-2 : tie.Need-overflow_add-at-2
add-put-character-2 c = search rules

add-word-of-2 : tie.Need-overflow_add-first-2
add-word-of-2 c = search rules

mul-word-of-3 : tie.Need-offset_bounds-pairs-first-3
mul-word-of-3 c = search rules

shared-slice-copy-out-word-of-3 : tie.Need-bounds-pairs-first-3
shared-slice-copy-out-word-of-3 c = search rules

word-of-requires-3 : tie.Need-word_of-requires-3
word-of-requires-3 c κs = search rules

put-character-requires-3 : tie.Need-put_character-requires-3
put-character-requires-3 c κs = search rules

add-put-number : tie.Need-overflow_add-at-3
add-put-number c = search rules

add-word-of-3 : tie.Need-overflow_add-first-3
add-word-of-3 c = search rules

mul-word-of-4 : tie.Need-offset_bounds-pairs-first-4
mul-word-of-4 c = search rules

shared-slice-copy-out-word-of-4 : tie.Need-bounds-pairs-first-4
shared-slice-copy-out-word-of-4 c = search rules

word-of-requires-4 : tie.Need-word_of-requires-4
word-of-requires-4 c κs = search rules

put-number-requires : tie.Need-put_number-requires
put-number-requires c κs = search rules

add-put-number-2 : tie.Need-overflow_add-at-4
add-put-number-2 c = search rules

add-word-of-4 : tie.Need-overflow_add-first-4
add-word-of-4 c = search rules

mul-word-of-5 : tie.Need-offset_bounds-pairs-first-5
mul-word-of-5 c = search rules

shared-slice-copy-out-word-of-5 : tie.Need-bounds-pairs-first-5
shared-slice-copy-out-word-of-5 c = search rules

word-of-requires-5 : tie.Need-word_of-requires-5
word-of-requires-5 c κs = search rules

put-number-requires-2 : tie.Need-put_number-requires-2
put-number-requires-2 c κs = search rules

same_length : tie.Need-shape_of-out
same_length c = search rules

returns : tie.Need-returns
returns c =
    let a = c.args in
    five_filled a.pairs.now a.first a.out.now a.at c.put_blanks.ensures
    (word_passed {x = get_or a.pairs.now a.first (pos 0)} (record { sfits = c.word_of-arg-1.given }) c.word_of.ensures)
    c.put_character.ensures
    (word_passed {x = get_or a.pairs.now (a.first + 1) (pos 0)} (record { sfits = c.word_of-arg-2-1.given }) c.word_of-2.ensures)
    c.put_character-2.ensures
    (word_passed {x = get_or a.pairs.now (a.first + 2) (pos 0)} (record { sfits = c.word_of-arg-3-1.given }) c.word_of-3.ensures)
    c.put_character-3.ensures
    (word_passed {x = get_or a.pairs.now (a.first + 3) (pos 0)} (record { sfits = c.word_of-arg-4-1.given }) c.word_of-4.ensures)
    c.put_number.ensures
    (word_passed {x = get_or a.pairs.now (a.first + 5) (pos 0)} (record { sfits = c.word_of-arg-5-1.given }) c.word_of-5.ensures)
    c.put_number-2.ensures

pub put_five_spec : {M : Type 1} → statement M
put_five_spec =
    tie.close
    (tie.spec
    put-blanks-requires
    mul-word-of
    shared-slice-copy-out-word-of
    word-of-requires
    put-character-requires
    add-put-character
    add-word-of
    mul-word-of-2
    shared-slice-copy-out-word-of-2
    word-of-requires-2
    put-character-requires-2
    add-put-character-2
    add-word-of-2
    mul-word-of-3
    shared-slice-copy-out-word-of-3
    word-of-requires-3
    put-character-requires-3
    add-put-number
    add-word-of-3
    mul-word-of-4
    shared-slice-copy-out-word-of-4
    word-of-requires-4
    put-number-requires
    add-put-number-2
    add-word-of-4
    mul-word-of-5
    shared-slice-copy-out-word-of-5
    word-of-requires-5
    put-number-requires-2
    same_length
    returns)
