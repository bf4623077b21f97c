-- `blame_numbers::blame_number` meets its contract: the lowest of four numbers.
-- Assumes nothing.
use mathlib.Core.Path.{◌≡◌, ap, ◌∙◌}
use mathlib.Core.List.{[]}
use lib.IntN.{ℤ}
use borrow.Author.Rules.{rules}
use Rattle.words.proofs.Bits.{number_word}
use Rattle.tfm.specs.Scaled.{asked_refusal}
use Rattle.lang.specs.Checks.{lower}
use Rattle.captions.specs.Begin.{begin_refusal}
use Rattle.blame_numbers.proofs.blame_number.Statement.{statement}
use Rattle.blame_numbers.proofs.blame_number.Tie as tie

loop-number-requires : tie.Need-loop_number-of_font-requires
loop-number-requires c κs = search rules

word-number-requires : tie.Need-word_number-of_word-requires
word-number-requires c κs = search rules

room-refusal-requires : tie.Need-room_refusal-of_room-requires
room-refusal-requires c κs = search rules

asked-refusal-requires : tie.Need-asked_refusal-of_size-requires
asked-refusal-requires c κs = search rules

lower-of-requires : tie.Need-lower_of-requires
lower-of-requires c κs = search rules

lower-of-requires-2 : tie.Need-lower_of-requires-2
lower-of-requires-2 c κs = search rules

lower-of-requires-3 : tie.Need-lower_of-requires-3
lower-of-requires-3 c κs = search rules

returns : tie.Need-returns
returns c =
    let a = c.args in
    let of_word = c.word_number-of_word.ensures
    ∙ ap (λ (z : ℤ). begin_refusal [] [] z a.word.now a.options) (number_word a.numbers.boundary (record { sfits = c.struct_told-1.given.0.1 })) in
    let of_size = c.asked_refusal-of_size.ensures ∙ (λ i. asked_refusal (number_word a.numbers.design_size (record { sfits = c.struct_told-1.given.1.1.0.1 }) i)
    (number_word a.numbers.size (record { sfits = c.struct_told-1.given.1.1.1.0.1 }) i) (number_word a.numbers.magnification
    (record { sfits = c.struct_told-1.given.1.1.1.1.0.1 }) i)) in
    let low = c.lower_of.ensures ∙ (λ i. lower (c.room_refusal-of_room.ensures i) (of_size i)) in
    let mid = c.lower_of-2.ensures ∙ (λ i. lower (of_word i) (low i)) in
    c.lower_of-3.ensures ∙ (λ i. lower (c.loop_number-of_font.ensures i) (mid i))

pub blame_number_spec : {M : Type 1} → statement M
blame_number_spec =
    tie.close
    (tie.spec
    loop-number-requires
    word-number-requires
    room-refusal-requires
    asked-refusal-requires
    lower-of-requires
    lower-of-requires-2
    lower-of-requires-3
    returns)
