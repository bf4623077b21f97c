-- `c_display::ligkern_display` meets its contract. Assumes nothing.
use lib.IntN.{ℤ}
use Rattle.words.specs.Words.{word_of, number_of}
use Rattle.words.proofs.Bits.{number_word}
use Rattle.c_values.proofs.Telling.{lent_two}
use Rattle.c_display.specs.Display.{HostDisplays}
use Rattle.c_display.proofs.Telling.{host_displays}
use borrow.Author.Rules.{rules}
use Rattle.c_display.proofs.ligkern_display.Statement.{statement}
use Rattle.c_display.proofs.ligkern_display.Tie as tie

display-requires : tie.Need-display-written-requires
display-requires c κs = search rules

tell-requires : tie.Need-tell-told-requires
tell-requires c κs = search rules

room-refusal-requires : tie.Need-room_refusal-requires
room-refusal-requires c κs = search rules

lower-of-requires : tie.Need-lower_of-number-requires
lower-of-requires c κs = search rules

keep-list-requires : tie.Need-keep_list-requires
keep-list-requires c κs = search rules

same_length : tie.Need-shape_of-text
same_length c = search rules

same-length-2 : tie.Need-shape_of-values
same-length-2 c = search rules

returns : tie.Need-returns
returns c =
    lent_two
    (λ (x y : ℤ). HostDisplays c.args.instructions.now c.args.kerns.now c.args.entries.now x y c.args.text.now
    c.args.values.now c.lower_of-number.result c.keep_list.new.out c.tell-told.new.values)
    (number_word c.args.boundary c.ranges.boundary) (number_word c.args.left_entry c.ranges.left_entry)
    (host_displays c.args.instructions.now c.args.kerns.now c.args.entries.now (number_of (word_of c.args.boundary)) (number_of
    (word_of c.args.left_entry)) c.args.text.now c.args.values.now c.display-written.ensures c.tell-told.ensures
    c.display-written.auto.text c.tell-told.auto.values c.room_refusal.ensures c.lower_of-number.ensures c.keep_list.ensures)

pub ligkern_display_spec : {M : Type 1} → statement M
ligkern_display_spec =
    tie.close
    (tie.spec
    display-requires
    tell-requires
    room-refusal-requires
    lower-of-requires
    keep-list-requires
    same_length
    same-length-2
    returns)
