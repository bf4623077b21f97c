-- `file_reading::commands::put_command` meets its contract: the four numbers, one after the other.
-- Assumes nothing.
use mathlib.Core.Path.{◌≡◌, ap, ◌∙◌}
use mathlib.Core.List.{List, [], ◌∷◌}
use Prim.Native.Nat.{ℕ}
use native.Mathlib.Omega.{arith}
use lib.IntN.{ℤ, pos}
use lib.Seq.{sets}
use Rattle.words.specs.Words.{number_of}
use Rattle.words.proofs.Bits.{number_pos}
use Rattle.files.specs.Commands.{word_byte, command_next, command_kind, command_operand, command_numbers}
use Rattle.file_reading.proofs.Laws.{four_stored}
use borrow.Author.Rules.{rules}
use Rattle.file_reading.proofs.commands.put_command.Statement.{statement}
use Rattle.file_reading.proofs.commands.put_command.Tie as tie

-- the four numbers, from bytes that are those of the word
numbers : (file : List ℕ) (w : ℕ) {a b c d : ℕ} {x y z u : ℤ} → a ≡ word_byte file w 0 → b ≡ word_byte file w 1 → c ≡ word_byte file w 2 →
    d ≡ word_byte file w 3 → x ≡ command_next a → y ≡ pos b → z ≡ pos (command_kind a c) → u ≡ pos (command_operand a c d) →
    ◌≡◌ {A = List ℤ} (x ∷ y ∷ z ∷ u ∷ []) (command_numbers file w)
numbers file w ea eb ec ed ex ey ez eu = rw (ex, ey, ez, eu, ea, eb, ec, ed)

word-byte-requires : tie.Need-word_byte-a-requires
word-byte-requires c κs = search rules

word-byte-requires-2 : tie.Need-word_byte-b-requires
word-byte-requires-2 c κs = search rules

word-byte-requires-3 : tie.Need-word_byte-c-requires
word-byte-requires-3 c κs = search rules

word-byte-requires-4 : tie.Need-word_byte-d-requires
word-byte-requires-4 c κs = search rules

next-word-requires : tie.Need-next_word-requires
next-word-requires c κs = search rules

put-word-requires : tie.Need-put_word-requires
put-word-requires c κs = search rules

add-put-word : tie.Need-overflow_add-at
add-put-word c = search rules

cast-put-word : tie.Need-overflow_cast-b
cast-put-word c = search rules

put-word-requires-2 : tie.Need-put_word-requires-2
put-word-requires-2 c κs = search rules

add-put-word-2 : tie.Need-overflow_add-at-2
add-put-word-2 c = search rules

kind-word-requires : tie.Need-kind_word-requires
kind-word-requires c κs = search rules

put-word-requires-3 : tie.Need-put_word-requires-3
put-word-requires-3 c κs = search rules

add-put-word-3 : tie.Need-overflow_add-at-3
add-put-word-3 c = search rules

operand-word-requires : tie.Need-operand_word-requires
operand-word-requires c κs = search rules

put-word-requires-4 : tie.Need-put_word-requires-4
put-word-requires-4 c κs = search rules

same_length : tie.Need-shape_of-out
same_length c = search rules

returns : tie.Need-returns
returns c =
    let b : number_of c.word_byte-b.result ≡ pos c.word_byte-b.result =
    number_pos c.word_byte-b.result (omega arith) in
    four_stored c.args.out.now c.args.at (number_of c.next_word.result) (number_of c.word_byte-b.result)
    (number_of c.kind_word.result) (number_of c.operand_word.result) c.put_word.ensures c.put_word-2.ensures
    c.put_word-3.ensures c.put_word-4.ensures
    ∙ ap (sets c.args.out.now c.args.at)
    (numbers c.args.file.now c.args.w c.word_byte-a.ensures c.word_byte-b.ensures
    c.word_byte-c.ensures c.word_byte-d.ensures c.next_word.ensures b c.kind_word.ensures c.operand_word.ensures)

pub put_command_spec : {M : Type 1} → statement M
put_command_spec =
    tie.close
    (tie.spec
    word-byte-requires
    word-byte-requires-2
    word-byte-requires-3
    word-byte-requires-4
    next-word-requires
    put-word-requires
    add-put-word
    cast-put-word
    put-word-requires-2
    add-put-word-2
    kind-word-requires
    put-word-requires-3
    add-put-word-3
    operand-word-requires
    put-word-requires-4
    same_length
    returns)
