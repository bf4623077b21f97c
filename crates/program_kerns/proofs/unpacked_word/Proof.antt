-- `program_kerns::unpacked_word` meets its contract, case by case: another instruction, a kind, an operand, and the other numbers of a kern value.
-- Assumes nothing.
use mathlib.Core.Path.{◌≡◌}
use mathlib.Core.List.{List}
use Prim.Native.Nat.{ℕ, ◌/◌, ◌≤◌}
use native.Mathlib.Omega.{arith}
use lib.Dec.{lit<}
use lib.IntN.{ℤ, pos}
use lib.ListN.{length}
use Rattle.words.specs.Words.{Word, number_of}
use Rattle.words.proofs.Bits.{number_is}
use Rattle.lang.specs.Records.{field, is_kind}
use Rattle.program_kerns.specs.Kerns.{kern_place}
use Rattle.program_kerns.proofs.Changes.{kind_is, kind_not, small_word, word_not, word_kind, word_operand, word_other}
use Rattle.program_kerns.proofs.Places.{place_le}
use borrow.Author.Rules.{rules}
use Rattle.program_kerns.proofs.unpacked_word.Statement.{statement}
use Rattle.program_kerns.proofs.unpacked_word.Tie as tie

-- the place of a value that was read, as its word
place_is : (v : ℤ) (ks : List ℤ) (w r : ℕ) → length ks ≤ 32767 → Word v w → r ≡ kern_place (number_of w) ks → Word (pos (kern_place v ks)) r
place_is v ks w r l h e = rw (e, number_is h) (small_word (kern_place v ks) (omega (arith, place_le v ks)))

field-at-requires : tie.Need-field_at-requires
field-at-requires c κs = search rules

word-at-requires : tie.Need-word_at-requires
word-at-requires c κs = search rules

returns : tie.Need-returns-then-field_at-ne0
returns c =
    word_not c.args.instructions.now (is_kind 0 c.args.instructions.now) (pos 1)
    (λ i. pos (kern_place (field c.args.instructions.now i 3) c.args.kerns.now)) c.args.j
    (kind_not 0 c.args.instructions.now (c.args.j / 4) c.field_at.ensures c.if-field_at-ne0.true)
    c.word_at.ensures

returns-2 : tie.Need-returns-then-j-eq2
returns-2 c =
    word_kind c.args.instructions.now (is_kind 0 c.args.instructions.now) (pos 1)
    (λ i. pos (kern_place (field c.args.instructions.now i 3) c.args.kerns.now)) c.args.j
    (kind_is 0 c.args.instructions.now (c.args.j / 4) c.field_at.ensures c.if-field_at-ne0.false)
    c.if-j-eq2.true (small_word 1 (lit< tt))

field-at-requires-2 : tie.Need-field_at-requires-then-j-eq3
field-at-requires-2 c κs = search rules

place-of-requires : tie.Need-place_of-requires
place-of-requires c κs = search rules

cast-result : tie.Need-overflow_cast-result
cast-result c =
    omega (arith, c.place_of.ensures, place_le (number_of c.field_at-then-j-eq3.result) c.args.kerns.now, c.requires.few)

returns-3 : tie.Need-returns-then-j-eq3
returns-3 c =
    word_operand c.args.instructions.now (is_kind 0 c.args.instructions.now) (pos 1)
    (λ i. pos (kern_place (field c.args.instructions.now i 3) c.args.kerns.now)) c.args.j
    (kind_is 0 c.args.instructions.now (c.args.j / 4) c.field_at.ensures
    c.if-field_at-ne0.false)
    c.if-j-eq3.true
    (place_is (field c.args.instructions.now (c.args.j / 4) 3) c.args.kerns.now c.field_at-then-j-eq3.result c.place_of.result
    c.requires.few c.field_at-then-j-eq3.ensures c.place_of.ensures)

word-at-requires-2 : tie.Need-word_at-requires-2
word-at-requires-2 c κs = search rules

returns-4 : tie.Need-returns
returns-4 c =
    word_other c.args.instructions.now (is_kind 0 c.args.instructions.now) (pos 1)
    (λ i. pos (kern_place (field c.args.instructions.now i 3) c.args.kerns.now)) c.args.j
    (kind_is 0 c.args.instructions.now (c.args.j / 4) c.field_at.ensures c.if-field_at-ne0.false)
    c.if-j-eq2.false c.if-j-eq3.false c.word_at-2.ensures

pub unpacked_word_spec : {M : Type 1} → statement M
unpacked_word_spec =
    tie.close
    (tie.spec
    field-at-requires
    word-at-requires
    returns
    returns-2
    field-at-requires-2
    place-of-requires
    cast-result
    returns-3
    word-at-requires-2
    returns-4)
