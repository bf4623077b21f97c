-- `file_reading::entries::put_entry` meets its contract: two numbers where the word has a tag of 1, and else none.
-- Assumes nothing.
use mathlib.Core.Path.{◌≡◌, sym, ap, ◌∙◌}
use mathlib.Core.Bool.{true}
use mathlib.Core.List.{List, [], ◌∷◌}
use Prim.Native.Nat.{ℕ, ◌+◌, ◌<◌}
use native.Mathlib.Omega.{arith}
use lib.IntN.{ℤ}
use lib.ListN.{length}
use lib.Seq.{sets}
use Rattle.words.specs.Words.{number_of}
use Rattle.words.proofs.Bits.{number_pos}
use Rattle.files.specs.Commands.{word_byte, char_entry, is_lig_tagged}
use Rattle.file_reading.proofs.Laws.{two_stored}
use borrow.Author.Rules.{rules}
use Rattle.file_reading.proofs.entries.put_entry.Statement.{statement}
use Rattle.file_reading.proofs.entries.put_entry.Tie as tie

-- the two numbers
tagged : (file : List ℕ) (c w : ℕ) {b : ℕ} → is_lig_tagged file w ≡ true → c < 2147483648 → b < 2147483648 → b ≡ word_byte file w 3 →
    ◌≡◌ {A = List ℤ} (number_of c ∷ number_of b ∷ []) (char_entry file c w)
tagged file c w {b} t h l e = rw (t, number_pos c h, number_pos b l, e)

is-lig-tagged-requires : tie.Need-is_lig_tagged-requires
is-lig-tagged-requires c κs = search rules

returns : tie.Need-returns-then-not-is_lig_tagged
returns c =
    let e = sym c.is_lig_tagged.ensures ∙ c.if-not-is_lig_tagged.true in
    (rw e, rw e (omega arith))

put-word-requires : tie.Need-put_word-requires
put-word-requires c κs = search rules

add-put-word : tie.Need-overflow_add-at
add-put-word c = search rules

word-byte-requires : tie.Need-word_byte-requires
word-byte-requires c κs = search rules

cast-put-word : tie.Need-overflow_cast-word_byte
cast-put-word c = search rules

put-word-requires-2 : tie.Need-put_word-requires-2
put-word-requires-2 c κs = search rules

add-result : tie.Need-overflow_add-result
add-result c = search rules

same_length : tie.Need-shape_of-out
same_length c = search rules

returns-2 : tie.Need-returns
returns-2 c =
    let d = c.args.out.now in
    let at = c.args.at in
    let g = tagged c.args.file.now c.args.c c.args.w (sym c.is_lig_tagged.ensures ∙ c.if-not-is_lig_tagged.false) c.requires.0
    (omega arith) c.word_byte.ensures in (
      two_stored d at (number_of c.args.c) (number_of c.word_byte.result) c.put_word.ensures c.put_word-2.ensures ∙ ap (sets d at) g,
      ap (λ (vs : List ℤ). at + length vs) g,
    )

pub put_entry_spec : {M : Type 1} → statement M
put_entry_spec =
    tie.close
    (tie.spec
    is-lig-tagged-requires
    returns
    put-word-requires
    add-put-word
    word-byte-requires
    cast-put-word
    put-word-requires-2
    add-result
    same_length
    returns-2)
