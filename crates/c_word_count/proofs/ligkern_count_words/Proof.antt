-- `c_word_count::ligkern_count_words` meets its contract: both counts, or 15.
-- Assumes nothing.
use mathlib.Core.Path.{◌≡◌, ap, ap₂}
use mathlib.Core.List.{[], ◌∷◌}
use Prim.Native.Nat.{ℕ}
use native.Mathlib.Omega.{arith}
use lib.IntN.{pos}
use lib.ListN.{set}
use Rattle.letter_set.specs.LetterSets.{alphabet_size, word_count}
use Rattle.c_values.proofs.Telling.{tells_short, tells_taken}
use borrow.Author.Rules.{rules}
use Rattle.c_word_count.proofs.ligkern_count_words.Statement.{statement}
use Rattle.c_word_count.proofs.ligkern_count_words.Tie as tie

zero-all-requires : tie.Need-zero_all-requires
zero-all-requires c κs = search rules

same_length : tie.Need-shape_of-values-then-values-lt2
same_length c = search rules

returns : tie.Need-returns-then-values-lt2
returns c =
    let a = c.args in
    let l = a.from_0 ∷ a.from_64 ∷ a.from_128 ∷ a.from_192 ∷ [] in
    tells_short (pos (alphabet_size l) ∷ pos (word_count (alphabet_size l)) ∷ []) a.values.now (omega (arith, c.if-values-lt2.true, c.zero_all.auto.s)) c.zero_all.ensures

alphabet-size-requires : tie.Need-alphabet_size-requires
alphabet-size-requires c κs = search rules

cast-values : tie.Need-overflow_cast-values
cast-values c = search rules

slice-write-values : tie.Need-bounds-values-0
slice-write-values c = search rules

word-count-requires : tie.Need-word_count-requires
word-count-requires c κs = search rules

slice-write-values-2 : tie.Need-bounds-values-1
slice-write-values-2 c = search rules

same-length-2 : tie.Need-shape_of-values
same-length-2 c = search rules

returns-2 : tie.Need-returns
returns-2 c =
    let a = c.args in
    let l = a.from_0 ∷ a.from_64 ∷ a.from_128 ∷ a.from_192 ∷ [] in
    tells_taken (pos (alphabet_size l) ∷ pos (word_count (alphabet_size l)) ∷ []) a.values.now
    (omega (arith, c.if-values-lt2.false, c.zero_all.auto.s)) c.zero_all.ensures
    (ap₂ (λ (m n : ℕ). set (set c.zero_all.new.s 0 m) 1 n) c.alphabet_size.ensures c.word_count.ensures)

pub ligkern_count_words_spec : {M : Type 1} → statement M
ligkern_count_words_spec =
    tie.close
    (tie.spec
    zero-all-requires
    same_length
    returns
    alphabet-size-requires
    cast-values
    slice-write-values
    word-count-requires
    slice-write-values-2
    same-length-2
    returns-2)
