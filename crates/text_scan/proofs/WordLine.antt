-- The line of a word, up to the end of a text.
-- Assumes nothing.
use mathlib.Core.Path.{◌≡◌, refl, sym, ap, ◌∙◌}
use mathlib.Core.Bool.{Bool, true, false}
use mathlib.Core.List.{List, map}
use mathlib.Core.Option.{Option, none, some}
use Prim.Native.Nat.{ℕ, ◌+◌, ◌-◌, ◌/◌, ◌%◌}
use native.Mathlib.Omega.{arith}
use lib.IntN.{ℤ, pos}
use lib.ListN.{length, drop, length-drop}
use lib.Seq.{sets}
use borrow.Author.Tests.{ne_eqb}
use Rattle.words.specs.Words.{word_of, number_of}
use Rattle.words.proofs.Bits.{number_pos}
use Rattle.lang.specs.Answers.{reply_of}
use Rattle.columns.specs.declared.TextHeads.{TextHeads}
use Rattle.std.specs.Prelude as rust
use Rattle.columns.specs.Scanned.{head_numbers}
use Rattle.columns.proofs.Options.{none_some}
use Rattle.text_scan.specs.declared.progress.TextProgress.{TextProgress}
use Rattle.text_line_numbers.specs.LineNumbers.{numbers_in, leading_in, words_of, is_some, Stores}
use Rattle.text_scan.specs.Following.{word_on}
use Rattle.text_scan.specs.Standing.{heads_of, EndsWord}
use Rattle.text_line_numbers.proofs.Storing.{fields_count, in_some, leading_words}

module _ (text : List ℕ) (p : TextProgress) (word word' : List ℕ) where
  abbrev bs : List ℕ
  bs = drop (p.at + 1) text

  abbrev rest : ℕ
  rest = length text - (p.at + 1)

  none_ends : word_on bs ≡ none → EndsWord (word_on bs) p word rust.None word'
  none_ends e = record { answer = rw e; stored = λ zs i. absurd (none_some (sym e ∙ i)) }

  ends_as : rest % 12 ≡ 1 → length bs % 12 ≡ 1
  ends_as e = ap (λ (k : ℕ). k % 12) (length-drop (p.at + 1) text) ∙ e

  many : length bs / 12 ≡ rest / 12
  many = ap (λ (k : ℕ). k / 12) (length-drop (p.at + 1) text)

  -- not so many bytes as whole fields and a line feed have
  pub word_unended : (rest % 12 ≡ 1 → ⊥) → EndsWord (word_on bs) p word rust.None word'
  word_unended h = none_ends (rw (length-drop (p.at + 1) text, ne_eqb (rest % 12) 1 h))

  module _ (e : rest % 12 ≡ 1) (long : length word ≡ 64) where
    fields : word_on bs ≡ numbers_in (length word) (rest / 12) bs
    fields = rw (ends_as e, many, long)

    none_read : (o : Option (List ℤ)) → false ≡ is_some (words_of o) → o ≡ none
    none_read none e = refl
    none_read (some zs) e = absurd (let z : ◌≡◌ {A = ℕ} 0 1 = cc in omega arith)

    -- too many letters, no line feed, or a field that is unreadable
    pub word_unread : (r : Bool) → Stores (words_of (numbers_in (length word) (rest / 12) bs)) (map word_of (leading_in (length word) (rest / 12) bs)) word 0 r word' → r ≡ false →
        EndsWord (word_on bs) p word rust.None word'
    word_unread r s i = none_ends (fields ∙ none_read (numbers_in (length word) (rest / 12) bs) (sym i ∙ s.answer))

    by-fields : (o : Option (List ℤ)) → numbers_in (length word) (rest / 12) bs ≡ o → true ≡ is_some (words_of o) →
        ((vs : List ℕ) → words_of o ≡ some vs → word' ≡ sets word 0 vs) → (x : TextHeads) → head_numbers x ≡ heads_of p (number_of (rest / 12)) →
        EndsWord o p word (rust.Some x) word'
    by-fields none i a k x y = absurd (let z : ◌≡◌ {A = ℕ} 0 1 = cc in omega arith)
    by-fields (some zs) i a k x y =
        let c = in_some (length word) (rest / 12) bs zs i in
        let m = fields_count (rest / 12) bs zs c.1 in
        let n : number_of (rest / 12) ≡ pos (length zs) = number_pos (rest / 12) (omega (arith, c.0, long)) ∙ ap pos (sym m) in
        record { answer = ap (reply_of 0) (y ∙ ap (heads_of p) n); stored = λ ys j. k (map word_of ys) (ap words_of j) }

    pub word_all : (r : Bool) → Stores (words_of (numbers_in (length word) (rest / 12) bs)) (map word_of (leading_in (length word) (rest / 12) bs)) word 0 r word' → r ≡ true → (x : TextHeads) →
        head_numbers x ≡ heads_of p (number_of (rest / 12)) → EndsWord (word_on bs) p word (rust.Some x) word'
    word_all r s i x y = rw fields (by-fields (numbers_in (length word) (rest / 12) bs) refl (sym i ∙ s.answer)
        (λ ws e. s.stored ∙ ap (sets word 0) (leading_words (length word) (rest / 12) bs ws e)) x y)
