-- A line read, added to what was read before it; and the place of the next line.
-- Assumes nothing.
use mathlib.Core.Path.{◌≡◌, refl, sym, ap, ◌∙◌}
use mathlib.Core.Bool.{Bool, true, false}
use mathlib.Core.List.{List, [], ◌∷◌}
use mathlib.Core.Option.{Option, none, some}
use Prim.Native.Nat.{ℕ, ◌+◌, ◌-◌, ◌≤◌}
use native.Mathlib.Omega.{arith}
use lib.IntN.{ℤ}
use lib.ListN.{length, take, drop}
use lib.Seq.{sets}
use Rattle.words.specs.Words.{word_of, number_of}
use Rattle.words.proofs.Bits.{number_word}
use Rattle.lang.specs.Answers.{reply_of}
use Rattle.columns.specs.Numbers.{read_field}
use Rattle.columns.specs.Scanned.{number_reply}
use Rattle.columns.proofs.Options.{none_some, cond_some}
use Rattle.text_scan.specs.declared.progress.TextProgress.{TextProgress}
use Rattle.text_scan.specs.declared.progress.NextLine.TheVariants as next
use Rattle.text_line_numbers.specs.LineNumbers.{line_ends, number_on, numbers_in, numbers_at, leading_at, is_some, Stores}
use Rattle.text_scan.specs.Standing.{TakesLine, head_line}
use Rattle.text_line_numbers.proofs.Storing.{number_some, number_none, field_fits, at_room, leading_at_lem}

-- ---- what is answered for a line

module _ (bs : List ℕ) (n limit place : ℕ) (q : TextProgress) (list list' : List ℤ) (long : length list ≡ limit) where
  by_none : (o : Option (List ℤ)) → false ≡ is_some o → TakesLine o q list place next.Unreadable list'
  by_none none e = record { answer = refl; stored = λ zs s. absurd (none_some s) }
  by_none (some zs) e = absurd (let z : ◌≡◌ {A = ℕ} 0 1 = cc in omega arith)

  by_some : (o : Option (List ℤ)) → true ≡ is_some o → ((zs : List ℤ) → o ≡ some zs → list' ≡ sets list place zs) → TakesLine o q list place (next.At q) list'
  by_some none e h = absurd (let z : ◌≡◌ {A = ℕ} 0 1 = cc in omega arith)
  by_some (some zs) e h = record { answer = refl; stored = h }

  -- the numbers of a line have their place where the list has room after those that it has
  module _ (few : place ≤ limit) where
    placed-as : numbers_at (length list) place n bs ≡ numbers_in (limit - place) n bs
    placed-as = ap (λ (k : ℕ). numbers_at k place n bs) long ∙ at_room limit place n bs few

    pub takes_none : (r : Bool) → Stores (numbers_at (length list) place n bs) (leading_at (length list) place n bs) list place r list' → r ≡ false →
        TakesLine (numbers_in (limit - place) n bs) q list place next.Unreadable list'
    takes_none r s e = rw (← placed-as) (by_none (numbers_at (length list) place n bs) (sym e ∙ s.answer))

    pub takes_some : (r : Bool) → Stores (numbers_at (length list) place n bs) (leading_at (length list) place n bs) list place r list' → r ≡ true →
        TakesLine (numbers_in (limit - place) n bs) q list place (next.At q) list'
    takes_some r s e = rw (← placed-as) (by_some (numbers_at (length list) place n bs) (sym e ∙ s.answer)
        (λ vs i. s.stored ∙ ap (sets list place) (leading_at_lem (length list) place n bs vs i)))

-- ---- what is answered for a line that comes once

-- a number that is read is an i32, and passes as it is
pub word_read : (bs : List ℕ) (z : ℤ) (w : ℕ) → number_on bs ≡ some z → w ≡ word_of (number_of (word_of z)) → w ≡ word_of z
word_read bs z w e i =
    let c = cond_some (line_ends 1 bs) (read_field (take 12 bs)) z e in
    i ∙ ap word_of (number_word z (field_fits (take 12 bs) z c.1))

module _ (text : List ℕ) (p : TextProgress) (read : Bool) (f : ℕ → TextProgress) where
  pub head_none : read ≡ false → number_reply (number_on (drop (p.at + 1) text)) ≡ reply_of 16 [] → next.Unreadable ≡ head_line text p read f
  head_none b e = rw (b, number_none (number_on (drop (p.at + 1) text)) e)

  pub head_some : (z : ℤ) (w : ℕ) → read ≡ false → number_reply (number_on (drop (p.at + 1) text)) ≡ reply_of 0 (z ∷ []) → w ≡ word_of (number_of (word_of z)) →
      next.At (f w) ≡ head_line text p read f
  head_some z w b e i =
      let n = number_some (number_on (drop (p.at + 1) text)) z e in
      rw (b, n) (ap (λ (v : ℕ). next.At (f v)) (word_read (drop (p.at + 1) text) z w n i))
