-- The first line of a text: D.
-- Assumes nothing.
use mathlib.Core.Path.{◌≡◌, refl, sym, ap, subst, ◌∙◌}
use mathlib.Core.Bool.{Bool, false, cond}
use mathlib.Core.List.{List, [], ◌∷◌}
use mathlib.Core.Option.{Option, none, some}
use Prim.Native.Nat.{ℕ, ◌+◌, ◌*◌, ◌≤◌}
use native.Mathlib.Omega.{arith}
use lib.IntN.{ℤ}
use lib.ListN.{length, get_or, drop}
use borrow.Author.Tests.{le-leb, ne_eqb}
use Rattle.words.specs.Words.{word_of, number_of}
use Rattle.words.proofs.Bits.{number_word}
use Rattle.lang.specs.Answers.{reply_of}
use Rattle.columns.specs.Lines.{lines_of}
use Rattle.columns.specs.Texts.{opened, by_one, opened_by, read_lines, read_text}
use Rattle.columns.specs.Scanned.{number_reply}
use Rattle.columns.proofs.Options.{none_some}
use Rattle.text_scan.specs.declared.progress.TextProgress.{TextProgress}
use Rattle.text_scan.specs.declared.progress.NextLine.TheVariants as next
use Rattle.text_scan.specs.Following.{rest_of, first_by, line_of, numbers_on, number_on}
use Rattle.text_scan.specs.Standing.{TellsText, progress_of, Opens}
use Rattle.text_scan.proofs.Following.{numbered, first_on, first_stuck, rest_added}
use Rattle.text_line_numbers.proofs.Storing.{number_some, number_none}
use Rattle.text_scan.proofs.Telling.{word_read}
use Rattle.text_scan.proofs.Adding.{one_by_one, one_some, one_none, fits_one}

-- ---- the text by its first byte

by_opening : (r : Option (List (List ℕ))) → read_lines r ≡ first_by opened_by r
by_opening none = refl
by_opening (some []) = refl
by_opening (some (l ∷ ls)) = refl

text_first : (b : ℕ) (bs : List ℕ) → length (b ∷ bs) ≤ 65536 → read_text (b ∷ bs) ≡ first_by opened_by (lines_of (b ∷ bs))
text_first b bs h = rw (le-leb (length (b ∷ bs)) 65536 h) (by_opening (lines_of (b ∷ bs)))

-- another letter
other_first : (text : List ℕ) → length text ≤ 65536 → (get_or text 0 0 ≡ 68 → ⊥) → read_text text ≡ none
unfolding lines_of
other_first [] h o = refl
other_first (b ∷ bs) h o =
    text_first b bs h
    ∙ first_stuck opened_by b bs refl
    (λ u g.
    let a = rest_added (drop (12 * length g.zs + 1) bs) (opened_by (some (line_of b g.zs))) u g.rest in
    none_some (sym (ap (λ (k : Bool). cond k (by_one (λ z. some (opened z)) g.zs) none) (ne_eqb b 68 o)) ∙ a.is))

-- D with no number
unread_first : (text : List ℕ) → length text ≤ 65536 → get_or text 0 0 ≡ 68 → number_on (drop 1 text) ≡ none → read_text text ≡ none
unread_first [] h i e = absurd (omega (arith, i))
unread_first (b ∷ bs) h i e =
    text_first b bs h
    ∙ rw i
    (first_stuck opened_by 68 bs refl
    (λ u g.
    let a = rest_added (drop (12 * length g.zs + 1) bs) (opened_by (some (line_of 68 g.zs))) u g.rest in
    let l = one_by_one (λ z. some (opened z)) g.zs a.text a.is in
    none_some (sym (one_none bs e) ∙ ap (λ (m : ℕ). numbers_on m bs) (sym l) ∙ g.numbers)))

-- D with its number
read_first : (text : List ℕ) (z : ℤ) → length text ≤ 65536 → get_or text 0 0 ≡ 68 → number_on (drop 1 text) ≡ some z →
    (14 ≤ length text) × (rest_of (drop 14 text) (some (opened z)) ≡ read_text text)
read_first [] z h i e = absurd (omega (arith, i))
read_first (b ∷ bs) z h i e =
    let g = one_some bs z e in (
      omega (arith, (numbered 1 bs (z ∷ []) g).long),
      sym (text_first b bs h ∙ first_on opened_by 1 b bs (z ∷ []) (λ f. omega (arith, f, i)) g
          ∙ ap (λ (x : ℕ). rest_of (drop 13 bs) (opened_by (some (line_of x (z ∷ []))))) i),
    )

-- ---- where reading then stands

abbrev pub first_at : ℕ → TextProgress
first_at w = progress_of 14 w 4294967295 4294967295 false false 0 0 0

module _ (text : List ℕ) (short : length text ≤ 65536) where
  nowhere : read_text text ≡ none → Opens text next.Unreadable
  nowhere e = record { on = λ q i. absurd (let z : ◌≡◌ {A = ℕ} 0 1 = cc in omega arith); stuck = λ _. e }

  pub opens_other : (get_or text 0 0 ≡ 68 → ⊥) → Opens text next.Unreadable
  opens_other o = nowhere (other_first text short o)

  pub opens_none : get_or text 0 0 ≡ 68 → number_reply (number_on (drop 1 text)) ≡ reply_of 16 [] → Opens text next.Unreadable
  opens_none i e = nowhere (unread_first text short i (number_none (number_on (drop 1 text)) e))

  pub opens_some : (z : ℤ) (w : ℕ) → get_or text 0 0 ≡ 68 → number_reply (number_on (drop 1 text)) ≡ reply_of 0 (z ∷ []) → w ≡ word_of (number_of (word_of z)) →
      Opens text (next.At (first_at w))
  opens_some z w i e k =
      let n = number_some (number_on (drop 1 text)) z e in
      let q : w ≡ word_of z = word_read (drop 1 text) z w n k in
      let v : number_of w ≡ z = ap number_of q ∙ number_word z (fits_one (drop 1 text) z n) in
      let g = read_first text z short i n in
      let t : TellsText text (first_at w) (opened (number_of w)) = record {
        within = g.0;
        rest = rw v g.1;
        word = refl;
        design = refl;
        boundary = record { is = refl; said = refl };
        left = record { is = refl; said = refl };
        instructions = refl;
        kerns = refl;
        entries = refl;
        fours = refl;
        few = omega arith;
      } in
      record {
        on = λ x j. let y : first_at w ≡ x = cc in subst (λ (x : TextProgress). TellsText text x (opened (number_of x.design))) y t;
        stuck = λ j. absurd (let o : ◌≡◌ {A = ℕ} 0 1 = cc in omega arith);
      }
