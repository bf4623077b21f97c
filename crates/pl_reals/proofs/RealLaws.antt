-- Reals: signs, the whole part, decimals and the 32 bits.
-- Assumes nothing.
use mathlib.Core.Path.{◌≡◌, refl, sym, ap, ◌∙◌}
use mathlib.Core.Bool.{Bool, true, false, cond}
use mathlib.Core.List.{List, [], ◌∷◌}
use mathlib.Core.Logic.{◌⊎◌, inl, inr}
use mathlib.Core.Option.{Option, none, some}
use Prim.Native.Nat.{ℕ, suc, ◌+◌, ◌-◌, ◌*◌, ◌/◌, ◌%◌, ◌<◌, ◌≤◌, min}
use native.Mathlib.Nat.{min-eq_left, min-eq_right, min-le_left}
use native.Mathlib.Numerals.{add-one}
use native.Mathlib.Omega.{arith}
use lib.Dec.{eqb}
use lib.ListN.{length, get_or, take, drop, length-take}
use lib.Seq.{slice, slice_empty, slice-cons, take_all, take-take, take-add, drop_at, length-take-le}
use borrow.Author.Tests.{eq-eqb, ne_eqb, lt-ltb, le-ltb}
use Rattle.words.proofs.Tests.{less_or_not}
use Rattle.property_lists.specs.Chars.{is_figure}
use Rattle.property_lists.specs.Reals.{decimal_sum, real_decimals, real_magnitude}
use Rattle.property_lists.specs.Values.{is_sign, past_signs, whole_digits, figures, past_figures, decimals_at, past_decimals, bits_of, real_from}
use Rattle.pl_blanks.proofs.Places.{at_byte, at_end_lem}
use Rattle.pl_reals.specs.Places.{FiguresEnd}

-- ---- signs

module _ (text : List ℕ) (i minus : ℕ) (held : Bool) where
  pub signs_more : i < length text → is_sign held (get_or text i 0) ≡ true → past_signs held minus (drop i text)
      ≡ past_signs (eqb (get_or text i 0) 13) (cond (eqb (get_or text i 0) 45) (1 - minus) minus) (drop (i + 1) text)
  unfolding past_signs
  signs_more h e = rw (at_byte text i h, e)

  pub signs_stop : i < length text → is_sign held (get_or text i 0) ≡ false →
      past_signs held minus (drop i text) ≡ cond held none (some (minus, drop i text))
  unfolding past_signs
  signs_stop h e = rw (at_byte text i h, e)

  pub signs_over : length text ≤ i → past_signs held minus (drop i text) ≡ cond held none (some (minus, drop i text))
  unfolding past_signs
  signs_over h = rw (at_end_lem text i h)

-- ---- the whole part

module _ (text : List ℕ) (i n : ℕ) where
  pub whole_stop : i < length text → is_figure (get_or text i 0) ≡ false → whole_digits n (drop i text) ≡ some (n, drop i text)
  unfolding whole_digits
  whole_stop h e = rw (at_byte text i h, e)

  pub whole_over : i < length text → is_figure (get_or text i 0) ≡ true → 2048 ≤ 10 * n + (get_or text i 0 - 48) → whole_digits n (drop i text) ≡ none
  unfolding whole_digits
  whole_over h e l = rw (at_byte text i h, e, le-ltb (10 * n + (get_or text i 0 - 48)) 2048 l)

  pub whole_more : i < length text → is_figure (get_or text i 0) ≡ true → 10 * n + (get_or text i 0 - 48) < 2048 →
      whole_digits n (drop i text) ≡ whole_digits (10 * n + (get_or text i 0 - 48)) (drop (i + 1) text)
  unfolding whole_digits
  whole_more h e l = rw (at_byte text i h, e, lt-ltb (10 * n + (get_or text i 0 - 48)) 2048 l)

  pub whole_end : length text ≤ i → whole_digits n (drop i text) ≡ some (n, drop i text)
  unfolding whole_digits
  whole_end h = rw (at_end_lem text i h)

-- ---- digits passed

-- a digit more in front
module _ (text : List ℕ) (i r : ℕ) where
  pub figures_none : (i < length text → is_figure (get_or text i 0) ≡ false) → i ≤ length text → FiguresEnd text i i
  unfolding figures past_figures
  figures_none f l = by (less_or_not i (length text))
    where
      by : (i < length text) ⊎ (length text ≤ i) → FiguresEnd text i i
      by (inl h) =
          record {
            low = omega arith;
            high = l;
            digits = rw (at_byte text i h, f h) (sym (slice_empty i text));
            rest = rw (at_byte text i h, f h);
          }
      by (inr h) = record { low = omega arith; high = l; digits = rw (at_end_lem text i h) (sym (slice_empty i text)); rest = rw (at_end_lem text i h) }

  pub figures_one : i < length text → is_figure (get_or text i 0) ≡ true → FiguresEnd text (i + 1) r → FiguresEnd text i r
  unfolding figures past_figures
  figures_one h e p =
      let s : slice i r text ≡ get_or text i 0 ∷ slice (i + 1) r text = slice-cons i r text 0 (omega (arith, p.low)) p.high ∙ rw add-one in
      record {
        low = omega (arith, p.low);
        high = p.high;
        digits = rw (at_byte text i h, e) (rw p.digits (sym s));
        rest = rw (at_byte text i h, e) p.rest;
      }

-- ---- what decimals come to

pub sum_none : (text : List ℕ) (k : ℕ) → decimal_sum (slice k k text) ≡ 0
unfolding decimal_sum
sum_none text k = rw (slice_empty k text)

pub sum_more : (text : List ℕ) (k end a d : ℕ) → 0 < k → k ≤ end → end ≤ length text → a ≡ decimal_sum (slice k end text) → d ≡ get_or text (k - 1) 0 - 48 →
    2097152 * d + a / 10 ≡ decimal_sum (slice (k - 1) end text)
unfolding decimal_sum
sum_more text k end a d h l m e f =
    let s : suc (k - 1) ≡ k = omega arith in
    let x : slice (k - 1) end text ≡ get_or text (k - 1) 0 ∷ slice k end text =
    slice-cons (k - 1) end text 0 (omega arith) m ∙ ap (λ (j : ℕ). get_or text (k - 1) 0 ∷ slice j end text) s in
    rw (x, e, f)

short : (n : ℕ) (l : List ℕ) → length (take n l) ≤ n
short n l = omega (arith, length-take n l, min-le_left n (length l))

sliced : (text : List ℕ) (from n : ℕ) → from ≤ length text → slice from (from + n) text ≡ take n (drop from text)
sliced text from n h =
    ap (drop from) (take-add from n text) ∙ drop_at (take from text) (take n (drop from text)) from (length-take-le from text h)

-- the first seven of them
pub first_seven : (text : List ℕ) (from end seven : ℕ) → from ≤ end → end ≤ length text → seven ≡ min (end - from) 7 →
    take 7 (slice from end text) ≡ slice from (from + seven) text
first_seven text from end seven l m e = ap (take 7) all ∙ by (less_or_not 7 (end - from)) ∙ sym (sliced text from seven (omega arith))
  where
    g : end ≡ from + (end - from)
    g = omega arith

    all : slice from end text ≡ take (end - from) (drop from text)
    all = ap (λ (k : ℕ). slice from k text) g ∙ sliced text from (end - from) (omega arith)

    by : (7 < end - from) ⊎ (end - from ≤ 7) → take 7 (take (end - from) (drop from text)) ≡ take seven (drop from text)
    by (inl h) =
        let s : seven ≡ 7 = e ∙ min-eq_right (omega arith) in
        take-take 7 (end - from) (drop from text) (omega arith) ∙ ap (λ (k : ℕ). take k (drop from text)) (sym s)
    by (inr h) =
        let s : seven ≡ end - from = e ∙ min-eq_left h in
        take_all 7 (take (end - from) (drop from text)) (omega (arith, short (end - from) (drop from text)))
        ∙ ap (λ (k : ℕ). take k (drop from text)) (sym s)
