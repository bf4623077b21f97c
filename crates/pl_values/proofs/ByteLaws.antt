-- Bytes: digits of a base, characters and faces.
-- Assumes nothing.
use mathlib.Core.Path.{◌≡◌, refl, sym, ap, ◌∙◌}
use mathlib.Core.Bool.{Bool, true, false}
use mathlib.Core.List.{List, [], ◌∷◌}
use mathlib.Core.Option.{Option, none, some}
use Prim.Native.Nat.{ℕ, suc, ◌+◌, ◌-◌, ◌*◌, ◌<◌, ◌≤◌}
use native.Mathlib.Omega.{arith}
use lib.ListN.{length, get_or, drop, length-drop}
use borrow.Author.Tests.{eq-eqb, ne_eqb, lt-ltb, le-ltb, le-leb, lt-leb}
use Rattle.property_lists.specs.Chars.{is_visible, upper_case}
use Rattle.property_lists.specs.Values.{figure_of, byte_digits, char_value, face_of, face_value}
use Rattle.pl_blanks.proofs.Places.{at_byte, at_end_lem}

-- ---- digits

module _ (text : List ℕ) (i base n : ℕ) (h : i < length text) where
  pub digits_stop : base ≤ figure_of (get_or text i 0) → byte_digits base n (drop i text) ≡ some (n, drop i text)
  unfolding byte_digits
  digits_stop e = rw (at_byte text i h, le-ltb (figure_of (get_or text i 0)) base e)

  pub digits_over : figure_of (get_or text i 0) < base → 255 < base * n + figure_of (get_or text i 0) → byte_digits base n (drop i text) ≡ none
  unfolding byte_digits
  digits_over e f = rw (at_byte text i h, lt-ltb (figure_of (get_or text i 0)) base e, lt-leb (base * n + figure_of (get_or text i 0)) 255 f)

  pub digits_more : figure_of (get_or text i 0) < base → base * n + figure_of (get_or text i 0) ≤ 255 →
      byte_digits base n (drop i text) ≡ byte_digits base (base * n + figure_of (get_or text i 0)) (drop (i + 1) text)
  unfolding byte_digits
  digits_more e f = rw (at_byte text i h, lt-ltb (figure_of (get_or text i 0)) base e, le-leb (base * n + figure_of (get_or text i 0)) 255 f)

pub digits_end : (text : List ℕ) (i base n : ℕ) → length text ≤ i → byte_digits base n (drop i text) ≡ some (n, drop i text)
unfolding byte_digits
digits_end text i base n h = rw (at_end_lem text i h)

-- ---- characters

module _ (text : List ℕ) (i : ℕ) where
  pub char_there : i < length text → is_visible (get_or text i 0) ≡ true → char_value (drop i text) ≡ some (get_or text i 0, drop (i + 1) text)
  char_there h e = rw (at_byte text i h, e)

  pub char_other : i < length text → is_visible (get_or text i 0) ≡ false → char_value (drop i text) ≡ none
  char_other h e = rw (at_byte text i h, e)

  pub char_end : length text ≤ i → char_value (drop i text) ≡ none
  char_end h = rw (at_end_lem text i h)

-- ---- faces

few : (l : List ℕ) → length l < 3 → face_value l ≡ none
few [] h = refl
few (a ∷ []) h = refl
few (a ∷ b ∷ []) h = refl
few (a ∷ b ∷ c ∷ bs) h = absurd (omega arith)

module _ (text : List ℕ) (i : ℕ) where
  pub face_short : length text - i < 3 → face_value (drop i text) ≡ none
  face_short h = few (drop i text) (omega (arith, length-drop i text))

  three : i + 3 ≤ length text → drop i text ≡ get_or text i 0 ∷ get_or text (i + 1) 0 ∷ get_or text (i + 2) 0 ∷ drop (i + 3) text
  three h =
      let e : i + 1 + 1 ≡ i + 2 = omega arith in
      let f : i + 2 + 1 ≡ i + 3 = omega arith in
      at_byte text i (omega arith) ∙ ap (λ (l : List ℕ). get_or text i 0 ∷ l) (at_byte text (i + 1) (omega arith)
      ∙ ap (λ (l : List ℕ). get_or text (i + 1) 0 ∷ l) (ap (λ (k : ℕ). drop k text) e ∙ at_byte text (i + 2) (omega arith)
      ∙ ap (λ (k : ℕ). get_or text (i + 2) 0 ∷ drop k text) f))

  pub face_there : i + 3 ≤ length text → face_of (get_or text i 0) (get_or text (i + 1) 0) (get_or text (i + 2) 0) < 18 →
      face_value (drop i text) ≡ some (face_of (get_or text i 0) (get_or text (i + 1) 0) (get_or text (i + 2) 0), drop (i + 3) text)
  face_there h l = rw (three h, lt-ltb (face_of (get_or text i 0) (get_or text (i + 1) 0) (get_or text (i + 2) 0)) 18 l)

  pub face_other : i + 3 ≤ length text → 18 ≤ face_of (get_or text i 0) (get_or text (i + 1) 0) (get_or text (i + 2) 0) → face_value (drop i text) ≡ none
  face_other h l = rw (three h, le-ltb (face_of (get_or text i 0) (get_or text (i + 1) 0) (get_or text (i + 2) 0)) 18 l)
