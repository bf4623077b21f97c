-- Laws of what the refusals test: a negative number, a letter, and the marks by which a character that is entered twice is found.
-- Assumes nothing.
use mathlib.Core.Path.{◌≡◌, refl, sym, ◌∙◌}
use mathlib.Core.Bool.{Bool, true, false, cond, not}
use mathlib.Core.List.{List}
use Prim.Native.Nat.{ℕ, ◌+◌, ◌<◌, ◌≤◌}
use native.Mathlib.Omega.{arith}
use lib.IntN.{ℤ, pos, negsuc}
use lib.Dec.{leb, eqb}
use lib.ListN.{length, get_or, set, replicate, length-set, get_or-replicate}
use lib.Seq.{get_or-set_same, get_or-set_other}
use lib.Signed.{lt_z, non_neg}
use mir.Syntax.{w32}
use mir.Val.{of_z, to_z, SFits}
use mir.ValLaws.{to_z-of_z}
use borrow.Author.Tests.{le-ltb, le-leb, lt-leb, leb-true, eq-eqb, eqb-true, eqb-false}
use Rattle.words.specs.Words.{word_of}
use Rattle.lang.specs.Every.{both, every}
use Rattle.lang.specs.Records.{within}
use Rattle.lang.specs.Checks.{char_at, entry_at, entered_once, entry_fits, is_letter}
use Rattle.lang.proofs.Every.{both_left, both_right, both_true, both_false, every_none, every_step}
use Rattle.lang.proofs.Records.{within_bound}
pub use Rattle.lang.proofs.Refusals.{first_is, second_is}

-- ---- a number's sign, by the code's test of its bits

pub sign_test : (z : ℤ) → SFits w32 z → non_neg z ≡ not (lt_z (to_z w32 (of_z w32 z)) (pos 0))
sign_test z f = rw (to_z-of_z w32 z f) (go z)
  where
    go : (y : ℤ) → non_neg y ≡ not (lt_z y (pos 0))
    go (pos n) = rw (le-ltb n 0 (omega arith))
    go (negsuc n) = refl

-- ---- a letter

-- one below the surrogates, and so every character of a font
pub letter_low : (c : ℕ) → c ≤ 55295 → is_letter c ≡ true
letter_low c h = rw (le-leb c 55295 h)

-- one that is not below them is above them, and no greater than the last
pub letter_high : (c : ℕ) → 55295 < c → is_letter c ≡ both (leb 57344 c) (leb c 1114111)
letter_high c h = rw (lt-leb c 55295 h)

pub letter_bound : (c : ℕ) → is_letter c ≡ true → c ≤ 1114111
letter_bound c h = go (leb c 55295) refl h
  where
    go : (t : Bool) → leb c 55295 ≡ t → cond t true (both (leb 57344 c) (leb c 1114111)) ≡ true → c ≤ 1114111
    go true e k = omega (arith, leb-true c 55295 e)
    go false e k = leb-true c 1114111 (both_right (leb 57344 c) (leb c 1114111) k)

-- ---- entries: a place for each character, 0 until the character is entered

-- no place before i has the character c
abbrev pub unseen : List ℤ → ℕ → ℕ → Bool
unseen es i c = every i (λ j. not (eqb (word_of (char_at es j)) c))

-- a character's place is 0 exactly when no place before i has the character
pub record Marks (es : List ℤ) (seen : List ℕ) (i : ℕ) : Type 0 where
  pub places : length seen ≡ 256
  pub marked : (c : ℕ) → c < 256 → eqb (get_or seen c 0) 0 ≡ unseen es i c

pub marks_none : (es : List ℤ) → Marks es (replicate 256 0) 0
marks_none es =
    record { places = refl; marked = λ c h. rw (get_or-replicate {A = ℕ} 256 c 0 0 h) (sym (every_none (λ j. not (eqb (word_of (char_at es j)) c)))) }

pub marks_more : (es : List ℤ) (seen : List ℕ) (i w : ℕ) → Marks es seen i → w ≡ word_of (char_at es i) → w < 256 → Marks es (set seen w 1) (i + 1)
marks_more es seen i w h e l =
    record { places = length-set seen w 1 ∙ h.places; marked = λ c k. go c k (eqb w c) refl ∙ sym (every_step i (λ j. not (eqb (word_of (char_at es j)) c))) }
  where
    go : (c : ℕ) → c < 256 → (t : Bool) → eqb w c ≡ t → eqb (get_or (set seen w 1) c 0) 0 ≡ both (unseen es i c) (not (eqb (word_of (char_at es i)) c))
    go c k true q =
        rw (← eqb-true w c q, get_or-set_same seen w 1 0 (omega (arith, h.places)), ← e, eq-eqb w w refl)
        (sym (both_false (unseen es i w)))
    go c k false q =
        rw (get_or-set_other seen w c 1 0 (λ p. eqb-false w c q (sym p)), ← e, q)
        (h.marked c k ∙ sym (both_true (unseen es i c)))

-- The test by the marks is the test by the places before.
pub marks_fit : (limit : ℕ) (es : List ℤ) (seen : List ℕ) (i : ℕ) → Marks es seen i →
    both (within 255 (char_at es i)) (both (within limit (entry_at es i)) (eqb (get_or seen (word_of (char_at es i)) 0) 0)) ≡ entry_fits limit es i
marks_fit limit es seen i h = go (within 255 (char_at es i)) refl
  where
    go : (t : Bool) → within 255 (char_at es i) ≡ t →
        both t (both (within limit (entry_at es i)) (eqb (get_or seen (word_of (char_at es i)) 0) 0))
        ≡ both t (both (within limit (entry_at es i)) (entered_once es i))
    go true e = let l : word_of (char_at es i) < 256 = omega (arith, within_bound 255 (char_at es i) e) in rw (h.marked (word_of (char_at es i)) l)
    go false e = refl

-- a character that is entered is one of 256
pub entry_character : (limit : ℕ) (es : List ℤ) (i : ℕ) → entry_fits limit es i ≡ true → word_of (char_at es i) < 256
entry_character limit es i t =
    omega (arith, within_bound 255 (char_at es i) (both_left (within 255 (char_at es i)) (both (within limit (entry_at es i)) (entered_once es i)) t))
