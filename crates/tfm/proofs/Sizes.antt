-- A size, or a magnification, by the words of design size, size and magnification (R350 to R357).
-- Assumes nothing.
use mathlib.Core.Path.{◌≡◌, refl, ap, ◌∙◌}
use mathlib.Core.Bool.{Bool, true, false, not, cond, ◌&&◌, and-false}
use Prim.Native.Nat.{ℕ, zero, suc, ◌*◌, ◌/◌, ◌^◌, ◌<◌, ◌≤◌}
use native.Mathlib.Omega.{arith}
use lib.IntN.{ℤ, pos, negsuc}
use lib.Dec.{leb, eqb}
use mir.Syntax.{w32}
use mir.Val.{SFits}
use borrow.Author.Tests.{le-leb, lt-leb, leb-true, ne_eqb}
use Rattle.std.specs.Prelude.{Ok, Err}
use Rattle.words.specs.Words.{word_of, number_of}
use Rattle.words.proofs.Bits.{number_word}
use Rattle.tfm.specs.declared.ScalingError.TheVariants.{TooLarge}
use Rattle.tfm.specs.Scaled.{z_of_design, scaled_from, to_scaled, z_refusal, magnified, words_refusal, z_at, sized, is_asked, design_of, design_word}
use Rattle.tfm.specs.Scaled.{asked_refusal, scaled_at, design_at}

-- the word of a number that was passed, whose bits are the number's
pub word_as : {x : ℤ} {w : ℕ} → w ≡ word_of (number_of (word_of x)) → SFits w32 x → w ≡ word_of x
word_as {x} e f = e ∙ ap word_of (number_word x f)

-- ---- in range, or not

pub z_taken : (z : ℕ) → 1 ≤ z → z ≤ 134217727 → 0 ≡ z_refusal z
z_taken z h k = rw (le-leb 1 z h, le-leb z 134217727 k)

pub z_none : (z : ℕ) → z < 1 → 19 ≡ z_refusal z
z_none z h = rw (lt-leb 1 z h)

pub z_large : (z : ℕ) → 134217727 < z → 19 ≡ z_refusal z
z_large z h = rw (lt-leb z 134217727 h, and-false)

z_by : (z : ℕ) (t u : Bool) → leb z 134217727 ≡ u → ◌≡◌ {A = ℕ} (cond (t && u) 0 19) 0 → z ≤ 134217727
z_by z true true k e = leb-true z 134217727 k
z_by z true false k e = absurd (omega (arith, e))
z_by z false u k e = absurd (omega (arith, e))

pub z_small : (z : ℕ) → z_refusal z ≡ 0 → z ≤ 134217727
z_small z e = z_by z (leb 1 z) (leb z 134217727) refl e

-- ---- by the words

pub asked_size : (s m : ℕ) → (s ≡ 0 → ⊥) → not (eqb s 0) ≡ is_asked s m
asked_size zero m h = absurd (h refl)
asked_size (suc s) m h = rw (ne_eqb (suc s) 0 h)

pub asked_magnified : (s m : ℕ) → s ≡ 0 → not (eqb m 0) ≡ is_asked s m
asked_magnified s zero h = rw h
asked_magnified s (suc m) h = rw (h, ne_eqb (suc m) 0 (λ e. omega (arith, e)))

module _ (d : ℕ) where
  pub refused_two : (s m : ℕ) → (s ≡ 0 → ⊥) → (m ≡ 0 → ⊥) → 19 ≡ words_refusal d s m
  refused_two zero m h k = absurd (h refl)
  refused_two (suc s) zero h k = absurd (k refl)
  refused_two (suc s) (suc m) h k = refl

  pub refused_size : (s m : ℕ) → (s ≡ 0 → ⊥) → m ≡ 0 → z_refusal s ≡ words_refusal d s m
  refused_size zero m h k = absurd (h refl)
  refused_size (suc s) m h k = rw k

  pub refused_none : (s m : ℕ) → s ≡ 0 → m ≡ 0 → 0 ≡ words_refusal d s m
  refused_none s m h k = rw (h, k)

  pub refused_large : (s m : ℕ) → s ≡ 0 → 32768 < m → 19 ≡ words_refusal d s m
  refused_large s zero h k = absurd (omega arith)
  refused_large s (suc m) h k = rw (h, lt-leb (suc m) 32768 k)

  pub refused_magnified : (s m : ℕ) → s ≡ 0 → (m ≡ 0 → ⊥) → m ≤ 32768 → z_refusal (magnified d m) ≡ words_refusal d s m
  refused_magnified s zero h i k = absurd (i refl)
  refused_magnified s (suc m) h i k = rw (h, le-leb (suc m) 32768 k)

  pub z_size : (s m : ℕ) → (s ≡ 0 → ⊥) → s ≡ z_at d s m
  z_size zero m h = absurd (h refl)
  z_size (suc s) m h = refl

  pub z_design : (s m : ℕ) → s ≡ 0 → m ≡ 0 → z_of_design d ≡ z_at d s m
  z_design s m h k = rw (h, k)

  pub z_magnified : (s m : ℕ) → s ≡ 0 → (m ≡ 0 → ⊥) → magnified d m ≡ z_at d s m
  z_magnified s zero h k = absurd (k refl)
  z_magnified s (suc m) h k = rw h

  -- a size that is asked for and taken is below 2 ^ 27
  magnified_small : (m : ℕ) (t : Bool) → cond t (z_refusal (magnified d m)) 19 ≡ 0 → magnified d m ≤ 134217727
  magnified_small m true e = z_small (magnified d m) e
  magnified_small m false e = absurd (omega (arith, e))

  pub taken_small : (s m : ℕ) → is_asked s m ≡ true → words_refusal d s m ≡ 0 → z_at d s m ≤ 134217727
  taken_small zero zero a e = absurd (let z : ◌≡◌ {A = ℕ} 0 1 = cc in omega arith)
  taken_small (suc s) zero a e = z_small (suc s) e
  taken_small zero (suc m) a e = magnified_small (suc m) (leb (suc m) 32768) e
  taken_small (suc s) (suc m) a e = absurd (omega (arith, e))

  -- the design size by the words
  pub word_plain : (s m : ℕ) → is_asked s m ≡ false → d ≡ design_word d s m
  word_plain s m e = rw e

  refused_word : (n z : ℕ) → (n ≡ 0 → ⊥) → 0 ≡ design_of n z
  refused_word zero z h = absurd (h refl)
  refused_word (suc n) z h = refl

  pub word_refused : (s m : ℕ) → is_asked s m ≡ true → (words_refusal d s m ≡ 0 → ⊥) → 0 ≡ design_word d s m
  word_refused s m e h = rw e (refused_word (words_refusal d s m) (z_at d s m) h)

  pub word_taken : (s m : ℕ) → is_asked s m ≡ true → words_refusal d s m ≡ 0 → 16 * z_at d s m ≡ design_word d s m
  word_taken s m e h = rw (e, h)

  below_by : (s m : ℕ) (t : Bool) → is_asked s m ≡ t → (n : ℕ) → words_refusal d s m ≡ n → d < 2 ^ 31 → cond t (design_of n (z_at d s m)) d < 2 ^ 31
  below_by s m false a n e h = h
  below_by s m true a (suc n) e h = omega arith
  below_by s m true a zero e h = omega (arith, taken_small s m a e)

  pub word_below : (s m : ℕ) → d < 2 ^ 31 → design_word d s m < 2 ^ 31
  word_below s m h = below_by s m (is_asked s m) refl (words_refusal d s m) refl h

-- the design size of a size is an i32
pub design_fits : (design size magnification : ℤ) → SFits w32 design → SFits w32 (design_at design size magnification)
unfolding design_at
design_fits (negsuc n) size magnification f = f
design_fits (pos d) size magnification f = record { sfits = word_below d (word_of size) (word_of magnification) f.sfits }

-- with neither asked for it is the design size
pub design_plain : (design : ℤ) → design_at design (pos 0) (pos 0) ≡ design
unfolding design_at
design_plain (pos d) = refl
design_plain (negsuc n) = refl

-- the numbers as they were passed, whose bits are theirs
module _ (d s m : ℤ) (fd : SFits w32 d) (fs : SFits w32 s) (fm : SFits w32 m) where
  pub refusal_as : {r : ℕ} → r ≡ asked_refusal (number_of (word_of d)) (number_of (word_of s)) (number_of (word_of m)) → r ≡ asked_refusal d s m
  refusal_as e = e ∙ (λ i. asked_refusal (number_word d fd i) (number_word s fs i) (number_word m fm i))

  pub design_as : {r : ℤ} → r ≡ design_at (number_of (word_of d)) (number_of (word_of s)) (number_of (word_of m)) → number_of (word_of r) ≡ design_at d s m
  design_as e =
      ap (λ (z : ℤ). number_of (word_of z)) (e ∙ (λ i. design_at (number_word d fd i) (number_word s fs i) (number_word m fm i)))
      ∙ number_word (design_at d s m) (design_fits d s m fd)

-- ---- scaling at 16 z

-- z of 16 z is z
pub sixteen_z : (z : ℕ) → z_of_design (16 * z) ≡ z
sixteen_z z = omega arith

-- whether a number is scaled depends on its top byte alone
pub same_top : (n z z' w : ℕ) → sized (suc n) (scaled_from z w) ≡ sized (suc n) (scaled_from z' w)
same_top n z z' w = by (eqb (w / 16777216) 0) (eqb (w / 16777216) 255) _ _ _ _
  where
    by : (t u : Bool) (x y x' y' : ℤ) →
        sized (suc n) (cond t (Ok x) (cond u (Ok y) (Err TooLarge))) ≡ sized (suc n) (cond t (Ok x') (cond u (Ok y') (Err TooLarge)))
    by true u x y x' y' = refl
    by false true x y x' y' = refl
    by false false x y x' y' = refl

module _ (w d : ℕ) where
  by_refusal : (n z : ℕ) → sized n (scaled_from (z_of_design (design_of n z)) w) ≡ sized n (scaled_from z w)
  by_refusal zero z = ap (λ (y : ℕ). sized 0 (scaled_from y w)) (sixteen_z z)
  by_refusal (suc n) z = same_top n (z_of_design 0) z w

  by_words : (s m : ℕ) → sized (words_refusal d s m) (scaled_from (z_of_design (design_word d s m)) w) ≡ sized (words_refusal d s m) (scaled_from (z_at d s m) w)
  by_words zero zero = refl
  by_words zero (suc m) = by_refusal (words_refusal d zero (suc m)) (z_at d zero (suc m))
  by_words (suc s) m = by_refusal (words_refusal d (suc s) m) (z_at d (suc s) m)

-- scaling at a size is scaling at its design size, unless the size is refused
pub at_design : (kern design size magnification : ℤ) →
    sized (asked_refusal design size magnification) (to_scaled kern (design_at design size magnification)) ≡ scaled_at kern design size magnification
unfolding to_scaled scaled_at design_at
at_design kern (negsuc n) size magnification = refl
at_design kern (pos design) size magnification = by_words (word_of kern) design (word_of size) (word_of magnification)
