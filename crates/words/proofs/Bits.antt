-- Laws of a number and its 32 bits, for code that reads an i32 as a word and for contracts that speak of ℤ.
-- Assumes nothing.
use mathlib.Core.Path.{◌≡◌, sym, ap, ◌∙◌}
use Prim.Native.Nat.{ℕ, suc, ◌-◌, ◌^◌, ◌<◌, ◌≤◌}
use lib.IntN.{ℤ, pos, negsuc}
use mir.Syntax.{w32}
use mir.Val.{SFits}
use mir.ValLaws.{to_z-of_z, of_z_fits, of_z-to_z, to_z-Fits}
use borrow.Author.Tests.{lt-ltb, le-ltb}
use Rattle.words.specs.Words.{word_of, number_of, Word}

-- to the bits and back, and from the bits and back
pub number_word : (z : ℤ) → SFits w32 z → number_of (word_of z) ≡ z
number_word z f = to_z-of_z w32 z f

pub word_number : (w : ℕ) → w < 2 ^ 32 → word_of (number_of w) ≡ w
word_number w h = of_z-to_z w32 w (record { fits = h })

pub number_fits : (w : ℕ) → w < 2 ^ 32 → SFits w32 (number_of w)
number_fits w h = to_z-Fits w32 w (record { fits = h })

pub word_lt : (z : ℤ) → SFits w32 z → word_of z < 2 ^ 32
word_lt z f = (of_z_fits w32 z f).fits

-- below 2 ^ 31 the number is the word, from there on it is negative
pub number_pos : (w : ℕ) → w < 2 ^ 31 → number_of w ≡ pos w
number_pos w h = rw (lt-ltb w (2 ^ 31) h)

pub number_neg : (w : ℕ) → 2 ^ 31 ≤ w → number_of w ≡ negsuc (2 ^ 32 - suc w)
number_neg w h = rw (le-ltb w (2 ^ 31) h)

-- of a word that was read: the number that it stands for
pub number_is : {z : ℤ} {w : ℕ} → Word z w → number_of w ≡ z
number_is {z} r = ap number_of r.is ∙ number_word z r.fits

pub read_lt : {z : ℤ} {w : ℕ} → Word z w → w < 2 ^ 32
read_lt {z} r = rw r.is (word_lt z r.fits)

pub read_pos : {z : ℤ} {w : ℕ} → Word z w → w < 2 ^ 31 → z ≡ pos w
read_pos {w = w} r h = sym (number_is r) ∙ number_pos w h

pub read_neg : {z : ℤ} {w : ℕ} → Word z w → 2 ^ 31 ≤ w → z ≡ negsuc (2 ^ 32 - suc w)
read_neg {w = w} r h = sym (number_is r) ∙ number_neg w h

pub read_is : {z : ℤ} {w : ℕ} → Word z w → (n : ℕ) → z ≡ pos n → w ≡ n
read_is r n e = r.is ∙ ap word_of e
