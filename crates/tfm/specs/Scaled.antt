-- The scaled kern: a fix_word times the design size, as TeX computes it (R48 to R54), or times another size (R350 to R357). TeX 568, 571
-- and 572. A fix_word is given by its four bytes a, b, c, d, that is by its 32 bits.
use Rattle.std.specs.Prelude.{Bool, true, false, cond, ◌&&◌, [], ◌∷◌, ℕ, zero, suc, ◌+◌, ◌*◌, ◌/◌, ◌%◌, ◌<◌, ◌≤◌, ℤ, pos, negsuc, ◌-ℤ◌, leb, ltb, eqb, Result, Ok, Err}
use Rattle.words.specs.Words.{word_of}
use Rattle.words.specs.Replies.{Reply, reply_of}
use Rattle.tfm.specs.declared.Multiplier.{Multiplier}
use Rattle.tfm.specs.declared.ScalingError.{ScalingError}
use Rattle.tfm.specs.declared.ScalingError.TheVariants.{NegativeDesignSize, TooLarge, SizeOutOfRange}

-- the number of an error (R285): 5 (R234) of the design size, 13 (R242) of the top byte, 19 (R354) of the size
abbrev pub scaling_number : ScalingError → ℕ
scaling_number NegativeDesignSize = 5
scaling_number TooLarge = 13
scaling_number SizeOutOfRange = 19

-- an answer as a number and values (R285)
abbrev pub scaled_reply : Result ℤ ScalingError → Reply
scaled_reply (Ok v) = reply_of 0 (v ∷ [])
scaled_reply (Err e) = reply_of (scaling_number e) []

-- R48, TeX 568: z from a design size, which has four bits more of fraction
abbrev pub z_of_design : ℕ → ℕ
z_of_design design = design / 16

-- R49, TeX 572: z is halved until it is below 2 ^ 23, and alpha makes up for it. z is below 2 ^ 27, so four halvings are enough.
unfoldable pub halve : ℕ → ℕ → ℕ → Multiplier
halve zero z alpha = record { z = z; alpha = alpha }
halve (suc n) z alpha = elim (ltb z 8388608) [ true ↦ record { z = z; alpha = alpha } | false ↦ halve n (z / 2) (alpha + alpha) ]

-- TeX 572: z below 2 ^ 23 and alpha, which starts at 16 and is not yet multiplied by z
abbrev pub multiplier : ℕ → Multiplier
multiplier z = halve 4 z 16

-- TeX 572: beta, 256 divided by alpha
abbrev pub beta : Multiplier → ℕ
beta m = 256 / m.alpha

-- what the halving leaves, and the bounds under which no product below passes 2 ^ 31 (TeX 571)
pub record Below (m : Multiplier) : Type 0 where
  pub z_below : m.z < 8388608
  pub alpha_low : 16 ≤ m.alpha
  pub alpha_high : m.alpha ≤ 256

-- R50 and R51, TeX 571: the three low bytes times z, from the lowest up
abbrev pub low_bytes : Multiplier → ℕ → ℕ → ℕ → ℕ
low_bytes m b c d = ((d * m.z / 256 + c * m.z) / 256 + b * m.z) / beta m

-- R52, TeX 571: by the top byte a
abbrev pub store_scaled : Multiplier → ℕ → ℕ → ℕ → ℕ → Result ℤ ScalingError
store_scaled m a b c d =
    cond (eqb a 0) (Ok (pos (low_bytes m b c d)))
    (cond (eqb a 255) (Ok (pos (low_bytes m b c d) -ℤ pos (m.alpha * m.z))) (Err TooLarge))

-- scaling the number with these 32 bits from a given z (R288)
abbrev pub scaled_from : ℕ → ℕ → Result ℤ ScalingError
scaled_from z w = store_scaled (multiplier z) (w / 16777216) (w / 65536 % 256) (w / 256 % 256) (w % 256)

-- scaling a number at a design size, any two i32; at a negative one it is 5 (R54)
unfoldable pub to_scaled : ℤ → ℤ → Result ℤ ScalingError
to_scaled kern (negsuc n) = Err NegativeDesignSize
to_scaled kern (pos design) = scaled_from (z_of_design design) (word_of kern)

-- ---- at another size: a size in scaled points, or a magnification in thousandths; 0 is not asked for (R350)

-- R354, TeX 571: a size in range, from 1 and below 2 ^ 27
abbrev pub is_size : ℕ → Bool
is_size z = leb 1 z && leb z 134217727

-- R352, TeX 568 and 107: z of the design size times a magnification; both divisions round down
abbrev pub magnified : ℕ → ℕ → ℕ
magnified design magnification = z_of_design design * magnification / 1000

-- 19 of a size that is asked for, or made by magnifying
abbrev pub z_refusal : ℕ → ℕ
z_refusal z = cond (is_size z) 0 19

-- 19 by the words of design size, size and magnification (R353, R354); a negative number's word is out of both ranges
abbrev pub words_refusal : ℕ → ℕ → ℕ → ℕ
words_refusal design zero zero = 0
words_refusal design (suc size) zero = z_refusal (suc size)
words_refusal design zero (suc magnification) =
    cond (leb (suc magnification) 32768) (z_refusal (magnified design (suc magnification))) 19
words_refusal design (suc size) (suc magnification) = 19

-- 19 of any three i32: design size, size, magnification. A negative design size is 5 before it.
abbrev pub asked_refusal : ℤ → ℤ → ℤ → ℕ
asked_refusal design size magnification = words_refusal (word_of design) (word_of size) (word_of magnification)

-- R351, TeX 568: z from which scaling starts, by the same three words: of the design size, the size itself, or magnified
abbrev pub z_at : ℕ → ℕ → ℕ → ℕ
z_at design zero zero = z_of_design design
z_at design (suc size) magnification = suc size
z_at design zero (suc magnification) = magnified design (suc magnification)

-- by the size's number (R355): 13 comes before it
abbrev pub sized : ℕ → Result ℤ ScalingError → Result ℤ ScalingError
sized n (Err e) = Err e
sized zero (Ok v) = Ok v
sized (suc n) (Ok v) = Err SizeOutOfRange

-- scaling a number at a design size, a size and a magnification, any four i32; the lowest of 5, 13 and 19 (R355)
unfoldable pub scaled_at : ℤ → ℤ → ℤ → ℤ → Result ℤ ScalingError
scaled_at kern (negsuc n) size magnification = Err NegativeDesignSize
scaled_at kern (pos design) size magnification =
    sized (asked_refusal (pos design) size magnification)
    (scaled_from (z_at design (word_of size) (word_of magnification)) (word_of kern))

-- 16 z of a size that is taken, and 0 of one that is refused
abbrev pub design_of : ℕ → ℕ → ℕ
design_of zero z = 16 * z
design_of (suc n) z = 0

-- a size or a magnification is asked for
abbrev pub is_asked : ℕ → ℕ → Bool
is_asked zero zero = false
is_asked zero (suc magnification) = true
is_asked (suc size) magnification = true

-- the same by the three words; the design size itself where nothing is asked for
abbrev pub design_word : ℕ → ℕ → ℕ → ℕ
design_word design size magnification =
    cond (is_asked size magnification) (design_of (words_refusal design size magnification) (z_at design size magnification)) design

-- the design size at which a font is compiled (R357): a negative one itself, else by the words
unfoldable pub design_at : ℤ → ℤ → ℤ → ℤ
design_at (negsuc n) size magnification = negsuc n
design_at (pos design) size magnification = pos (design_word design (word_of size) (word_of magnification))
