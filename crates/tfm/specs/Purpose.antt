-- What is proved of scaling at another size (proofs/Theorems). No contract cites this.
use Rattle.std.specs.Prelude.{◌≡◌, ℕ, ◌*◌, ◌^◌, ◌<◌, ◌≤◌, ℤ, pos}
use Rattle.words.specs.Words.{word_of}
use Rattle.tfm.specs.Scaled.{scaled_reply, scaled_from, to_scaled, asked_refusal, scaled_at, design_at}

-- scaling from z below 2 ^ 27 is scaling at the design size 16 z, which is an i32 (R357)
pub record Scales (kern : ℤ) (z : ℕ) : Type 0 where
  pub fits : 16 * z < 2 ^ 31
  pub same : scaled_from z (word_of kern) ≡ to_scaled kern (pos (16 * z))

abbrev pub SixteenTimes : Type 0
SixteenTimes = (kern : ℤ) (z : ℕ) → z < 2 ^ 27 → Scales kern z

-- so scaling at a size that is taken is scaling at its design size (R357)
abbrev pub AtItsDesignSize : Type 0
AtItsDesignSize =
    (kern design size magnification : ℤ) → asked_refusal design size magnification ≡ 0 →
    scaled_reply (scaled_at kern design size magnification) ≡ scaled_reply (to_scaled kern (design_at design size magnification))

-- with neither asked for, scaling is what it was: at the design size (R350)
abbrev pub NotAsked : Type 0
NotAsked = (kern design : ℤ) → scaled_reply (scaled_at kern design (pos 0) (pos 0)) ≡ scaled_reply (to_scaled kern design)

-- a magnification of 1,000 is the design size, where that is 16 or more (R352)
abbrev pub OneThousand : Type 0
OneThousand =
    (kern : ℤ) (design : ℕ) → 16 ≤ design → design < 2 ^ 31 →
    scaled_at kern (pos design) (pos 0) (pos 1000) ≡ scaled_at kern (pos design) (pos 0) (pos 0)
