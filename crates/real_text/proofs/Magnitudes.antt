-- A kern's text: its sign, its whole part, the point and its decimals, one after the other.
-- Assumes nothing.
use mathlib.Core.Path.{◌≡◌}
use mathlib.Core.List.{List, [], ◌∷◌}
use Prim.Native.Nat.{ℕ, suc, ◌+◌, ◌-◌, ◌/◌, ◌%◌, ◌^◌, ◌<◌, ◌≤◌}
use native.Mathlib.Omega.{arith}
use Rattle.words.specs.Words.{number_of}
use Rattle.words.proofs.Bits.{number_pos, number_neg}
use Rattle.points.specs.Printing.{whole_text}
use Rattle.property_lists.specs.Putting.{PutsCounted}
use Rattle.property_lists.specs.RealTexts.{fraction_digits, magnitude_text, real_text}
use Rattle.property_lists.proofs.Putting.{counted_more}

pub magnitude_put : (n : ℕ) {out : List ℕ} {at a b r : ℕ} {out₁ out₂ out₃ : List ℕ} → PutsCounted out at (whole_text (n / 1048576)) a out₁ →
    PutsCounted out₁ a (46 ∷ []) b out₂ → PutsCounted out₂ b (fraction_digits (n % 1048576)) r out₃ → PutsCounted out at (magnitude_text n) r out₃
magnitude_put n p q s = counted_more p (counted_more q s)

pub positive_put : (w : ℕ) {out : List ℕ} {at r : ℕ} {d : List ℕ} → w < 2147483648 → PutsCounted out at (magnitude_text w) r d →
    PutsCounted out at (real_text (number_of w)) r d
positive_put w h p = rw (number_pos w h) p

pub negative_put : (w : ℕ) {out : List ℕ} {at a r : ℕ} {d d' : List ℕ} → 2147483648 ≤ w → w < 2 ^ 32 → PutsCounted out at (45 ∷ []) a d →
    PutsCounted d a (magnitude_text (4294967295 - w + 1)) r d' → PutsCounted out at (real_text (number_of w)) r d'
negative_put w {out} {at} {a} {r} {d} {d'} h l p q =
    let s : 4294967295 - w + 1 ≡ suc (2 ^ 32 - suc w) = omega arith in
    rw (number_neg w h)
    (counted_more p (let q' : PutsCounted d a (magnitude_text (suc (2 ^ 32 - suc w))) r d' = rw s at q in q'))
