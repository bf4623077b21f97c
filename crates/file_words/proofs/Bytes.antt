-- The four bytes of a word: put together from its parts, and stored as two halves.
-- Assumes nothing.
use mathlib.Core.Path.{◌≡◌, refl, sym, ap, ◌∙◌}
use mathlib.Core.List.{List, [], ◌∷◌, ◌++◌}
use Prim.Native.Nat.{ℕ, suc, ◌+◌, ◌*◌, ◌/◌, ◌%◌, ◌<◌, ◌≤◌}
use native.Mathlib.Omega.{arith}
use lib.ListN.{length}
use lib.Seq.{sets, set_out}
use Rattle.words.proofs.Lists.{sets_append}
use Rattle.files.specs.Sections.{half_bytes, byte_of}
use Rattle.file_words.specs.Fours.{four_bytes}

-- from two bytes and a half
pub joined_half : (a b h : ℕ) → a < 256 → b < 256 → h < 65536 →
    four_bytes (byte_of (16777216 * a + 65536 * b + h)) ≡ a ∷ b ∷ h / 256 ∷ h % 256 ∷ []
joined_half a b h p q r =
    let w₀ : (16777216 * a + 65536 * b + h) / 16777216 % 256 ≡ a = omega arith in
    let w₁ : (16777216 * a + 65536 * b + h) / 65536 % 256 ≡ b = omega arith in
    let w₂ : (16777216 * a + 65536 * b + h) / 256 % 256 ≡ h / 256 = omega arith in
    let w₃ : (16777216 * a + 65536 * b + h) % 256 ≡ h % 256 = omega arith in
    rw (w₀, w₁, w₂, w₃)

-- ---- by two halves

two_halves : (w : ℕ) → four_bytes (byte_of w) ≡ half_bytes (w / 65536) ++ half_bytes (w % 65536)
two_halves w =
    let e₀ : w / 16777216 % 256 ≡ w / 65536 / 256 % 256 = omega arith in
    let e₂ : w / 256 % 256 ≡ w % 65536 / 256 % 256 = omega arith in
    let e₃ : w % 256 ≡ w % 65536 % 256 = omega arith in
    rw (e₀, e₂, e₃)

-- the higher half stored, and then the lower
pub halves_put : (out d d₁ : List ℕ) (at w : ℕ) → d ≡ sets out at (half_bytes (w / 65536)) → d₁ ≡ sets d (at + 2) (half_bytes (w % 65536)) →
    d₁ ≡ sets out at (four_bytes (byte_of w))
halves_put out d d₁ at w e f =
    f ∙ ap (λ (l : List ℕ). sets l (at + 2) (half_bytes (w % 65536))) e
    ∙ sym (sets_append (half_bytes (w / 65536)) (half_bytes (w % 65536)) out at)
    ∙ ap (λ (vs : List ℕ). sets out at vs) (sym (two_halves w))

-- stores past the end do nothing
pub sets_past : (vs l : List ℕ) (i : ℕ) → length l ≤ i → sets l i vs ≡ l
sets_past [] l i h = refl
sets_past (v ∷ vs) l i h = rw (set_out l i v h) (sets_past vs l (suc i) (omega arith))
