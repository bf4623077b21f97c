-- The four bytes of a word that is put together from them, and an element by any default.
-- Assumes nothing.
use mathlib.Core.Path.{◌≡◌, refl}
use mathlib.Core.List.{List, [], ◌∷◌}
use Prim.Native.Nat.{ℕ, zero, suc, ◌+◌, ◌*◌, ◌/◌, ◌%◌, ◌<◌}
use native.Mathlib.Omega.{arith}
use lib.ListN.{length, get_or}
use Rattle.files.specs.Sections.{byte_of}
use Rattle.file_words.specs.Fours.{four_bytes}

-- a word from its four bytes
pub joined_bytes : (a b c d : ℕ) → a < 256 → b < 256 → c < 256 → d < 256 →
    four_bytes (byte_of (16777216 * a + 65536 * b + 256 * c + d)) ≡ a ∷ b ∷ c ∷ d ∷ []
joined_bytes a b c d p q r s =
    let w₀ : (16777216 * a + 65536 * b + 256 * c + d) / 16777216 % 256 ≡ a = omega arith in
    let w₁ : (16777216 * a + 65536 * b + 256 * c + d) / 65536 % 256 ≡ b = omega arith in
    let w₂ : (16777216 * a + 65536 * b + 256 * c + d) / 256 % 256 ≡ c = omega arith in
    let w₃ : (16777216 * a + 65536 * b + 256 * c + d) % 256 ≡ d = omega arith in
    rw (w₀, w₁, w₂, w₃)

-- inside a list any default serves
pub default_any {ℓ} : {A : Type ℓ} (l : List A) (i : ℕ) (d e : A) → i < length l → get_or l i d ≡ get_or l i e
default_any [] i d e h = absurd (omega arith)
default_any (x ∷ l) zero d e h = refl
default_any (x ∷ l) (suc i) d e h = default_any l i d e (omega arith)
