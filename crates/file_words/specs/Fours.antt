-- The four bytes of a word, as a list.
use Rattle.std.specs.Prelude.{List, [], ◌∷◌, ℕ}

-- the bytes of a word, by the place of a byte in it
abbrev pub four_bytes : (ℕ → ℕ) → List ℕ
four_bytes f = f 0 ∷ f 1 ∷ f 2 ∷ f 3 ∷ []
