-- Which instructions have no label.
use Rattle.std.specs.Prelude.{◌≡◌, List, ℕ, ◌<◌, ◌≤◌, ℤ, pos, get_or}
use Rattle.words.specs.Words.{word_of}

-- r is `from` or above, and the first c places of a table name no instruction from `from` on below r
pub record NextLabelIn (c : ℕ) (t : List ℤ) (from r : ℕ) : Type 0 where
  pub least : from ≤ r
  pub none : (b i : ℕ) → b < c → from ≤ i → i < r → word_of (get_or t b (pos 0)) ≡ i → ⊥

-- .. and no place of the table of 257 entries does
abbrev pub NextLabel : List ℤ → ℕ → ℕ → Type 0
NextLabel t from r = NextLabelIn 257 t from r
