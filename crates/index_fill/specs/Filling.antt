-- An index (R135 to R137) while it is filled: after zeroing, the bits of the first n pairs are set, and then the pairs before each of the
-- first m lefts are counted.
use Rattle.std.specs.Prelude.{◌≡◌, cond, List, ℕ, ◌/◌, ◌%◌, ℤ, ltb, eqb, length, get_or}
use Rattle.index.specs.Index.{rights_of, pairs_before}

-- number i, of which the index has 1,285
abbrev pub filled_number : List ℤ → ℕ → ℕ → ℕ → ℕ
filled_number pairs n m i =
    cond (ltb i 1285) (cond (eqb (i % 5) 4) (cond (ltb (i / 5) m) (pairs_before pairs (i / 5)) 0) (rights_of pairs n (i / 5) (i % 5))) 0

-- d is d₀ filled so far
pub record Filled (pairs : List ℤ) (n m : ℕ) (d₀ d : List ℕ) : Type 0 where
  pub same : length d ≡ length d₀
  pub numbers : (i : ℕ) → get_or d i 0 ≡ filled_number pairs n m i
