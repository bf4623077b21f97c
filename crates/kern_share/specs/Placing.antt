-- One instruction whose value is shared: only private functions' contracts cite this.
use Rattle.std.specs.Prelude.{Bool, cond, List, ℕ, ◌+◌, ◌*◌, ℤ, pos, eqb, take, set}
use Rattle.lang.specs.Every.{both}
use Rattle.program_kerns.specs.Kerns.{kern_place}
use Rattle.program_kerns.specs.SharedKerns.{holds_value, held_value}

-- instruction i holds a value, past k kerns, that is not among the first m
abbrev pub is_new : List ℤ → ℕ → ℕ → List ℤ → ℕ → Bool
is_new s k i kerns m = both (holds_value s k i) (eqb (kern_place (held_value s i) (take m kerns)) m)

-- instruction i with its value, past k kerns, as the index of the first of these kerns that equals it
abbrev pub shared_at : List ℤ → List ℤ → ℕ → ℕ → List ℤ
shared_at s kerns k i =
    cond (holds_value s k i) (set (set s (4 * i + 2) (pos 1)) (4 * i + 3) (pos (kern_place (held_value s i) kerns))) s
