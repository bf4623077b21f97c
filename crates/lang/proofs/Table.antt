-- A rule at every number below a bound, by one computation: antt computes the list of the values below the bound and compares it with the values of another
-- function. The two lists are compared once, and a law takes the equation to each place. Assumes nothing.
use mathlib.Core.Path.{◌≡◌, sym, ◌∙◌}
use Prim.Native.Nat.{ℕ, ◌<◌}
use Rattle.words.specs.Lists.{tabulate}
use Rattle.words.proofs.Lists.{get_d_tabulate}

-- two functions with the same first n values agree below n
pub agree_below : {A : Type 0} (f g : ℕ → A) (n : ℕ) → tabulate n f ≡ tabulate n g → (k : ℕ) → k < n → f k ≡ g k
agree_below f g n e k h = sym (get_d_tabulate n f k (f k) h) ∙ rw e (get_d_tabulate n g k (f k) h)
