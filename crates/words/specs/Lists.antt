-- Lists that are written from the front: by a function of the index, and by appending.
use Rattle.std.specs.Prelude.{◌≡◌, List, [], ◌∷◌, ◌++◌, ℕ, zero, suc, ◌≤◌, length, drop}

-- the first n values of f. It recurses at the end, as a loop that counts up writes
unfoldable pub tabulate {ℓ} : {A : Type ℓ} → ℕ → (ℕ → A) → List A
tabulate zero f = []
tabulate (suc n) f = tabulate n f ++ (f n ∷ [])

-- d is d₀ with its first i elements written by f
pub record Filling {A : Type 0} (f : ℕ → A) (d₀ d : List A) (i : ℕ) : Type 0 where
  pub within : i ≤ length d₀
  pub filled : d ≡ tabulate i f ++ drop i d₀

-- d is d₀ with `done` written at its front
pub record Appending {A : Type 0} (done d₀ d : List A) : Type 0 where
  pub within : length done ≤ length d₀
  pub appended : d ≡ done ++ drop (length done) d₀
