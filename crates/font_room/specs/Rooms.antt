-- A list of zeros of some length.
use Rattle.std.specs.Prelude.{◌≡◌, List, ℕ, length, replicate}

pub record ZeroRoom {A : Type 0} (n : ℕ) (zero : A) (list : List A) : Type 0 where
  pub long : n ≡ length list
  pub zeros : list ≡ replicate n zero
