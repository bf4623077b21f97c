-- A pair's place in the order, by the pair before it. Assumes nothing.
use mathlib.Core.Path.{◌≡◌, refl}
use mathlib.Core.List.{List}
use Prim.Native.Nat.{ℕ, zero, suc, ◌-◌}
use native.Mathlib.Omega.{arith}
use lib.IntN.{ℤ}
use lib.Dec.{ltb}
use Rattle.captions.specs.Tables.{key_at}
use Rattle.captions.specs.Form.{comes_after}

pub after_other : (pairs : List ℤ) (k a b : ℕ) → (k ≡ 0 → ⊥) → a ≡ key_at pairs (k - 1) → b ≡ key_at pairs k → ltb a b ≡ comes_after pairs k
after_other pairs zero a b h p q = absurd (h refl)
after_other pairs (suc k) a b h p q = let e : suc k - 1 ≡ k = omega arith in rw (p, q, e)
