-- What is known of a refusal and of values from the reply that they make: its number is the refusal, or there is none and its values are those.
-- Assumes nothing.
use mathlib.Core.Path.{◌≡◌, refl, sym}
use mathlib.Core.List.{List, [], ◌∷◌}
use Prim.Native.Nat.{ℕ, zero, suc}
use native.Mathlib.Omega.{arith}
use lib.IntN.{ℤ}
use Rattle.words.specs.Replies.{Reply, reply_of}
use Rattle.fonts.proofs.Replies.{taken_unlike, number_known, values_known}

pub replied_refused : (m n : ℕ) (v : ℤ) (vs : List ℤ) → ◌≡◌ {A = Reply} (record { number = n; values = [] }) (reply_of m (v ∷ vs)) → (n ≡ m) × (n ≡ 0 → ⊥)
replied_refused zero n v vs e = taken_unlike (sym e)
replied_refused (suc m) n v vs e = let q : n ≡ suc m = number_known e in (q, λ z. omega (arith, q, z))

pub replied_taken : (m : ℕ) {u : ℤ} {us : List ℤ} (v : ℤ) (vs : List ℤ) → ◌≡◌ {A = Reply} (record { number = 0; values = u ∷ us }) (reply_of m (v ∷ vs)) →
    (m ≡ 0) × (◌≡◌ {A = List ℤ} (u ∷ us) (v ∷ vs))
replied_taken zero v vs e = (refl, values_known e)
replied_taken (suc m) v vs e = taken_unlike e
