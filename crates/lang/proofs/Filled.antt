-- Laws of a list that is filled from the front and comes back, and of what it then holds: what is written and zeros, or zeros alone where it is refused.
-- Assumes nothing.
use mathlib.Core.Path.{◌≡◌, ap, ◌∙◌}
use mathlib.Core.List.{List, ◌++◌}
use Prim.Native.Nat.{ℕ, zero, suc, ◌+◌, ◌<◌}
use native.Mathlib.Omega.{arith}
use lib.ListN.{length, drop, set, replicate}
use Rattle.words.specs.Lists.{tabulate, Filling}
use Rattle.words.proofs.Lists.{filling_more, filling_length, length_tabulate, drop_replicate}
use Rattle.lang.specs.Answers.{list_of}

-- ---- filling

-- one more, by a store of its value
pub filling_put : {A : Type 0} {f : ℕ → A} {d₀ d d' : List A} {i : ℕ} {v : A} → Filling f d₀ d i → i < length d₀ → d' ≡ set d i v → v ≡ f i →
    Filling f d₀ d' (i + 1)
filling_put {f = f} {d₀} h l e g = rw (e, g) (filling_more f d₀ h (omega (arith, filling_length f d₀ h)))

-- n of them
pub filling_to : {A : Type 0} {f : ℕ → A} {d₀ d : List A} {i : ℕ} (n : ℕ) → Filling f d₀ d i → i ≡ n → d ≡ tabulate n f ++ drop n d₀
filling_to n h e = h.filled ∙ rw e

-- ---- the list by the refusal

pub refused_list : {A : Type 0} (o : A) (n : ℕ) (xs : List A) {m r : ℕ} {d : List A} → r ≡ m → (r ≡ 0 → ⊥) → d ≡ replicate n o → d ≡ list_of m o n xs
refused_list o n xs {m = zero} e h g = absurd (h e)
refused_list o n xs {m = suc m} e h g = g

-- k values of f written over zeros
pub written_list : {A : Type 0} (o : A) (n k : ℕ) (f : ℕ → A) {m : ℕ} {d₀ d : List A} → m ≡ 0 → d₀ ≡ replicate n o → d ≡ tabulate k f ++ drop k d₀ →
    d ≡ list_of m o n (tabulate k f)
written_list {A} o n k f z a e = rw (e, a, z, length_tabulate k f) (ap (λ (t : List A). tabulate k f ++ t) (drop_replicate k n o))
