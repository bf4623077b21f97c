-- A word over a checked table, by any step: the numbers that are asked first, and the items. Assumes nothing.
use mathlib.Core.Path.{◌≡◌, refl, sym, subst}
use mathlib.Core.List.{List}
use Prim.Native.Nat.{ℕ, zero, suc, ◌/◌}
use native.Mathlib.Omega.{arith}
use lib.IntN.{ℤ, pos}
use lib.ListN.{length, replicate}
use Rattle.lang.specs.declared.Written.{Written}
use Rattle.lang.specs.declared.Written.TheVariants.{Refused}
use Rattle.lang.specs.Answers.{Reply}
use Rattle.word_set.specs.Setting.{after_begin}
use Rattle.word_set.specs.Writing.{Tells}

-- a number that is not 0 is told alone, over zeros
pub refused_tells : (m n : ℕ) (r : Reply) (d d' : List ℤ) → n ≡ m → (n ≡ 0 → ⊥) → d' ≡ replicate (length d) (pos 0) →
    Tells (after_begin m r) d (Refused n) d'
refused_tells zero n r d d' e h z = absurd (h e)
refused_tells (suc m) n r d d' e h z = subst (λ (k : ℕ). Tells (after_begin (suc m) r) d (Refused k) d') (sym e) (record { answer = refl; list = z })

-- where it is 0 the items are told
pub taken_tells : (m n : ℕ) (r : Reply) (d : List ℤ) (w : Written) (d' : List ℤ) → n ≡ m → n ≡ 0 → Tells r d w d' → Tells (after_begin m r) d w d'
taken_tells zero n r d w d' e z h = h
taken_tells (suc m) n r d w d' e z h = absurd (omega (arith, e, z))
