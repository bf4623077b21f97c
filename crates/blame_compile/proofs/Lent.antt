-- A font that was compiled with its numbers handed over as their bits, and an empty loop list.
-- Assumes nothing.
use mathlib.Core.Path.{◌≡◌, refl, subst, subst₃}
use mathlib.Core.List.{List, [], ◌∷◌}
use Prim.Native.Nat.{ℕ, suc}
use native.Mathlib.Omega.{arith}
use lib.IntN.{ℤ}
use lib.ListN.{length}
use Rattle.tfm.specs.Scaled.{asked_refusal, design_at}
use Rattle.fonts.specs.declared.Compiled.{Compiled}
use Rattle.fonts.specs.Fonts.{font_of}
use Rattle.fonts.specs.Compiled.{Compiles}

pub none_left : (xs : List ℤ) → length xs ≡ 0 → xs ≡ []
none_left [] e = refl
none_left (x ∷ xs) e = absurd (omega (arith, e))

module _ (instructions kerns entries pairs ops pairs' ops' : List ℤ) (work work' : List ℕ) (r : Compiled) where
  pub loopless : {b l d s m b' l' d' s' m' : ℤ} (loops loops' : List ℤ) → b ≡ b' → l ≡ l' → d ≡ d' → s ≡ s' → m ≡ m' → loops ≡ [] → loops' ≡ [] →
      Compiles (font_of instructions kerns entries b l (design_at d s m)) (asked_refusal d s m) pairs ops loops work r pairs' ops' loops' work' →
      Compiles (font_of instructions kerns entries b' l' (design_at d' s' m')) (asked_refusal d' s' m') pairs ops [] work r pairs' ops' [] work'
  loopless {b} {l} {d} {s} {m} {b'} {l'} {d'} {s'} {m'} loops loops' eb el ed es em e e' h =
      subst (λ (x : List ℤ). Compiles (font_of instructions kerns entries b' l' (design_at d' s' m'))
      (asked_refusal d' s' m') pairs ops [] work r pairs' ops' x work') e'
      (subst₃ (λ (x y : ℤ) (z : List ℤ).
      Compiles (font_of instructions kerns entries b' l' (design_at d' x y)) (asked_refusal d' x y) pairs ops z work r pairs' ops' loops' work') es em e
      (subst₃ (λ (x y z : ℤ). Compiles (font_of instructions kerns entries x y (design_at z s m))
      (asked_refusal z s m) pairs ops loops work r pairs' ops' loops' work')
      eb el ed h))
