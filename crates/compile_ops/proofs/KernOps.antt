-- The two parts of a row with a kern: its left, if that is a character, and the kern.
-- Assumes nothing.
use mathlib.Core.Path.{◌≡◌, sym, ap, ◌∙◌}
use mathlib.Core.List.{List}
use Prim.Native.Nat.{ℕ, ◌-◌}
use native.Mathlib.Omega.{arith}
use Rattle.compiling.specs.declared.Part.TheVariants.{Nothing, Character, Kern}
use Rattle.compiling.specs.Rows.{at}
use Rattle.compiling.specs.OpSteps.{left_part, first_part, second_part}
use Rattle.compiling.proofs.OpLaws.{left_is, first_high, second_kern}

module _ (n : ℕ) (w : List ℕ) (k : ℕ) (is-kern : at w k 3 ≡ 128) where
  kern_first : (left : ℕ) → left ≡ at w k 0 → left_part left ≡ first_part n w k
  kern_first left e = ap left_part e ∙ first_high n w (at w k 3) (at w k 0) (at w k 4) (at w k 1) (omega arith)

  pub kern_edge : (left : ℕ) → left ≡ at w k 0 → left ≡ 0 → Nothing ≡ first_part n w k
  kern_edge left e z = ap left_part (sym z) ∙ kern_first left e

  pub kern_left : (left : ℕ) → left ≡ at w k 0 → (left ≡ 0 → ⊥) → Character (left - 1) ≡ first_part n w k
  kern_left left e ne = left_is left ne ∙ kern_first left e

  pub kern_second : (v : ℕ) → v ≡ at w k 4 → Kern v ≡ second_part n w k
  kern_second v e = ap Kern e ∙ second_kern n w (at w k 3) (at w k 0) (at w k 4) (at w k 1) is-kern
