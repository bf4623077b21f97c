-- A row with a kern has one op, the kern, and one more where its left is a character.
-- Assumes nothing.
use mathlib.Core.Path.{◌≡◌, refl, sym, ap, ◌∙◌}
use mathlib.Core.List.{List}
use Prim.Native.Nat.{ℕ, zero, suc, ◌+◌}
use native.Mathlib.Omega.{arith}
use Rattle.compiling.specs.Rows.{at}
use Rattle.compiling.specs.OpRows.{capped}
use Rattle.compiling.specs.OpSteps.{left_part, part_count, row_count}
use Rattle.compiling.proofs.OpLaws.{first_high, second_kern}

module _ (n : ℕ) (w : List ℕ) (k : ℕ) (is-kern : at w k 3 ≡ 128) where
  left_and_kern : row_count n w k ≡ capped (part_count w (left_part (at w k 0)) + 1)
  left_and_kern =
      let f = first_high n w (at w k 3) (at w k 0) (at w k 4) (at w k 1) (omega arith) in
      let s = second_kern n w (at w k 3) (at w k 0) (at w k 4) (at w k 1) is-kern in
      λ i. capped (part_count w (sym f i) + part_count w (sym s i))

  pub edge_kern : (left : ℕ) → left ≡ at w k 0 → left ≡ 0 → 1 ≡ row_count n w k
  edge_kern left e z = sym (left_and_kern ∙ ap (λ (t : ℕ). capped (part_count w (left_part t) + 1)) (sym e ∙ z))

  character_by : (t : ℕ) → (t ≡ 0 → ⊥) → capped (part_count w (left_part t) + 1) ≡ 2
  character_by zero ne = absurd (ne refl)
  character_by (suc c) ne = refl

  pub character_kern : (left : ℕ) → left ≡ at w k 0 → (left ≡ 0 → ⊥) → 2 ≡ row_count n w k
  character_kern left e ne = sym (left_and_kern ∙ character_by (at w k 0) (λ z. ne (e ∙ z)))
