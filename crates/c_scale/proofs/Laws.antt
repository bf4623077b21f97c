-- What is told of one kern scaled whose number refuses. Assumes nothing.
use mathlib.Core.Path.{◌≡◌, ap, ◌∙◌}
use mathlib.Core.List.{List, []}
use Prim.Native.Nat.{ℕ}
use lib.IntN.{ℤ, pos}
use lib.ListN.{length, length-replicate, replicate}
use Rattle.lang.specs.Checks.{lower}
use Rattle.lang.specs.Answers.{room_refusal}
use Rattle.c_values.proofs.Telling.{none_listed}
use Rattle.c_scale.specs.Scaling.{TellsScaled}

module _ (scaled : List ℤ) {z : List ℤ} (blank : z ≡ replicate (length scaled) (pos 0)) {room : ℕ} (e : room ≡ room_refusal 1 (length z)) where
  -- the list is as long as it was lent
  lent : room ≡ room_refusal 1 (length scaled)
  lent = e ∙ ap (room_refusal 1) (ap length blank ∙ length-replicate (length scaled) (pos 0))

  pub told_number_lem : (n : ℕ) {r : ℕ} → r ≡ lower n room → TellsScaled (record { number = n; values = [] }) scaled r z
  told_number_lem n {r} g = record { number = g ∙ ap (lower n) lent; told = none_listed (pos 0) (length scaled) r blank }
