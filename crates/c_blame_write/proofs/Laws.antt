-- What is told of an answer: a number, or two values over zeros. Assumes nothing.
use mathlib.Core.Path.{◌≡◌, refl, sym, ap, ◌∙◌}
use mathlib.Core.List.{List, [], ◌∷◌}
use Prim.Native.Nat.{ℕ, ◌≤◌, ◌<◌}
use native.Mathlib.Omega.{arith}
use lib.IntN.{pos}
use lib.ListN.{length, length-replicate, replicate}
use lib.Seq.{sets}
use Rattle.lang.specs.Checks.{lower}
use Rattle.lang.specs.Answers.{reply_of, room_refusal}
use Rattle.lang.proofs.Refusals.{room_is, room_short}
use Rattle.lang.proofs.Filled.{refused_list}
use Rattle.c_values.proofs.Telling.{none_listed, listed}
use Rattle.c_blame_write.specs.Told.{TellsBlamed}

module _ (values : List ℕ) {z : List ℕ} (blank : z ≡ replicate (length values) 0) where
  -- the list is as long as it was lent
  long : length z ≡ length values
  long = ap length blank ∙ length-replicate (length values) 0

  pub told_number_lem : (n r : ℕ) → r ≡ lower n (room_refusal 2 (length z)) → TellsBlamed (record { number = n; values = [] }) values r z
  told_number_lem n r e = record { number = e ∙ ap (λ (m : ℕ). lower n (room_refusal 2 m)) long; told = none_listed 0 (length values) r blank }

  pub told_short : (a b : ℕ) → length z < 2 → TellsBlamed (reply_of 0 (pos a ∷ pos b ∷ [])) values 15 z
  told_short a b h =
      record {
        number = sym (room_short 2 (length values) (omega (arith, h, long)));
        told = refused_list 0 (length values) (a ∷ b ∷ []) {m = 15} refl (λ e. omega (arith, e)) blank;
      }

  pub told_two : (a b : ℕ) → 2 ≤ length z → {d : List ℕ} → d ≡ sets z 0 (a ∷ b ∷ []) → TellsBlamed (reply_of 0 (pos a ∷ pos b ∷ [])) values 0 d
  told_two a b h w =
      record {
        number = sym (room_is 2 (length values) (omega (arith, h, long)));
        told = listed 0 (length values) (a ∷ b ∷ []) {m = 0} refl blank (omega (arith, h, long)) w;
      }
