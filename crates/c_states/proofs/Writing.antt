-- A list that was zeroed and then written at its front, and the number by which it is known.
-- Assumes nothing.
use mathlib.Core.Path.{◌≡◌, ap, ◌∙◌}
use mathlib.Core.List.{List, ◌++◌}
use Prim.Native.Nat.{ℕ, ◌≤◌, ◌<◌}
use native.Mathlib.Omega.{arith}
use lib.ListN.{length, replicate, length-replicate}
use lib.Seq.{sets}
use Rattle.words.proofs.Lists.{sets_front, drop_replicate}
use Rattle.lang.specs.Checks.{lower}
use Rattle.lang.specs.Answers.{room_refusal, list_of}
use Rattle.lang.proofs.Refusals.{room_is, room_short}

pub zeroed_length : {A : Type 0} (o : A) (n : ℕ) {d : List A} → d ≡ replicate n o → length d ≡ n
zeroed_length o n e = ap length e ∙ length-replicate n o

-- values over zeros
pub written_front_lem : {A : Type 0} (o : A) (n : ℕ) (vs : List A) {m : ℕ} {d₀ d : List A} → m ≡ 0 → d₀ ≡ replicate n o → length vs ≤ n → d ≡ sets d₀ 0 vs →
    d ≡ list_of m o n vs
written_front_lem {A} o n vs z a l e =
    rw (z, e, a)
    (sets_front vs (replicate n o) (omega (arith, l, length-replicate n o)) ∙ ap (λ (t : List A). vs ++ t) (drop_replicate (length vs) n o))

-- nothing else is refused, and there is room or there is none
module _ {m : ℕ} (needed room : ℕ) (z : m ≡ 0) where
  pub with_room : needed ≤ room → lower m (room_refusal needed room) ≡ 0
  with_room h = ap (λ (k : ℕ). lower k (room_refusal needed room)) z ∙ room_is needed room h

  pub without_room : room < needed → lower m (room_refusal needed room) ≡ 15
  without_room h = ap (λ (k : ℕ). lower k (room_refusal needed room)) z ∙ room_short needed room h
