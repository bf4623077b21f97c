-- The number of a text that is written anew: the first that is not 0. Over plain values. Assumes nothing.
use mathlib.Core.Path.{◌≡◌, refl, sym, ap, ◌∙◌}
use mathlib.Core.Bool.{Bool, true, false}
use mathlib.Core.Logic.{◌⊎◌, inl, inr}
use Prim.Native.Nat.{ℕ, ◌<◌, ◌≤◌}
use lib.Dec.{leb}
use borrow.Author.Tests.{le-leb, lt-leb, leb-true}
use Rattle.lang.specs.Every.{both}
use Rattle.lang.specs.Checks.{unless, or_else}
use Rattle.lang.specs.Answers.{room_refusal}
use Rattle.lang.proofs.Every.{both_right}
use Rattle.lang.proofs.Refusals.{first_is, second_is, or_else_none, unless_none, room_fits, room_is, room_short}
use Rattle.text_convert_refusal.specs.Judging.{anew_refusal}

module _ (kerns n bad letters room : ℕ) where
  abbrev limits : Bool
  limits = both (leb kerns 512) (leb n 65536)

  pub past_limits : (512 < kerns) ⊎ (65536 < n) → 16 ≡ anew_refusal kerns n bad letters room
  past_limits h = sym (ap (λ (t : Bool). or_else (unless 16 t) (or_else bad (or_else (room_refusal n room) letters))) (by h))
    where
      right : (t : Bool) → both t false ≡ false
      right true = refl
      right false = refl

      by : (512 < kerns) ⊎ (65536 < n) → both (leb kerns 512) (leb n 65536) ≡ false
      by (inl l) = rw (lt-leb kerns 512 l)
      by (inr l) = rw (lt-leb n 65536 l) (right (leb kerns 512))

  module _ (k : kerns ≤ 512) (l : n ≤ 65536) where
    within : anew_refusal kerns n bad letters room ≡ or_else bad (or_else (room_refusal n room) letters)
    within = rw (le-leb kerns 512 k, le-leb n 65536 l)

    pub font_refused : (bad ≡ 0 → ⊥) → bad ≡ anew_refusal kerns n bad letters room
    font_refused h = sym (within ∙ first_is bad (or_else (room_refusal n room) letters) h)

    module _ (e : bad ≡ 0) where
      sound : anew_refusal kerns n bad letters room ≡ or_else (room_refusal n room) letters
      sound = within ∙ second_is bad (or_else (room_refusal n room) letters) e

      pub room_refused : room < n → 15 ≡ anew_refusal kerns n bad letters room
      room_refused h = sym (sound ∙ ap (λ (r : ℕ). or_else r letters) (room_short n room h))

      pub letters_last : n ≤ room → letters ≡ anew_refusal kerns n bad letters room
      letters_last h = sym (sound ∙ second_is (room_refusal n room) letters (room_is n room h))

  -- where none holds there is room, and not too much is written
  pub none_refused : anew_refusal kerns n bad letters room ≡ 0 → (n ≤ 65536) × (n ≤ room)
  none_refused e =
      let a = or_else_none (unless 16 limits) (or_else bad (or_else (room_refusal n room) letters)) e in
      let b = or_else_none bad (or_else (room_refusal n room) letters) a.1 in
      let c = or_else_none (room_refusal n room) letters b.1 in
      (leb-true n 65536 (both_right (leb kerns 512) (leb n 65536) (unless_none 15 limits a.0)), room_fits n room c.0)
