-- The right item by its bits, and the answer of a step by its refusals. Assumes nothing.
use mathlib.Core.Path.{◌≡◌, refl, sym, ap, ◌∙◌}
use mathlib.Core.List.{List}
use mathlib.Core.Option.{Option}
use Prim.Native.Nat.{ℕ, zero, suc, ◌^◌, ◌<◌, ◌≤◌}
use lib.IntN.{ℤ}
use mir.Syntax.{w32}
use mir.Val.{SFits}
use Rattle.words.specs.Words.{word_of, number_of, Word}
use Rattle.words.proofs.Bits.{number_pos, number_is, number_word, read_pos, read_neg}
use Rattle.lang.proofs.Checks.{first_is, second_is}
use Rattle.captions.specs.declared.State.{State}
use Rattle.captions.specs.declared.RunOptions.{RunOptions}
use Rattle.captions.specs.declared.Step.{Step}
use Rattle.captions.specs.Begin.{edges_refusal, word_refusal}
use Rattle.captions.specs.Steps.{refused, or_boundary, right_item, ran_from, step_refusal, hand_back, stepped_by, step_of}

-- ---- the right item, by the bits of the override and of the boundary character
pub right_over : (b : ℤ) {z : ℤ} {w : ℕ} → Word z w → w < 2 ^ 31 → or_boundary (number_of w) ≡ right_item b z
right_over b {w = w} r h = rw (number_pos w h, read_pos r h)

pub right_boundary : {b z : ℤ} {v w : ℕ} → Word z w → 2 ^ 31 ≤ w → Word b v → or_boundary (number_of v) ≡ right_item b z
right_boundary r h q = rw (number_is q, read_neg r h)

-- ---- the answer

module _ (pairs ops : List ℤ) (boundary : ℤ) (word : List ℕ) (options : RunOptions) (s : State) where
  -- a refusal that is not 0
  step_refused : (n : ℕ) → n ≡ step_refusal boundary word options → (n ≡ 0 → ⊥) → refused n s ≡ step_of pairs ops boundary word options s
  step_refused zero e h = absurd (h refl)
  step_refused (suc n) e h = ap (λ (k : ℕ). stepped_by k s (ran_from pairs ops (right_item boundary options.right_boundary_override) word s)) e

  module _ (f : SFits w32 boundary) (q : ℕ) (e : q ≡ edges_refusal (number_of (word_of boundary)) options) where
    -- a boundary character that is passed as its bits
    edges : q ≡ edges_refusal boundary options
    edges = e ∙ ap (λ (z : ℤ). edges_refusal z options) (number_word boundary f)

    pub refused_edges : (q ≡ 0 → ⊥) → refused q s ≡ step_of pairs ops boundary word options s
    refused_edges h = step_refused q (edges ∙ sym (first_is (edges_refusal boundary options) (word_refusal word) (λ z. h (edges ∙ z)))) h

    module _ (z : q ≡ 0) (r : ℕ) (g : r ≡ word_refusal word) where
      only-word : r ≡ step_refusal boundary word options
      only-word = g ∙ sym (second_is (edges_refusal boundary options) (word_refusal word) (sym edges ∙ z))

      pub refused_word : (r ≡ 0 → ⊥) → refused r s ≡ step_of pairs ops boundary word options s
      refused_word h = step_refused r only-word h

      pub step_given : (o : Option ℕ) (t : Step) → r ≡ 0 → o ≡ right_item boundary options.right_boundary_override → t ≡ ran_from pairs ops o word s →
          hand_back s t.state t.answer ≡ step_of pairs ops boundary word options s
      step_given o t y p h =
          ap (λ (u : Step). hand_back s u.state u.answer) (h ∙ ap (λ (i : Option ℕ). ran_from pairs ops i word s) p)
          ∙ ap (λ (k : ℕ). stepped_by k s (ran_from pairs ops (right_item boundary options.right_boundary_override) word s)) (sym y ∙ only-word)
