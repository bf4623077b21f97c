-- A step told into both lists: refused, or taken.
-- Assumes nothing.
use mathlib.Core.Path.{◌≡◌, refl, sym, ap, ◌∙◌}
use mathlib.Core.List.{List}
use Prim.Native.Nat.{ℕ, zero, suc, ◌≤◌}
use native.Mathlib.Omega.{arith}
use lib.IntN.{ℤ, pos}
use lib.Dec.{leb}
use lib.ListN.{length, replicate}
use lib.Seq.{sets}
use borrow.Author.Tests.{leb-true}
use Rattle.lang.specs.Checks.{lower}
use Rattle.lang.specs.Answers.{room_refusal}
use Rattle.lang.proofs.Refusals.{unless_none, room_is, lower_none}
use Rattle.lang.proofs.Filled.{refused_list}
use Rattle.captions.specs.declared.Answer.{Answer}
use Rattle.captions.specs.declared.Answer.TheVariants.{Char, Ligature, Kern, End, Refused}
use Rattle.captions.specs.Replies.{answer_reply}
use Rattle.c_states.proofs.Writing.{zeroed_length, written_front_lem}
use Rattle.c_steps.specs.Step.{item_numbers}
use Rattle.font_runs.specs.declared.FontRun.{FontRun}
use Rattle.font_runs.specs.declared.FontStep.{FontStep}
use Rattle.c_font_runs.specs.RunLists.{run_moved, PutsRun}
use Rattle.c_font_step_any.specs.FontSteps.{font_step_number, TellsStep}

item_few : (a : Answer) → length (item_numbers a) ≤ 7
item_few (Char c p) = omega arith
item_few (Ligature c p n a b) = omega arith
item_few (Kern k) = omega arith
item_few End = omega arith
item_few (Refused n) = omega arith

pub stays : (ns : List ℕ) (n : ℕ) (run : FontRun) → (n ≡ 0 → ⊥) → ns ≡ run_moved n ns run
stays ns zero run h = absurd (h refl)
stays ns (suc n) run h = refl

module _ (t : FontStep) (ns : List ℕ) (item zeros : List ℤ) (blank : zeros ≡ replicate (length item) (pos 0)) {n m r : ℕ}
    (answered : n ≡ (answer_reply t.answer).number) (room : m ≡ room_refusal 7 (length zeros)) (lowest : r ≡ lower n m) where
  number : r ≡ font_step_number t (length item)
  number = lowest ∙ (λ j. lower (answered j) ((room ∙ ap (room_refusal 7) (zeroed_length (pos 0) (length item) blank)) j))

  pub step_refused : (r ≡ 0 → ⊥) → TellsStep t ns item r ns zeros
  step_refused h =
      record {
        number = number;
        moved = stays ns (font_step_number t (length item)) t.run (λ z. h (number ∙ z));
        told = refused_list (pos 0) (length item) (item_numbers t.answer) number h blank;
      }

  module _ (z : r ≡ 0) where
    none : (n ≡ 0) × (m ≡ 0)
    none = lower_none n m (sym lowest ∙ z)

    pub has_room : 7 ≤ length zeros
    has_room = leb-true 7 (length zeros) (unless_none 14 (leb 7 (length zeros)) (sym room ∙ none.1))

    pub step_answered : (answer_reply t.answer).number ≡ 0
    step_answered = sym answered ∙ none.0

    pub step_taken : 12 ≤ length ns → {item' : List ℤ} → item' ≡ sets zeros 0 (item_numbers t.answer) → {k : ℕ} {ns' : List ℕ} →
        PutsRun t.run ns k ns' → TellsStep t ns item k ns' item'
    step_taken long i p =
        let l : length zeros ≡ length item = zeroed_length (pos 0) (length item) blank in
        let u : font_step_number t (length item) ≡ 0 = sym number ∙ z in
        let y = room_is 12 (length ns) long in
        record {
          number = p.number ∙ y ∙ sym u;
          moved = p.stored ∙ ap (λ (e : ℕ). run_moved e ns t.run) (y ∙ sym u);
          told = written_front_lem (pos 0) (length item) (item_numbers t.answer) u blank (omega (arith, l, has_room, item_few t.answer)) i;
        }
