-- The answers of the code, by the tests that lead to them.
-- Assumes nothing.
use mathlib.Core.Path.{◌≡◌, refl, sym, ap, ap₂, ◌∙◌}
use mathlib.Core.Bool.{Bool, true, false, cond}
use mathlib.Core.List.{List}
use Prim.Native.Nat.{ℕ, suc}
use native.Mathlib.Omega.{arith}
use lib.IntN.{ℤ}
use lib.Dec.{leb, eqb, ltb}
use borrow.Author.Tests.{lt-ltb, le-ltb}
use Rattle.lang.specs.Every.{both}
use Rattle.lang.proofs.Every.{both_left, both_right}
use Rattle.captions.specs.declared.RunOptions.{RunOptions}
use Rattle.captions.specs.declared.State.{State}
use Rattle.captions.specs.declared.Step.{Step}
use Rattle.captions.specs.Replies.{answer_reply, is_end}
use Rattle.captions.specs.Tables.{pair_count}
use Rattle.captions.specs.Steps.{refused, step_of}
use Rattle.captions.proofs.Replies.{answer_determined}
use Rattle.step_quick.specs.Quick.{plain_code, next_letter, is_plain, has_letter, is_quick, quick_left, is_entered, is_ready, given_plain, given_first, quick_step}
use Rattle.index.specs.declared.Looked.{Looked}
use Rattle.index.specs.declared.Looked.TheVariants.{Missing, At, Wrong}
use Rattle.index.specs.Index.{looked_up}
use Rattle.index.proofs.Looking.{looked_inside}
use Rattle.index_step.specs.Indexed.{looked_step, indexed_step_of, IndexedStepped}

module _ (index : List ℕ) (pairs ops : List ℤ) (boundary : ℤ) (word : List ℕ) (options : RunOptions) (s : State) where
  pub answered_as : {r : Step} → r ≡ indexed_step_of index pairs ops boundary word options s → IndexedStepped index pairs ops boundary word options s r
  answered_as e =
      record { reply = ap (λ (t : Step). answer_reply t.answer) e; ends = ap (λ (t : Step). is_end t.answer) e; state = ap (λ (t : Step). t.state) e }

  -- what meets the contract is the step of the definition
  pub answered_is : {r : Step} → IndexedStepped index pairs ops boundary word options s r → r ≡ indexed_step_of index pairs ops boundary word options s
  answered_is {r} h i =
      record
      { answer = answer_determined r.answer (indexed_step_of index pairs ops boundary word options s).answer h.reply h.ends i; state = h.state i }

  -- a state that is not quick
  pub other_is : {l : ℕ} {t : Step} → l ≡ quick_left ops boundary word options s → l ≡ 0 → t ≡ step_of pairs ops boundary word options s →
      t ≡ indexed_step_of index pairs ops boundary word options s
  other_is {l} {t} e z h = go (is_quick ops boundary word options s) (sym e ∙ z)
    where
      go : (b : Bool) → cond b (suc (plain_code s.next_left)) 0 ≡ 0 →
          t ≡ cond b (looked_step pairs ops boundary word options s (looked_up index pairs (suc (plain_code s.next_left)) (next_letter word s)))
          (step_of pairs ops boundary word options s)
      go true f = absurd (omega arith)
      go false f = h

  -- a quick state: its left, its letter, and what the index says of them
  module _ {l y : ℕ} (ls : l ≡ quick_left ops boundary word options s) (h : l ≡ 0 → ⊥) (ys : y ≡ next_letter word s) {o : Looked}
      (os : o ≡ looked_up index pairs l y) where
    quick-by : (b : Bool) → l ≡ cond b (suc (plain_code s.next_left)) 0 → (b ≡ true) × (l ≡ suc (plain_code s.next_left))
    quick-by true e = (refl, e)
    quick-by false e = absurd (h e)

    is_quick_lem : is_quick ops boundary word options s ≡ true
    is_quick_lem = (quick-by (is_quick ops boundary word options s) ls).0

    letter : has_letter word s ≡ true
    letter =
        both_left (has_letter word s) (both (leb (next_letter word s) 255) (is_plain ops boundary word options s))
        (both_right (eqb s.ops 0) (both (has_letter word s) (both (leb (next_letter word s) 255) (is_plain ops boundary word options s))) is_quick_lem)

    by_look : looked_step pairs ops boundary word options s o ≡ indexed_step_of index pairs ops boundary word options s
    by_look =
        ap (looked_step pairs ops boundary word options s) (os ∙ ap₂ (looked_up index pairs) (quick-by (is_quick ops boundary word options s) ls).1 ys)
        ∙ sym (ap (λ (b : Bool). cond b
        (looked_step pairs ops boundary word options s (looked_up index pairs (suc (plain_code s.next_left)) (next_letter word s)))
        (step_of pairs ops boundary word options s)) is_quick_lem)

    plain-given : quick_step pairs ops word (pair_count pairs) s ≡ given_plain word s
    plain-given = rw (letter, le-ltb (pair_count pairs) (pair_count pairs) (omega arith))

    pub missing_is : o ≡ Missing → {t : Step} → t ≡ quick_step pairs ops word (pair_count pairs) s → t ≡ indexed_step_of index pairs ops boundary word options s
    missing_is e g = g ∙ plain-given ∙ ap (looked_step pairs ops boundary word options s) (sym e) ∙ by_look

    pub wrong_is : o ≡ Wrong → refused 7 s ≡ indexed_step_of index pairs ops boundary word options s
    wrong_is e = ap (looked_step pairs ops boundary word options s) (sym e) ∙ by_look

    -- the pair is at k
    module _ (k : ℕ) (e : o ≡ At k) {b : Bool} (bs : b ≡ is_ready pairs ops k) where
      inside : ltb k (pair_count pairs) ≡ true
      inside = lt-ltb k (pair_count pairs) (looked_inside index pairs l y k (sym os ∙ e))

      entered : b ≡ is_entered pairs ops k
      entered = bs ∙ ap (λ (t : Bool). cond t (is_entered pairs ops k) true) inside

      first-given : quick_step pairs ops word k s ≡ given_first pairs ops k s
      first-given = rw (letter, inside)

      pub first_is : b ≡ true → {t : Step} → t ≡ quick_step pairs ops word k s → t ≡ indexed_step_of index pairs ops boundary word options s
      first_is z g =
          g ∙ first-given ∙ ap (λ (t : Bool). cond t (given_first pairs ops k s) (step_of pairs ops boundary word options s)) (sym z ∙ entered)
          ∙ ap (looked_step pairs ops boundary word options s) (sym e) ∙ by_look

      pub later_is : b ≡ false → {t : Step} → t ≡ step_of pairs ops boundary word options s → t ≡ indexed_step_of index pairs ops boundary word options s
      later_is z g =
          g ∙ ap (λ (t : Bool). cond t (given_first pairs ops k s) (step_of pairs ops boundary word options s)) (sym z ∙ entered)
          ∙ ap (looked_step pairs ops boundary word options s) (sym e) ∙ by_look
