-- A step by an index keeps the laws of a loop over letters: specs/IndexedLetters. Assumes nothing.
use mathlib.Core.Path.{◌≡◌, refl, ap, ◌∙◌}
use mathlib.Core.Bool.{Bool, true, false, cond}
use mathlib.Core.List.{List}
use Prim.Native.Nat.{ℕ, suc, ◌<◌}
use native.Mathlib.Omega.{arith}
use lib.IntN.{ℤ}
use lib.Dec.{eqb}
use borrow.Author.Tests.{eqb-true}
use Rattle.lang.proofs.Every.{both_left}
use Rattle.captions.specs.declared.RunOptions.{RunOptions}
use Rattle.captions.specs.declared.State.{State}
use Rattle.captions.specs.declared.Step.{Step}
use Rattle.captions.specs.Tables.{pair_count}
use Rattle.captions.specs.Steps.{step_of}
use Rattle.step_quick.specs.Quick.{plain_code, next_letter, is_quick, is_kern, is_entered, given_plain, given_first, given_kern}
use Rattle.step_quick.proofs.Theorems.{quick_is, quick_kerns}
use Rattle.index.specs.declared.Looked.{Looked}
use Rattle.index.specs.declared.Looked.TheVariants.{Missing, At, Wrong}
use Rattle.index.specs.Index.{looked_up, looked_place}
use Rattle.index.proofs.Looking.{looked_inside}
use Rattle.index_step.specs.Indexed.{looked_step, indexed_step_of}
use Rattle.index_plain_letters.specs.IndexedLetters.{IndexGoesQuickly}

module _ (index : List ℕ) (pairs ops : List ℤ) (boundary : ℤ) (word : List ℕ) (options : RunOptions) (s : State) where
  abbrev l : ℕ
  l = suc (plain_code s.next_left)

  abbrev y : ℕ
  y = next_letter word s

  abbrev looked : Looked → Step
  looked o = looked_step pairs ops boundary word options s o

  by_look : is_quick ops boundary word options s ≡ true → indexed_step_of index pairs ops boundary word options s ≡ looked (looked_up index pairs l y)
  by_look q = ap (λ (b : Bool). cond b (looked (looked_up index pairs l y)) (step_of pairs ops boundary word options s)) q

  plain_by : (o : Looked) → looked_up index pairs l y ≡ o → looked_place (pair_count pairs) o ≡ pair_count pairs → looked o ≡ given_plain word s
  plain_by Missing e h = refl
  plain_by (At k) e h = absurd (omega (arith, looked_inside index pairs l y k e, h))
  plain_by Wrong e h = absurd (omega (arith, h))

  first_by : (k : ℕ) → k < pair_count pairs → is_entered pairs ops k ≡ true → (o : Looked) → looked_place (pair_count pairs) o ≡ k →
      looked o ≡ given_first pairs ops k s
  first_by k i r Missing h = absurd (omega (arith, i, h))
  first_by k i r (At j) h =
      ap (λ (x : ℕ). cond (is_entered pairs ops x) (given_first pairs ops x s) (step_of pairs ops boundary word options s)) h
      ∙ ap (λ (b : Bool). cond b (given_first pairs ops k s) (step_of pairs ops boundary word options s)) r
  first_by k i r Wrong h = absurd (omega (arith, i, h))

  -- between the items of a pair the state is not quick
  other_by : (b : Bool) → is_quick ops boundary word options s ≡ b → s.ops ≡ 1 →
      cond b (looked (looked_up index pairs l y)) (step_of pairs ops boundary word options s) ≡ step_of pairs ops boundary word options s
  other_by true e o = absurd (omega (arith, (quick_is ops boundary word options s e).none, o))
  other_by false e o = refl

  kern_is : is_kern ops boundary word options s ≡ true → indexed_step_of index pairs ops boundary word options s ≡ given_kern ops s
  kern_is h =
      other_by (is_quick ops boundary word options s) refl (eqb-true s.ops 1 (both_left (eqb s.ops 1) _ h))
      ∙ quick_kerns pairs ops boundary word options s h

pub index_goes_quickly : IndexGoesQuickly
index_goes_quickly index pairs ops boundary word options =
    record {
      plain = λ s q e. by_look index pairs ops boundary word options s q
          ∙ plain_by index pairs ops boundary word options s (looked_up index pairs (l index pairs ops boundary word options s)
          (y index pairs ops boundary word options s)) refl e;
      first = λ s k q e i r. by_look index pairs ops boundary word options s q
          ∙ first_by index pairs ops boundary word options s k i r (looked_up index pairs (l index pairs ops boundary word options s)
          (y index pairs ops boundary word options s)) e;
      kern = λ s h. kern_is index pairs ops boundary word options s h;
    }
