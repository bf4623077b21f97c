-- What keeps an item's numbers i32: a code is a character's, and a start and a length are within the longest word.
-- Assumes nothing.
use mathlib.Core.Path.{◌≡◌, refl}
use mathlib.Core.Bool.{Bool, true, false, cond}
use mathlib.Core.List.{List}
use Prim.Native.Nat.{ℕ, suc, ◌≤◌}
use native.Mathlib.Omega.{arith}
use lib.IntN.{ℤ}
use lib.Dec.{ltb, eqb}
use borrow.Author.Tests.{eqb-true}
use Rattle.words.specs.Words.{word_of}
use Rattle.lang.specs.Records.{within}
use Rattle.lang.proofs.Every.{both_left, both_right}
use Rattle.lang.proofs.Records.{within_bound}
use Rattle.captions.specs.declared.RunOptions.{RunOptions}
use Rattle.captions.specs.declared.State.{State}
use Rattle.captions.specs.Tables.{op_kind, op_value, first_op, count_of, op_holds, record_fits}
use Rattle.captions.specs.Steps.{step_of}
use Rattle.word_items.specs.ItemLists.{Small}
use Rattle.word_set.proofs.Bounds.{step_small}
use Rattle.step_quick.specs.Quick.{plain_code, next_letter, is_quick, first_plain, is_entered, given_first}
use Rattle.word_plain_letters.proofs.Laws.{quick_short}
use Rattle.index.specs.declared.Looked.{Looked}
use Rattle.index.specs.declared.Looked.TheVariants.{Missing, At, Wrong}
use Rattle.index.specs.Index.{looked_up}
use Rattle.index_step.specs.Indexed.{looked_step, indexed_step_of}

-- an op that is a character holds its code
holds_code : (z v : ℤ) (t : Bool) → within 1 z ≡ t → word_of z ≡ 0 → cond t (within 255 v) (eqb (word_of z) 2) ≡ true → word_of v ≤ 255
holds_code z v true e k h = within_bound 255 v h
holds_code z v false e k h = absurd (omega (arith, eqb-true (word_of z) 2 h, k))

module _ (pairs ops : List ℤ) (boundary : ℤ) (word : List ℕ) (options : RunOptions) (s : State) where
  module _ (q : is_quick ops boundary word options s ≡ true) where
    entered_by : (k : ℕ) (t : Bool) → is_entered pairs ops k ≡ t → Small (cond t (given_first pairs ops k s) (step_of pairs ops boundary word options s)).answer
    entered_by k true e =
        let i = first_op pairs k in
        let r = both_right (ltb 0 (count_of pairs k)) _ (both_right (record_fits pairs ops k) (first_plain ops i (count_of pairs k)) e) in
        let z = eqb-true (word_of (op_kind ops i)) 0 (both_left (eqb (word_of (op_kind ops i)) 0) _ r) in
        let h = both_left (op_holds ops i) _ (both_right (eqb (word_of (op_kind ops i)) 0) _ r) in
        let b = holds_code (op_kind ops i) (op_value ops i) (within 1 (op_kind ops i)) refl z h in
        (omega (arith, b), (quick_short ops boundary word options s q).2)
    entered_by k false e = step_small pairs ops boundary word options s

    looked-small : (o : Looked) → Small (looked_step pairs ops boundary word options s o).answer
    looked-small Missing = let f = quick_short ops boundary word options s q in (omega (arith, f.1), f.2)
    looked-small (At k) = entered_by k (is_entered pairs ops k) refl
    looked-small Wrong = (omega arith, omega arith)

  small_by : (index : List ℕ) (t : Bool) → is_quick ops boundary word options s ≡ t →
      Small
      (cond t (looked_step pairs ops boundary word options s (looked_up index pairs (suc (plain_code s.next_left)) (next_letter word s)))
      (step_of pairs ops boundary word options s)).answer
  small_by index true q = looked-small q (looked_up index pairs (suc (plain_code s.next_left)) (next_letter word s))
  small_by index false q = step_small pairs ops boundary word options s

pub indexed_small : (index : List ℕ) (pairs ops : List ℤ) (boundary : ℤ) (word : List ℕ) (options : RunOptions) (s : State) →
    Small (indexed_step_of index pairs ops boundary word options s).answer
indexed_small index pairs ops boundary word options s = small_by pairs ops boundary word options s index (is_quick ops boundary word options s) refl
