-- The number of a word set whole is at most 20, and it has six numbers an item.
-- Assumes nothing.
use mathlib.Core.Path.{◌≡◌, refl}
use mathlib.Core.List.{List, [], ◌++◌}
use Prim.Native.Nat.{ℕ, zero, suc, ◌%◌, ◌≤◌}
use native.Mathlib.Omega.{arith}
use lib.IntN.{ℤ}
use lib.ListN.{length}
use Rattle.lang.specs.Answers.{Reply, reply_of}
use Rattle.captions.specs.declared.RunOptions.{RunOptions}
use Rattle.captions.specs.declared.State.{State}
use Rattle.captions.specs.declared.Answer.{Answer}
use Rattle.captions.specs.declared.Answer.TheVariants.{Char, Ligature, Kern, End, Refused}
use Rattle.captions.specs.Replies.{answer_reply}
use Rattle.captions.specs.Steps.{step_of}
use Rattle.word_items.specs.ItemLists.{Small}
use Rattle.word_set.specs.Setting.{and_then, items_by, items_from}
use Rattle.word_set.proofs.Bounds.{step_small}

same : (n : ℕ) (vs : List ℤ) → n ≤ 20 → (reply_of n vs).number ≤ 20
same zero vs l = l
same (suc n) vs l = l

then_few : (a : Answer) (r : Reply) → Small a → r.number ≤ 20 → (and_then a r).number ≤ 20
then_few (Char c p) r m l = same r.number _ l
then_few (Ligature c p n a b) r m l = same r.number _ l
then_few (Kern k) r m l = same r.number _ l
then_few End r m l = omega arith
then_few (Refused k) r m l = omega (arith, m)

sixes : (n : ℕ) (vs : List ℤ) → length vs % 6 ≡ 0 → length (reply_of n vs).values % 6 ≡ 0
sixes zero vs h = h
sixes (suc n) vs h = refl

then_sixes : (a : Answer) (r : Reply) → length r.values % 6 ≡ 0 → length (and_then a r).values % 6 ≡ 0
then_sixes (Char c p) r h = sixes r.number ((answer_reply (Char c p)).values ++ r.values) (omega (arith, h))
then_sixes (Ligature c p n a b) r h = sixes r.number ((answer_reply (Ligature c p n a b)).values ++ r.values) (omega (arith, h))
then_sixes (Kern k) r h = sixes r.number ((answer_reply (Kern k)).values ++ r.values) (omega (arith, h))
then_sixes End r h = refl
then_sixes (Refused k) r h = refl

module _ (pairs ops : List ℤ) (boundary : ℤ) (word : List ℕ) (options : RunOptions) where
  pub items_few : (n : ℕ) (s : State) → (items_from pairs ops boundary word options n s).number ≤ 20
  unfolding items_by
  items_few zero s = then_few (step_of pairs ops boundary word options s).answer (reply_of 15 []) (step_small pairs ops boundary word options s) (omega arith)
  items_few (suc n) s =
      then_few (step_of pairs ops boundary word options s).answer
      (items_from pairs ops boundary word options n (step_of pairs ops boundary word options s).state)
      (step_small pairs ops boundary word options s) (items_few n (step_of pairs ops boundary word options s).state)

  pub items_sixes : (n : ℕ) (s : State) → length (items_from pairs ops boundary word options n s).values % 6 ≡ 0
  unfolding items_by
  items_sixes zero s = then_sixes (step_of pairs ops boundary word options s).answer (reply_of 15 []) refl
  items_sixes (suc n) s =
      then_sixes (step_of pairs ops boundary word options s).answer
      (items_from pairs ops boundary word options n (step_of pairs ops boundary word options s).state)
      (items_sixes n (step_of pairs ops boundary word options s).state)
