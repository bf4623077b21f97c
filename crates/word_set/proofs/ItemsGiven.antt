-- Items that steps gave one after the other, as word_plain_letters/specs/PlainLetters has them: where the run then stands.
-- Assumes nothing.
use mathlib.Core.Path.{◌≡◌, refl, subst}
use mathlib.Core.Bool.{Bool, true, false}
use mathlib.Core.List.{List}
use Prim.Native.Nat.{ℕ, suc, ◌+◌, ◌*◌}
use native.Mathlib.Omega.{arith}
use lib.IntN.{ℤ}
use lib.Seq.{sets}
use Rattle.captions.specs.declared.State.{State}
use Rattle.captions.specs.declared.Answer.{Answer}
use Rattle.captions.specs.declared.Answer.TheVariants.{Char, Ligature, Kern, End, Refused}
use Rattle.captions.specs.declared.Step.{Step}
use Rattle.captions.specs.Replies.{answer_reply}
use Rattle.word_plain_letters.specs.PlainLetters.{is_given, GivesItems, nothing, more}
use Rattle.word_items.specs.ItemLists.{is_item}
use Rattle.word_items.proofs.Laws.{no}
use Rattle.word_set.proofs.Standing.{Standing, standing_more}

-- a character or a kern is an item
given_item : (a : Answer) → is_given a ≡ true → is_item a ≡ true
given_item (Char c p) h = refl
given_item (Ligature c p n a b) h = no h
given_item (Kern k) h = refl
given_item End h = no h
given_item (Refused n) h = no h

module _ (step : State → Step) (s₀ : State) (d₀ d : List ℤ) (s : State) (k : ℕ) (i : Standing step s₀ d₀ d s k) where
  pub standing_items : {s' : State} {c : ℕ} {d' : List ℤ} → GivesItems step s d k s' c d' → Standing step s₀ d₀ d' s' (k + c)
  standing_items nothing = let e : k ≡ k + 0 = omega arith in subst (Standing step s₀ d₀ d s) e i
  standing_items (more {u} {m} {d = x} g h l) =
      let e : k + m + 1 ≡ k + suc m = omega arith in
      let d' = sets x (6 * (k + m)) (answer_reply (step u).answer).values in
      subst (Standing step s₀ d₀ d' (step u).state) e
      (standing_more step s₀ d₀ x u (k + m) (standing_items g) (step u) refl (given_item (step u).answer h) l d' refl)
