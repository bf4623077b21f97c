-- Any number of steps, each handed the state that the last returned (R16), and what they answer by kind and by code or scaled kern (R22):
-- what demand 3 speaks of.
use Rattle.std.specs.Prelude.{List, [], ◌∷◌, ℕ, zero, suc, ℤ}
use Rattle.reading.specs.Items.{plain, inserted, Out, glyph, kern}
use Rattle.captions.specs.declared.RunOptions.{RunOptions}
use Rattle.captions.specs.declared.State.{State}
use Rattle.captions.specs.declared.Answer.{Answer}
use Rattle.captions.specs.declared.Answer.TheVariants.{Char, Ligature, Kern, End, Refused}
use Rattle.captions.specs.Steps.{step_of}

-- the answers of n steps
unfoldable pub answers : List ℤ → List ℤ → ℤ → List ℕ → RunOptions → ℕ → State → List Answer
answers pairs ops boundary word options zero s = []
answers pairs ops boundary word options (suc n) s =
    (step_of pairs ops boundary word options s).answer
    ∷ answers pairs ops boundary word options n (step_of pairs ops boundary word options s).state

-- an answer by kind and by code or scaled kern
pub data Shown : Type 0 where
  shows : Out → Shown
  ends : Shown
  refuses : ℕ → Shown

-- what is shown of an answer: the item without its original, the end, or a refusal's number
abbrev pub shown : Answer → Shown
shown (Char c p) = shows (glyph (plain c))
shown (Ligature c p n a b) = shows (glyph (inserted c))
shown (Kern k) = shows (kern k)
shown End = ends
shown (Refused n) = refuses n

-- the first n of a list's items, and then the end for ever
unfoldable pub then_ends : ℕ → List Out → List Shown
then_ends zero os = []
then_ends (suc n) [] = ends ∷ then_ends n []
then_ends (suc n) (o ∷ os) = shows o ∷ then_ends n os
