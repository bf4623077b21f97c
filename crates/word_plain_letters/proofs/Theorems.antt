-- The run's step keeps the laws of specs/Purpose. Assumes nothing.
use Rattle.std.proofs.Common.{◌≡◌, ℕ, ◌<◌, List, ℤ, refl, ◌∙◌, arith}
use mathlib.Core.Option.{Option, none, some}
use Rattle.captions.specs.Tables.{pair_count, key_by, find}
use Rattle.captions.proofs.Finding.{find_inside}
use Rattle.step_quick.specs.Quick.{next_letter, place_or}
use Rattle.step_quick.proofs.Theorems.{quick_passes, quick_enters, quick_kerns}
use Rattle.word_plain_letters.specs.PlainLetters.{plain_left}
use Rattle.word_plain_letters.specs.Purpose.{StepGoesQuickly}

-- no entry
place_none : (pairs : List ℤ) (w : ℕ) (o : Option ℕ) → find pairs w ≡ o → place_or (pair_count pairs) o ≡ pair_count pairs → find pairs w ≡ none
place_none pairs w none e h = e
place_none pairs w (some k) e h = absurd (omega (arith, (find_inside pairs w k e).0, h))

-- an entry
place_some : (pairs : List ℤ) (w k : ℕ) (o : Option ℕ) → find pairs w ≡ o → place_or (pair_count pairs) o ≡ k → k < pair_count pairs → find pairs w ≡ some k
place_some pairs w k none e h l = absurd (omega (arith, h, l))
place_some pairs w k (some j) e h l = e ∙ (λ i. some (h i))

pub step_goes_quickly : StepGoesQuickly
step_goes_quickly pairs ops boundary word options =
    record {
      plain = λ s q e. quick_passes pairs ops boundary word options s q
          (place_none pairs (key_by (plain_left s) (next_letter word s)) (find pairs (key_by (plain_left s) (next_letter word s))) refl e);
      first = λ s k q e l r. quick_enters pairs ops boundary word options s k q
          (place_some pairs (key_by (plain_left s) (next_letter word s)) k (find pairs (key_by (plain_left s) (next_letter word s))) refl e l) r;
      kern = λ s h. quick_kerns pairs ops boundary word options s h;
    }
