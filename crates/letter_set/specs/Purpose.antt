-- What is proved of a set of characters: a letter is what repair takes for an existing character, and the letter that is found is the least
-- of those not below c. Proved: proofs/Theorems.
use Rattle.std.specs.Prelude.{◌≡◌, true, false, List, ℕ, ◌<◌, ◌≤◌}
use Rattle.std.proofs.Math.Option.{none, some}
use Rattle.repairs.specs.Damaged.{DamagedProgram}
use Rattle.repairs.specs.Repaired.{exists}
use Rattle.letter_set.specs.LetterSets.{letter_in, letter_from}

-- the existing characters of repair (R38) are such a set
abbrev pub SetAsExisting : Type 0
SetAsExisting = (p : DamagedProgram) (c : ℕ) → c < 256 → letter_in p.existing c ≡ exists p c

-- x is the least letter not below c
pub record LeastLetter (letters : List ℕ) (c x : ℕ) : Type 0 where
  pub in_set : letter_in letters x ≡ true
  pub not_below : c ≤ x
  pub no_less : (y : ℕ) → c ≤ y → letter_in letters y ≡ true → x ≤ y

-- what is found is it, and where nothing is found there is none
abbrev pub FindsLeast : Type 0
FindsLeast = (letters : List ℕ) (c x : ℕ) → letter_from letters c ≡ some x → LeastLetter letters c x

abbrev pub FindsNothing : Type 0
FindsNothing = (letters : List ℕ) (c : ℕ) → letter_from letters c ≡ none → (y : ℕ) → c ≤ y → letter_in letters y ≡ false
