-- What the quick path is for: where its tests hold, it gives the step of captions/specs/Steps. Proved in proofs/Theorems.
use Rattle.std.specs.Prelude.{◌≡◌, true, List, ℕ, suc, ℤ}
use Rattle.std.proofs.Math.Option.{none, some}
use Rattle.captions.specs.declared.RunOptions.{RunOptions}
use Rattle.captions.specs.declared.State.{State}
use Rattle.captions.specs.Tables.{key_by, find}
use Rattle.captions.specs.Steps.{step_of}
use Rattle.step_quick.specs.Quick.{plain_code, next_letter, is_quick, is_kern, found_place, is_entered, is_ready, given_plain, given_first}
use Rattle.step_quick.specs.Quick.{quick_step, given_kern}

-- a character that has no entry with the letter is given as it stands
abbrev pub QuickPasses : Type 0
QuickPasses =
    (pairs ops : List ℤ) (boundary : ℤ) (word : List ℕ) (options : RunOptions) (s : State) →
    is_quick ops boundary word options s ≡ true →
    find pairs (key_by (suc (plain_code s.next_left)) (next_letter word s)) ≡ none →
    step_of pairs ops boundary word options s ≡ given_plain word s

-- one that has an entry which begins with a character gives that
abbrev pub QuickEnters : Type 0
QuickEnters =
    (pairs ops : List ℤ) (boundary : ℤ) (word : List ℕ) (options : RunOptions) (s : State) (k : ℕ) →
    is_quick ops boundary word options s ≡ true →
    find pairs (key_by (suc (plain_code s.next_left)) (next_letter word s)) ≡ some k →
    is_entered pairs ops k ≡ true → step_of pairs ops boundary word options s ≡ given_first pairs ops k s

-- both, by the place that was found
abbrev pub QuickSteps : Type 0
QuickSteps =
    (pairs ops : List ℤ) (boundary : ℤ) (word : List ℕ) (options : RunOptions) (s : State) (k : ℕ) →
    is_quick ops boundary word options s ≡ true →
    k ≡ found_place pairs (suc (plain_code s.next_left)) (next_letter word s) →
    is_ready pairs ops k ≡ true → step_of pairs ops boundary word options s ≡ quick_step pairs ops word k s

-- a last kern is given
abbrev pub QuickKerns : Type 0
QuickKerns =
    (pairs ops : List ℤ) (boundary : ℤ) (word : List ℕ) (options : RunOptions) (s : State) →
    is_kern ops boundary word options s ≡ true → step_of pairs ops boundary word options s ≡ given_kern ops s
