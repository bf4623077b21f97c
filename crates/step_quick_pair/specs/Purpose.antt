-- What a kern pair is for (R417): from a quick state, between its two items a last kern is next, which is given at once; and after them the
-- state is quick again, where another letter in range comes next. Proved in proofs/Theorems.
use Rattle.std.specs.Prelude.{◌≡◌, true, List, ℕ, suc, ◌<◌, ℤ, leb, length, get_or}
use Rattle.captions.specs.declared.RunOptions.{RunOptions}
use Rattle.captions.specs.declared.State.{State}
use Rattle.step_quick.specs.Quick.{is_quick, is_kern}
use Rattle.step_quick_pair.specs.KernPairs.{is_kern_pair, amid_pair, after_pair}

-- a last kern is next
abbrev pub PairKerns : Type 0
PairKerns =
    (pairs ops : List ℤ) (boundary : ℤ) (word : List ℕ) (options : RunOptions) (s : State) (k : ℕ) →
    is_quick ops boundary word options s ≡ true → is_kern_pair pairs ops k ≡ true →
    is_kern ops boundary word options (amid_pair pairs ops k s) ≡ true

-- the state after both is quick
abbrev pub PairMoves : Type 0
PairMoves =
    (pairs ops : List ℤ) (boundary : ℤ) (word : List ℕ) (options : RunOptions) (s : State) (k : ℕ) →
    is_quick ops boundary word options s ≡ true → is_kern_pair pairs ops k ≡ true →
    suc s.read < length word → leb (get_or word (suc s.read) 0) 255 ≡ true →
    is_quick ops boundary word options (after_pair pairs ops k s) ≡ true
