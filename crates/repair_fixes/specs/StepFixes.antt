-- What the passes over the steps are held to: one step, by what is wrong with it, and how far they are.
use Rattle.std.specs.Prelude.{◌≡◌, List, ℕ, ◌+◌, ◌*◌, ◌≤◌, ℤ}
use Rattle.std.proofs.lemmas.List.Edits.{sets}
use Rattle.repairs.specs.declared.Faults.{Faults}
use Rattle.repairs.specs.Damaged.{DamagedProgram}
use Rattle.repairs.specs.Repaired.{faults_of, repaired_upto}
use Rattle.repairs.specs.Warnings.{steps_warnings}
use Rattle.repairs.specs.Pushed.{Pushed}

-- the program p has these instructions and this replacement, and f is what is wrong with its step i
pub record FaultsAt (p : DamagedProgram) (s : List ℤ) (replacement : ℕ) (f : Faults) (i : ℕ) : Type 0 where
  pub instructions : p.instructions ≡ s
  pub replaced : p.replacement ≡ replacement
  pub are : f ≡ faults_of p i

-- the warnings ws come after n others, and they are no more than `room`
pub record PushedUpTo (room : ℕ) (warnings : List ℤ) (n : ℕ) (ws warnings' : List ℤ) (r : ℕ) : Type 0 where
  pub pushed : Pushed warnings n ws warnings' r
  pub most : r ≤ n + room

-- k steps repaired, and their warnings after n others, five a step at most
pub record FixesUpto (p : DamagedProgram) (k n : ℕ) (fixed warnings : List ℤ) (r : ℕ) (fixed' warnings' : List ℤ) : Type 0 where
  pub instructions : fixed' ≡ sets fixed 0 (repaired_upto p k)
  pub warned : PushedUpTo (5 * k) warnings n (steps_warnings p k) warnings' r
