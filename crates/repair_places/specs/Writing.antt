-- The repaired program and its passthrough, written once the number is known (R255, R252).
use Rattle.std.specs.Prelude.{◌≡◌, List, ℕ, ℤ, pos, length, replicate}
use Rattle.std.proofs.lemmas.List.Edits.{sets}
use Rattle.repair_loops.specs.WarnsLoops.{if_taken}

-- by the number: what is written over zeros, as far as a list of n places goes, or zeros alone
abbrev pub over_zeros {ℓ} : {A : Type ℓ} → ℕ → A → ℕ → List A → List A
over_zeros number o n xs = if_taken number (sets (replicate n o) 0 xs) (replicate n o)

-- the program and its passthrough, each in its list
pub record WritesRepaired (number : ℕ) (program : List ℤ) (passed : List ℕ) (fixed : List ℤ) (through : List ℕ) (fixed' : List ℤ)
    (through' : List ℕ) : Type 0 where
  pub instructions : fixed' ≡ over_zeros number (pos 0) (length fixed) program
  pub passthrough : through' ≡ over_zeros number 0 (length through) passed
