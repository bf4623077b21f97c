-- The repaired program has as many steps as the one that was lent, and number j of its step i is number j of `repairedStep`.
-- Assumes nothing.
use mathlib.Core.Path.{◌≡◌, refl, sym, ap, ◌∙◌}
use mathlib.Core.List.{List, ◌++◌}
use Prim.Native.Nat.{ℕ, zero, suc, ◌+◌, ◌*◌, ◌<◌}
use native.Mathlib.Omega.{arith}
use lib.IntN.{ℤ, pos}
use lib.ListN.{length, get_or, length-append, get_or-append}
use lib.Seq.{get_or-append-add}
use borrow.Author.Count.{below_more}
use borrow.Author.Tests.{lt-ltb}
use Rattle.lang.specs.Records.{count, field}
use Rattle.repairs.specs.Damaged.{Damaged, DamagedProgram, program_of}
use Rattle.repairs.specs.Repaired.{repaired_step, repaired_upto, repaired_instructions}

pub length_upto : (p : DamagedProgram) (k : ℕ) → length (repaired_upto p k) ≡ 4 * k
unfolding repaired_upto
length_upto p zero = refl
length_upto p (suc k) = length-append (repaired_upto p k) (repaired_step p k) ∙ omega (arith, length_upto p k)

pub step_number_lem : (p : DamagedProgram) (k i j : ℕ) → i < k → j < 4 → get_or (repaired_upto p k) (4 * i + j) (pos 0) ≡ get_or (repaired_step p i) j (pos 0)
unfolding repaired_upto
step_number_lem p zero i j h l = absurd (omega arith)
step_number_lem p (suc k) i j h l =
    below_more (λ (i : ℕ). get_or (repaired_upto p k ++ repaired_step p k) (4 * i + j) (pos 0) ≡ get_or (repaired_step p i) j (pos 0)) k
    (λ i g. get_or-append (repaired_upto p k) (repaired_step p k) (pos 0) (4 * i + j) (omega (arith, length_upto p k)) ∙ step_number_lem p k i j g l)
    (ap (λ (n : ℕ). get_or (repaired_upto p k ++ repaired_step p k) (n + j) (pos 0)) (sym (length_upto p k))
    ∙ get_or-append-add (repaired_upto p k) (repaired_step p k) j (pos 0))
    i (omega arith)

pub same_count : (d : Damaged) → count (repaired_instructions d) ≡ count d.instructions
same_count d = omega (arith, length_upto (program_of d) (count d.instructions))

-- a number of an instruction of any program
pub field_below : (s : List ℤ) (i j : ℕ) → i < count s → field s i j ≡ get_or s (4 * i + j) (pos 0)
field_below s i j h = rw (lt-ltb i (count s) h)

pub field_repaired : (d : Damaged) (i j : ℕ) → i < count d.instructions → j < 4 →
    field (repaired_instructions d) i j ≡ get_or (repaired_step (program_of d) i) j (pos 0)
field_repaired d i j h l =
    field_below (repaired_instructions d) i j (omega (arith, same_count d)) ∙ step_number_lem (program_of d) (count d.instructions) i j h l
