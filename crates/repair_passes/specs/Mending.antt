-- The passes of repair one after the other: the contract of `mend`, of every font. Crates `repair_ask` and `repair_commit` ask whether the
-- lists that they were lent are long enough, since that comes after 12 (R184).
use Rattle.std.specs.Prelude.{◌≡◌, List, [], ◌∷◌, ◌++◌, ℕ, ◌*◌, ◌/◌, ℤ, pos, eqb, length, replicate}
use Rattle.std.proofs.lemmas.List.Edits.{sets}
use Rattle.lang.specs.declared.Written.{Written}
use Rattle.lang.specs.declared.Written.TheVariants.{Count, Refused}
use Rattle.lang.specs.Every.{both}
use Rattle.lang.specs.Records.{count}
use Rattle.lang.specs.Checks.{unless, or_else}
use Rattle.lang.specs.Answers.{reply_of}
use Rattle.fonts.specs.Compiled.{loops_of_font}
use Rattle.repairs.specs.declared.Validated.{Validated}
use Rattle.repairs.specs.declared.Validated.TheVariants.{Fixed}
use Rattle.repairs.specs.declared.Validated.TheVariants as validated
use Rattle.repairs.specs.Damaged.{Damaged, repaired_left, repaired_passthrough}
use Rattle.repairs.specs.Repaired.{repaired_instructions, repaired_font}
use Rattle.repairs.specs.Warnings.{repair_warnings, loop_warnings, warnings_of}
use Rattle.repairs.specs.Repairs.{damaged_refusal, repaired_pairs_refusal, validated_reply}
use Rattle.repair_loops.specs.WarnsLoops.{if_taken}

-- the lists that are lent to be written, before or after
pub record MendLists : Type 0 where
  pub program : List ℤ
  pub through : List ℕ
  pub warnings : List ℤ
  pub work : List ℕ

-- the record of the four
abbrev pub mend_lists : List ℤ → List ℕ → List ℤ → List ℕ → MendLists
mend_lists program through warnings work = record { program = program; through = through; warnings = warnings; work = work }

-- before anything is done: 1 to 4, of the font; then 15 (R244), unless the first two lists have just the lengths that are written
abbrev pub lent_refusal : Damaged → MendLists → ℕ
lent_refusal d l =
    or_else (damaged_refusal d)
    (unless 15 (both (eqb (length l.program) (4 * count d.instructions)) (eqb (length l.through) (count d.instructions))))

-- these, and then 12 (R184), which is of the repaired program
abbrev pub mend_refusal : Damaged → MendLists → ℕ
mend_refusal d l = or_else (lent_refusal d l) (repaired_pairs_refusal d (length l.work))

-- kinds 1 to 9; and 10, unless the loops can't be looked for (12)
abbrev pub mend_warnings : Damaged → MendLists → List ℤ
mend_warnings d l = repair_warnings d ++ if_taken (repaired_pairs_refusal d (length l.work)) (loop_warnings (loops_of_font (repaired_font d))) []

-- what is answered where the search for loops answers so: the left entry and the count, or the number
abbrev pub handed_on : ℤ → Written → Validated
handed_on left (Count n) = Fixed left n
handed_on left (Refused k) = validated.Refused k

-- THE contract of mend: the repaired left entry and how many warnings there are, or the number; and every list. Where it is refused before
-- anything is done, the first three are as they came; warnings are written as far as their list goes; the work is all zeros.
pub record Mends (d : Damaged) (l : MendLists) (r : Validated) (l' : MendLists) : Type 0 where
  pub answer : validated_reply r ≡ reply_of (mend_refusal d l) (repaired_left d ∷ pos (length (warnings_of d) / 4) ∷ [])
  pub instructions : l'.program ≡ if_taken (lent_refusal d l) (repaired_instructions d) l.program
  pub passthrough : l'.through ≡ if_taken (lent_refusal d l) (repaired_passthrough d) l.through
  pub warned : l'.warnings ≡ if_taken (lent_refusal d l) (sets l.warnings 0 (mend_warnings d l)) l.warnings
  pub cleared : l'.work ≡ replicate (length l.work) 0
