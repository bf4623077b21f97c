-- THE contract of asking before a repair (R401): the warnings of a font as it is lent, which stays as it is.
use Rattle.std.specs.Prelude.{◌≡◌, List, [], ◌∷◌, ℕ, ◌/◌, ℤ, pos, length, replicate}
use Rattle.lang.specs.declared.Written.{Written}
use Rattle.lang.specs.Checks.{or_else}
use Rattle.lang.specs.Answers.{reply_of, written_reply, list_of, room_refusal}
use Rattle.repairs.specs.Damaged.{Damaged}
use Rattle.repairs.specs.Warnings.{warnings_of}
use Rattle.repairs.specs.Repairs.{damaged_refusal, repaired_pairs_refusal}

-- 1 to 4, 12 or 15, the lowest that holds (R402), by how many places the warnings and the work have; 0 where the warnings are told
abbrev pub ask_refusal : Damaged → ℕ → ℕ → ℕ
ask_refusal d warnings work =
    or_else (damaged_refusal d) (or_else (repaired_pairs_refusal d work) (room_refusal (length (warnings_of d)) warnings))

-- THE contract of ask_repair: how many warnings there are, or the number; the warnings, four numbers each, and zeros, or zeros alone; the
-- work all zeros (R401, R255, R252)
pub record Asks (d : Damaged) (warnings : List ℤ) (work : List ℕ) (r : Written) (warnings' : List ℤ) (work' : List ℕ) : Type 0 where
  pub answer : written_reply r ≡ reply_of (ask_refusal d (length warnings) (length work)) (pos (length (warnings_of d) / 4) ∷ [])
  pub warned : warnings' ≡ list_of (ask_refusal d (length warnings) (length work)) (pos 0) (length warnings) (warnings_of d)
  pub cleared : work' ≡ replicate (length work) 0
