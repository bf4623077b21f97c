-- THE contract of a repair that is committed (R403): the warnings that were asked for are handed over, and the font is repaired only if
-- they are those of the font as it is lent now.
use Rattle.std.specs.Prelude.{◌≡◌, Bool, false, List, [], ◌∷◌, ℕ, ◌*◌, ℤ, pos, negsuc, eqb, length, get_or, replicate}
use Rattle.lang.specs.Every.{both, every}
use Rattle.lang.specs.Records.{count}
use Rattle.lang.specs.Checks.{or_else, unless}
use Rattle.lang.specs.Answers.{Reply, reply_of, list_of, room_refusal}
use Rattle.repairs.specs.declared.Committed.{Committed}
use Rattle.repairs.specs.declared.Committed.TheVariants.{Fixed, Refused}
use Rattle.repairs.specs.Damaged.{Damaged, repaired_left, repaired_passthrough}
use Rattle.repairs.specs.Repaired.{repaired_instructions}
use Rattle.repairs.specs.Warnings.{warnings_of}
use Rattle.repairs.specs.Repairs.{damaged_refusal, repaired_pairs_refusal}

-- ---- R405: the warnings handed over, beside those of now

-- two numbers are equal
abbrev pub same_number : ℤ → ℤ → Bool
same_number (pos m) (pos n) = eqb m n
same_number (pos m) (negsuc n) = false
same_number (negsuc m) (pos n) = false
same_number (negsuc m) (negsuc n) = eqb m n

-- the numbers of a list are those at the front of another, which has zeros past its end
abbrev pub starts_with : List ℤ → List ℤ → Bool
starts_with found handed = every (length handed) (λ i. same_number (get_or handed i (pos 0)) (get_or found i (pos 0)))

-- two lists are equal: as many numbers, and each the other's
abbrev pub same_numbers : List ℤ → List ℤ → Bool
same_numbers handed found = both (eqb (length handed) (length found)) (starts_with found handed)

-- 25: the list handed over is not what asking would tell of the font
abbrev pub changed_refusal : Damaged → List ℤ → ℕ
changed_refusal d handed = unless 25 (same_numbers handed (warnings_of d))

-- ---- the other refusals

-- how long the four lists are that are lent to be written
pub record CommitRoom : Type 0 where
  pub instructions : ℕ
  pub passthrough : ℕ
  pub found : ℕ
  pub work : ℕ

-- the lengths of the four
abbrev pub commit_room : List ℤ → List ℕ → List ℤ → List ℕ → CommitRoom
commit_room fixed through found work =
    record { instructions = length fixed; passthrough = length through; found = length found; work = length work }

-- 15 (R244): a list is too short for the repaired instructions, for their passthrough, or for as many numbers as are handed over
abbrev pub commit_room_refusal : Damaged → List ℤ → CommitRoom → ℕ
commit_room_refusal d handed room =
    or_else (room_refusal (4 * count d.instructions) room.instructions)
    (or_else (room_refusal (count d.instructions) room.passthrough) (room_refusal (length handed) room.found))

-- 1 to 4, 12, 15 or 25, the lowest that holds (R404); 0 where the font is repaired
abbrev pub commit_refusal : Damaged → List ℤ → CommitRoom → ℕ
commit_refusal d handed room =
    or_else (damaged_refusal d)
    (or_else (repaired_pairs_refusal d room.work) (or_else (commit_room_refusal d handed room) (changed_refusal d handed)))

-- ---- the contract

-- what committing answers, as a number and values (R285): the left entry, or the number
abbrev pub committed_reply : Committed → Reply
committed_reply (Fixed left) = reply_of 0 (left ∷ [])
committed_reply (Refused n) = record { number = n; values = [] }

-- THE contract of commit_repair: the answer, and every list, taken or refused. What was found is work, as the work is: both are all zeros
-- (R406, R255, R252)
pub record Commits (d : Damaged) (handed fixed : List ℤ) (through : List ℕ) (found : List ℤ) (work : List ℕ) (r : Committed)
    (fixed' : List ℤ) (through' : List ℕ) (found' : List ℤ) (work' : List ℕ) : Type 0 where
  pub answer : committed_reply r ≡ reply_of (commit_refusal d handed (commit_room fixed through found work)) (repaired_left d ∷ [])
  pub instructions : fixed' ≡
      list_of (commit_refusal d handed (commit_room fixed through found work)) (pos 0) (length fixed) (repaired_instructions d)
  pub passthrough : through' ≡
      list_of (commit_refusal d handed (commit_room fixed through found work)) 0 (length through) (repaired_passthrough d)
  pub emptied : found' ≡ replicate (length found) (pos 0)
  pub cleared : work' ≡ replicate (length work) 0
