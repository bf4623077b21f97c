-- What a committed repair tells a host in C (R403 to R407): its answer is the reply that the port's own function is held to (`Commits` of
-- crate repairs). The left entry, which may be -1, has a list of i32 of its own (R215). What is added is 15 where that list has no place
-- (R216): it comes before 25, so that the lower number is told.
use Rattle.std.specs.Prelude.{◌≡◌, List, [], ◌∷◌, ℕ, ℤ, pos, length, replicate}
use Rattle.lang.specs.Checks.{lower}
use Rattle.lang.specs.Answers.{Reply, room_refusal, list_of}
use Rattle.repairs.specs.Damaged.{Damaged, repaired_left, repaired_passthrough}
use Rattle.repairs.specs.Repaired.{repaired_instructions}
use Rattle.repairs.specs.Committing.{CommitRoom, commit_room, commit_refusal}

-- the lower of the answer's number and 15; the left entry and zeros, or zeros alone
pub record TellsLeft (reply : Reply) (left : List ℤ) (r : ℕ) (left' : List ℤ) : Type 0 where
  pub number : r ≡ lower reply.number (room_refusal 1 (length left))
  pub told : left' ≡ list_of r (pos 0) (length left) reply.values

-- the number of the call
abbrev pub commit_number : Damaged → List ℤ → CommitRoom → ℕ → ℕ
commit_number d handed room left = lower (commit_refusal d handed room) (room_refusal 1 left)

-- THE contract of ligkern_commit_repair: the number, and every list, taken or refused
pub record HostCommits (d : Damaged) (handed fixed : List ℤ) (through : List ℕ) (found : List ℤ) (work : List ℕ) (left : List ℤ) (r : ℕ)
    (fixed' : List ℤ) (through' : List ℕ) (found' : List ℤ) (work' : List ℕ) (left' : List ℤ) : Type 0 where
  pub number : r ≡ commit_number d handed (commit_room fixed through found work) (length left)
  pub instructions : fixed' ≡
      list_of (commit_number d handed (commit_room fixed through found work) (length left)) (pos 0) (length fixed) (repaired_instructions d)
  pub passthrough : through' ≡
      list_of (commit_number d handed (commit_room fixed through found work) (length left)) 0 (length through) (repaired_passthrough d)
  pub entry : left' ≡
      list_of (commit_number d handed (commit_room fixed through found work) (length left)) (pos 0) (length left) (repaired_left d ∷ [])
  pub emptied : found' ≡ replicate (length found) (pos 0)
  pub cleared : work' ≡ replicate (length work) 0
