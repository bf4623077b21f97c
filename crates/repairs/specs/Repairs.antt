-- What the whole repair gives (R164, R165): its refusals, its answer, and the final content of every lent list. Asking and committing are
-- its two parts (specs/Asking, specs/Committing).
use Rattle.std.specs.Prelude.{◌≡◌, cond, List, [], ◌∷◌, ℕ, ◌*◌, ◌/◌, ℤ, pos, leb, length, replicate}
use Rattle.words.specs.Words.{word_of}
use Rattle.lang.specs.Records.{count}
use Rattle.lang.specs.Checks.{program_refusal, kerns_refusal, entries_refusal, absent_refusal, passthrough_refusal, or_else, unless}
use Rattle.lang.specs.Answers.{Reply, reply_of, list_of, room_refusal}
use Rattle.fonts.specs.Fonts.{pairs_of}
use Rattle.repairs.specs.declared.Validated.{Validated}
use Rattle.repairs.specs.declared.Validated.TheVariants.{Fixed, Refused}
use Rattle.repairs.specs.Damaged.{Damaged, repaired_left, repaired_passthrough}
use Rattle.repairs.specs.Repaired.{repaired_instructions, repaired_font}
use Rattle.repairs.specs.Warnings.{warnings_of}

-- the font from what is lent; the replacement by its 32 bits
abbrev pub damaged_of : List ℤ → List ℤ → List ℤ → ℤ → ℤ → ℤ → List ℕ → List ℕ → Damaged
damaged_of instructions kerns entries boundary left replacement existing passthrough =
    record {
      instructions = instructions;
      kerns = kerns;
      entries = entries;
      boundary = boundary;
      left = left;
      replacement = word_of replacement;
      existing = existing;
      passthrough = passthrough;
    }

-- how long the four lists are that are lent to be written
pub record RepairRoom : Type 0 where
  pub instructions : ℕ
  pub passthrough : ℕ
  pub warnings : ℕ
  pub work : ℕ

-- 1 to 4
abbrev pub damaged_refusal : Damaged → ℕ
damaged_refusal d =
    or_else (program_refusal d.instructions)
    (or_else (kerns_refusal d.kerns)
    (or_else (entries_refusal 255 d.entries)
    (or_else (absent_refusal 255 d.boundary)
    (or_else (absent_refusal 65535 d.left)
    (or_else (unless 4 (leb d.replacement 255)) (passthrough_refusal d.passthrough d.instructions))))))

-- 12 (R184, R241): the repaired font has more pairs with a rule than a work buffer of so many places holds at sixteen each
abbrev pub repaired_pairs_refusal : Damaged → ℕ → ℕ
repaired_pairs_refusal d work = cond (leb (length (pairs_of (repaired_font d))) (work / 16)) 0 12

-- 15 (R244): a list is too short for the repaired instructions, for their passthrough, or for the warnings
abbrev pub repair_room_refusal : Damaged → RepairRoom → ℕ
repair_room_refusal d room =
    or_else (room_refusal (4 * count d.instructions) room.instructions)
    (or_else (room_refusal (count d.instructions) room.passthrough) (room_refusal (length (warnings_of d)) room.warnings))

-- 1 to 4, 12 or 15, the lowest that holds; 0 where the font is repaired
abbrev pub repair_refusal : Damaged → RepairRoom → ℕ
repair_refusal d room = or_else (damaged_refusal d) (or_else (repaired_pairs_refusal d room.work) (repair_room_refusal d room))

-- what the passes answer, as a number and values (R285): the left entry and how many warnings there are (R165), or the number
abbrev pub validated_reply : Validated → Reply
validated_reply (Fixed left n) = reply_of 0 (left ∷ pos n ∷ [])
validated_reply (Refused n) = record { number = n; values = [] }

-- the lengths of the four lists that are lent
abbrev pub room_for : List ℤ → List ℕ → List ℤ → List ℕ → RepairRoom
room_for fixed through warnings work =
    record { instructions = length fixed; passthrough = length through; warnings = length warnings; work = length work }

-- the whole repair, in one go: the answer, and every list, taken or refused (R255, R252)
pub record Repairs (d : Damaged) (fixed : List ℤ) (through : List ℕ) (warnings : List ℤ) (work : List ℕ) (r : Validated)
    (fixed' : List ℤ) (through' : List ℕ) (warnings' : List ℤ) (work' : List ℕ) : Type 0 where
  pub answer : validated_reply r ≡
      reply_of (repair_refusal d (room_for fixed through warnings work)) (repaired_left d ∷ pos (length (warnings_of d) / 4) ∷ [])
  pub instructions : fixed' ≡ list_of (repair_refusal d (room_for fixed through warnings work)) (pos 0) (length fixed) (repaired_instructions d)
  pub passthrough : through' ≡ list_of (repair_refusal d (room_for fixed through warnings work)) 0 (length through) (repaired_passthrough d)
  pub warned : warnings' ≡ list_of (repair_refusal d (room_for fixed through warnings work)) (pos 0) (length warnings) (warnings_of d)
  pub cleared : work' ≡ replicate (length work) 0
