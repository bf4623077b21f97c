-- Packed entries, unpacked to the front of one list, and the characters whose entry leads nowhere at the front of another.
use Rattle.std.specs.Prelude.{◌≡◌, List, [], ◌∷◌, ℕ, zero, suc, ◌*◌, ◌/◌, ℤ, pos, leb, length}
use Rattle.std.proofs.lemmas.List.Edits.{sets}
use Rattle.lang.specs.declared.Written.{Written}
use Rattle.lang.specs.Records.{count}
use Rattle.lang.specs.Checks.{unless, or_else}
use Rattle.lang.specs.Answers.{reply_of, room_refusal, written_reply}
use Rattle.file_fonts.specs.Meant.{unpacked_below, lost_below}

-- the first k packed entries, of which n lead to an instruction. What passes the end of a list is left off.
pub record Unpacked (s es : List ℤ) (k n : ℕ) (entries lost entries' lost' : List ℤ) : Type 0 where
  pub leading : length (unpacked_below s es k) ≡ 2 * n
  pub entry_list : entries' ≡ sets entries 0 (unpacked_below s es k)
  pub lost_list : lost' ≡ sets lost 0 (lost_below s es k)

-- 1 (R230) of more than 32,767 instructions, then 15, of lists of so many places
abbrev pub unpack_all_refusal : List ℤ → List ℤ → ℕ → ℕ → ℕ
unpack_all_refusal s es entries lost =
    or_else (unless 1 (leb (count s) 32767))
    (or_else (room_refusal (length (unpacked_below s es (length es / 2))) entries) (room_refusal (length (lost_below s es (length es / 2))) lost))

-- what is written, by the refusal: all, or nothing
abbrev pub all_or_none : ℕ → List ℤ → List ℤ
all_or_none zero xs = xs
all_or_none (suc r) xs = []

-- the contract of unpack_within: how many lead to an instruction, and what is written to the front of each list
pub record UnpacksWithin (s es entries lost : List ℤ) (r : Written) (entries' lost' : List ℤ) : Type 0 where
  pub answer : written_reply r ≡
      reply_of (unpack_all_refusal s es (length entries) (length lost)) (pos (length (unpacked_below s es (length es / 2)) / 2) ∷ [])
  pub entry_list : entries' ≡
      sets entries 0 (all_or_none (unpack_all_refusal s es (length entries) (length lost)) (unpacked_below s es (length es / 2)))
  pub lost_list : lost' ≡
      sets lost 0 (all_or_none (unpack_all_refusal s es (length entries) (length lost)) (lost_below s es (length es / 2)))
