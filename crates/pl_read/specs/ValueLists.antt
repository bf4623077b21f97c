-- A text read, each kern as its value (R458): the contract of read_list, which crate pl_share makes from_pl_source_code of.
use Rattle.std.specs.Prelude.{◌≡◌, List, [], ◌∷◌, ℕ, ◌*◌, ◌/◌, ℤ, pos, leb, length, get_or}
use Rattle.std.proofs.Math.Option.{Option, none, some}
use Rattle.words.specs.Words.{number_of}
use Rattle.lang.specs.Checks.{unless, or_else}
use Rattle.lang.specs.Answers.{Reply, reply_of, room_refusal, list_of}
use Rattle.property_lists.specs.ListReading.{ListRead, pl_read, pl_program, label_entries, pl_entries}
use Rattle.pl_read.specs.declared.StepsListed.{StepsListed}
use Rattle.pl_read.specs.declared.StepsListed.TheVariants as listed

-- how many instructions and entries, the boundary character and the left entry
abbrev pub steps_values : Option ListRead → List ℤ
steps_values none = []
steps_values (some r) =
    pos r.now.steps ∷ pos (length (label_entries r.labels 256) / 2) ∷ number_of r.now.boundary ∷ get_or r.labels 256 (pos 0) ∷ []

-- 23; else 1, over 32,767 steps; else 15, where a list is too short
abbrev pub steps_refusal : Option ListRead → ℕ → ℕ → ℕ
steps_refusal none room entryRoom = 23
steps_refusal (some r) room entryRoom =
    or_else (unless 1 (leb r.now.steps 32767))
    (or_else (room_refusal (4 * r.now.steps) room) (room_refusal (length (label_entries r.labels 256)) entryRoom))

-- the number and the values of an answer
abbrev pub steps_reply : StepsListed → Reply
steps_reply (listed.Font n e boundary left) = reply_of 0 (pos n ∷ pos e ∷ boundary ∷ left ∷ [])
steps_reply (listed.Refused n) = record { number = n; values = [] }

-- THE contract of read_list: the answer, and both lists with zeros after what was read; or the number, and zeros
pub record ReadsValues (text : List ℕ) (instructions entries : List ℤ) (r : StepsListed) (instructions' entries' : List ℤ) : Type 0 where
  pub answer : steps_reply r ≡ reply_of (steps_refusal (pl_read text) (length instructions) (length entries)) (steps_values (pl_read text))
  pub program : instructions' ≡
      list_of (steps_refusal (pl_read text) (length instructions) (length entries)) (pos 0) (length instructions) (pl_program (pl_read text))
  pub labels : entries' ≡
      list_of (steps_refusal (pl_read text) (length instructions) (length entries)) (pos 0) (length entries) (pl_entries (pl_read text))
