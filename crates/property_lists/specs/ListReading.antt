-- A property list read: its properties one after the other (PLtoTF 82 to 85, 94 to 102), the font that they make, and THE contract of
-- from_pl_source_code.
use Rattle.std.specs.Prelude.{◌≡◌, Bool, true, false, cond, not, List, [], ◌∷◌, ◌++◌, ℕ, zero, suc, ◌+◌, ◌-◌, ◌*◌, ◌/◌, ◌%◌, min, ℤ, pos, negsuc, leb, ltb, eqb, length, get_or, set, replicate}
use Rattle.std.proofs.Math.Option.{Option, none, some}
use Rattle.words.specs.Words.{word_of, number_of}
use Rattle.lang.specs.Every.{both}
use Rattle.lang.specs.Checks.{unless, or_else}
use Rattle.lang.specs.Answers.{Reply, reply_of, room_refusal, list_of}
use Rattle.program_kerns.specs.Kerns.{kerns_of, unpacked}
use Rattle.property_lists.specs.declared.Property.{Property}
use Rattle.property_lists.specs.declared.Property.TheVariants as property
use Rattle.property_lists.specs.declared.Progress.{Progress}
use Rattle.property_lists.specs.declared.Listed.{Listed}
use Rattle.property_lists.specs.declared.Listed.TheVariants as listed
use Rattle.property_lists.specs.Chars.{then_by}
use Rattle.property_lists.specs.Properties.{property_at}
use Rattle.property_lists.specs.Indents.{good_indents}

-- what was read so far: where reading stands, the four numbers of each step, and a table of 257 places as R277 has it: at a character's code
-- the step of its label, at 256 that of the boundary's, -1 where there is none
pub record ListRead : Type 0 where
  pub now : Progress
  pub program : List ℤ
  pub labels : List ℤ

abbrev pub progress_by : ℕ → ℕ → ℕ → Bool → ℕ → Progress
progress_by stage boundary steps ending needed =
    record { stage = stage; boundary = boundary; steps = steps; ending = ending; needed = needed }

abbrev pub reading_by : Progress → List ℤ → List ℤ → ListRead
reading_by p program labels = record { now = p; program = program; labels = labels }

-- nothing
abbrev pub nothing_read : ListRead
nothing_read = reading_by (progress_by 0 4294967295 0 false 0) [] (replicate 257 (negsuc 0))

-- ---- the list's own properties: BOUNDARYCHAR once, LIGTABLE once after it

abbrev pub at_stage : ℕ → Progress → Progress
at_stage stage p = progress_by stage p.boundary p.steps p.ending p.needed

abbrev pub bounded : ℕ → Progress → Option Progress
bounded c p = cond (eqb p.stage 0) (some (progress_by 1 c p.steps p.ending p.needed)) none

abbrev pub table_opened : Progress → Option Progress
table_opened p = cond (leb p.stage 1) (some (at_stage 2 p)) none

abbrev pub table_closed : Progress → Option Progress
table_closed p = cond (eqb p.stage 2) (some (at_stage 3 p)) none

-- ---- in LIGTABLE

-- at least this many steps, if step n is asked for (min_nl in PLtoTF 97 and 100)
abbrev pub at_least : ℕ → ℕ → ℕ
at_least needed n = cond (leb needed n) (n + 1) needed

-- LABEL (PLtoTF 97): a character has one, the boundary as many as there are, and its last counts
abbrev pub has_label : ℕ → List ℤ → Bool
has_label c labels = not (eqb (word_of (get_or labels c (pos 0))) 4294967295)

abbrev pub may_label : ℕ → Progress → List ℤ → Bool
may_label c p labels = both (eqb p.stage 2) (not (both (ltb c 256) (has_label c labels)))

abbrev pub labelled_at : Progress → Progress
labelled_at p = progress_by p.stage p.boundary p.steps false (at_least p.needed p.steps)

-- a step past 65,535 is never given back: 1 holds then
abbrev pub label_set : ℕ → ℕ → List ℤ → List ℤ
label_set c steps labels = set labels c (pos (min steps 65535))

-- STOP and SKIP (PLtoTF 99, 100): directly after a step; SKIP's amount is 127 at most
abbrev pub may_end : Progress → Bool
may_end p = both (eqb p.stage 2) p.ending

abbrev pub ended_at : ℕ → Progress → Progress
ended_at needed p = progress_by p.stage p.boundary p.steps false needed

abbrev pub next_set : ℕ → ℤ → List ℤ → List ℤ
next_set steps next program = set program (4 * (steps - 1)) next

-- LIG and KRN (PLtoTF 101, 102): one more step. Characters are bytes and op bytes below 128 as they are read
abbrev pub stepped_at : Progress → Progress
stepped_at p = progress_by p.stage p.boundary (p.steps + 1) true p.needed

abbrev pub stepped : ℕ → ℕ → ℤ → ListRead → Option ListRead
stepped right kind operand r =
    cond (eqb r.now.stage 2)
    (some (reading_by (stepped_at r.now) (r.program ++ (pos 0 ∷ pos (right % 256) ∷ pos kind ∷ operand ∷ [])) r.labels)) none

-- ---- any property

abbrev pub with_now : ListRead → Option Progress → Option ListRead
with_now r none = none
with_now r (some p) = some (reading_by p r.program r.labels)

unfoldable pub applied : Property → ListRead → Option ListRead
applied property.Comment r = some r
applied (property.Boundary c) r = with_now r (bounded c r.now)
applied property.Table r = with_now r (table_opened r.now)
applied property.Closed r = with_now r (table_closed r.now)
applied property.Ended r = none
applied (property.Label c) r =
    cond (may_label c r.now r.labels) (some (reading_by (labelled_at r.now) r.program (label_set c r.now.steps r.labels))) none
applied property.Stop r =
    cond (may_end r.now) (some (reading_by (ended_at r.now.needed r.now) (next_set r.now.steps (negsuc 0) r.program) r.labels)) none
applied (property.Skip n) r =
    cond (both (may_end r.now) (leb n 127))
    (some (reading_by (ended_at (at_least r.now.needed (r.now.steps + n)) r.now) (next_set r.now.steps (pos n) r.program) r.labels)) none
applied (property.Ligature op right inserted) r = stepped right 2 (pos (256 * (op % 128) + inserted % 256)) r
applied (property.Kern right bits) r = stepped right 0 (number_of bits) r

-- R457: properties up to the end of the text, f at most
abbrev pub is_ended : Property → Bool
is_ended property.Ended = true
is_ended property.Closed = false
is_ended property.Comment = false
is_ended (property.Boundary c) = false
is_ended property.Table = false
is_ended (property.Label c) = false
is_ended property.Stop = false
is_ended (property.Skip n) = false
is_ended (property.Ligature op right inserted) = false
is_ended (property.Kern right bits) = false

abbrev pub property_on : (ListRead → List ℕ → Option ListRead) → ListRead → Property × List ℕ → Option ListRead
property_on go r p = cond (is_ended p.0) (some r) (then_by (applied p.0 r) (λ s. go s p.1))

unfoldable pub read_all : ℕ → ListRead → List ℕ → Option ListRead
read_all zero r bs = none
read_all (suc f) r bs = then_by (property_at bs) (property_on (read_all f) r)

-- at the end: LIGTABLE is closed, labels and SKIPs lead to steps, and a last step without STOP or SKIP gets next -1 (PLtoTF 116)
abbrev pub last_ended : ListRead → List ℤ
last_ended r = cond r.now.ending (next_set r.now.steps (negsuc 0) r.program) r.program

abbrev pub list_finished : ListRead → Option ListRead
list_finished r =
    cond (eqb r.now.stage 2) none
    (cond (leb r.now.needed r.now.steps) (some (reading_by r.now (last_ended r) r.labels)) none)

-- R458: what a text says, or nothing where it is 23. Each property is one byte at least, so that the fuel is enough
abbrev pub pl_read : List ℕ → Option ListRead
pl_read text = cond (good_indents text) (then_by (read_all (suc (length text)) nothing_read text) list_finished) none

-- ---- the font

-- the entries of the characters below n that have a label, ascending
unfoldable pub label_entries : List ℤ → ℕ → List ℤ
label_entries labels zero = []
label_entries labels (suc c) =
    label_entries labels c ++ cond (has_label c labels) (pos c ∷ get_or labels c (pos 0) ∷ []) []

abbrev pub pl_entries : Option ListRead → List ℤ
pl_entries none = []
pl_entries (some r) = label_entries r.labels 256

abbrev pub pl_program : Option ListRead → List ℤ
pl_program none = []
pl_program (some r) = r.program

-- R468: reading shares kerns: the program with an index for each kern value, and the kerns, each value once in the order of appearance
abbrev pub pl_shared : Option ListRead → List ℤ
pl_shared r = unpacked (pl_program r)

abbrev pub pl_kerns : Option ListRead → List ℤ
pl_kerns r = kerns_of (pl_program r)

-- how many instructions, kerns and entries, the boundary character and the left entry
abbrev pub pl_values : Option ListRead → List ℤ
pl_values none = []
pl_values (some r) =
    pos r.now.steps ∷ pos (length (kerns_of r.program)) ∷ pos (length (label_entries r.labels 256) / 2) ∷ number_of r.now.boundary ∷
    get_or r.labels 256 (pos 0) ∷ []

-- 23; else 1, over 32,767 steps; else 15, where the instructions, the kerns or the entries are too short
abbrev pub pl_refusal : Option ListRead → ℕ → ℕ → ℕ → ℕ
pl_refusal none room kernRoom entryRoom = 23
pl_refusal (some r) room kernRoom entryRoom =
    or_else (unless 1 (leb r.now.steps 32767))
    (or_else (room_refusal (4 * r.now.steps) room)
    (or_else (room_refusal (length (kerns_of r.program)) kernRoom) (room_refusal (length (label_entries r.labels 256)) entryRoom)))

abbrev pub listed_reply : Listed → Reply
listed_reply (listed.Font n k e boundary left) = reply_of 0 (pos n ∷ pos k ∷ pos e ∷ boundary ∷ left ∷ [])
listed_reply (listed.Refused n) = record { number = n; values = [] }

-- THE contract of from_pl_source_code: the answer, and each list with zeros after what was read; or the number, and zeros
pub record ReadsList (text : List ℕ) (instructions kerns entries : List ℤ) (r : Listed) (instructions' kerns' entries' : List ℤ) : Type 0 where
  pub answer : listed_reply r ≡ reply_of (pl_refusal (pl_read text) (length instructions) (length kerns) (length entries)) (pl_values (pl_read text))
  pub program : instructions' ≡
      list_of (pl_refusal (pl_read text) (length instructions) (length kerns) (length entries)) (pos 0) (length instructions) (pl_shared (pl_read text))
  pub shares : kerns' ≡
      list_of (pl_refusal (pl_read text) (length instructions) (length kerns) (length entries)) (pos 0) (length kerns) (pl_kerns (pl_read text))
  pub labels : entries' ≡
      list_of (pl_refusal (pl_read text) (length instructions) (length kerns) (length entries)) (pos 0) (length entries) (pl_entries (pl_read text))
