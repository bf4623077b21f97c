-- What is answered: the number (0 where it is taken) and the values of each case of an answer (R285). The contracts of begin, step and the
-- questions about a table are stated through these; each reply determines its answer (proofs/Replies).
use Rattle.std.specs.Prelude.{Bool, true, false, List, [], ◌∷◌, ℕ, ℤ, pos}
use Rattle.lang.specs.Answers.{Reply}
use Rattle.captions.specs.declared.NextLeft.{NextLeft}
use Rattle.captions.specs.declared.NextLeft.TheVariants as next
use Rattle.captions.specs.declared.Consumes.{Consumes}
use Rattle.captions.specs.declared.Consumes.TheVariants as consumes
use Rattle.captions.specs.declared.State.{State}
use Rattle.captions.specs.declared.Begun.{Begun}
use Rattle.captions.specs.declared.Begun.TheVariants as begun
use Rattle.captions.specs.declared.Answer.{Answer}
use Rattle.captions.specs.declared.Answer.TheVariants.{Char, Ligature, Kern, End, Refused}
use Rattle.captions.specs.declared.Told.{Told}
use Rattle.captions.specs.declared.Told.TheVariants as told

-- a flag as a number: 1 where it is set, else 0
abbrev pub bit_number : Bool → ℤ
bit_number false = pos 0
bit_number true = pos 1

-- ---- begin: the state

-- the kind of what is next: 0 the left boundary, 1 a character, 2 a ligature, 3 a last ligature, given as it stands, 4 nothing
abbrev pub next_kind : NextLeft → ℕ
next_kind next.Boundary = 0
next_kind (next.Char c) = 1
next_kind (next.Lig c) = 2
next_kind (next.FinalLig c) = 3
next_kind next.None = 4

-- the code of what is next; 0 for the boundary and for nothing
abbrev pub next_code : NextLeft → ℕ
next_code next.Boundary = 0
next_code (next.Char c) = c
next_code (next.Lig c) = c
next_code (next.FinalLig c) = c
next_code next.None = 0

-- what the next ligature takes in of its pair's left: 0 nothing, 1 its letter, 2 the left boundary
abbrev pub consumes_number : Consumes → ℕ
consumes_number consumes.Nothing = 0
consumes_number consumes.Letter = 1
consumes_number consumes.Boundary = 2

-- the nine numbers of a state (R218 to R221)
abbrev pub state_numbers : State → List ℤ
state_numbers s =
    pos (next_kind s.next_left) ∷ pos (next_code s.next_left)
    ∷ pos s.op ∷ pos s.ops ∷ pos s.read ∷ pos s.given
    ∷ pos s.pending ∷ bit_number s.pending_boundary ∷ pos (consumes_number s.consumes_left) ∷ []

-- what begin answers: the nine numbers of the state, or its refusal alone
abbrev pub begun_reply : Begun → Reply
begun_reply (begun.Run s) = record { number = 0; values = state_numbers s }
begun_reply (begun.Refused n) = record { number = n; values = [] }

-- ---- step: the six numbers of an item as a T line has them (R132, R133), and no value at the end

-- kind (0 character, 1 ligature, 2 kern), code or scaled kern, the original's start and length, left and right boundary flags
abbrev pub answer_reply : Answer → Reply
answer_reply (Char c start) = record { number = 0; values = pos 0 ∷ pos c ∷ pos start ∷ pos 1 ∷ pos 0 ∷ pos 0 ∷ [] }
answer_reply (Ligature c start n left right) =
    record { number = 0; values = pos 1 ∷ pos c ∷ pos start ∷ pos n ∷ bit_number left ∷ bit_number right ∷ [] }
answer_reply (Kern k) = record { number = 0; values = pos 2 ∷ k ∷ pos 0 ∷ pos 0 ∷ pos 0 ∷ pos 0 ∷ [] }
answer_reply End = record { number = 0; values = [] }
answer_reply (Refused n) = record { number = n; values = [] }

-- the end is no refusal, whatever its number
abbrev pub is_end : Answer → Bool
is_end (Char c start) = false
is_end (Ligature c start n left right) = false
is_end (Kern k) = false
is_end End = true
is_end (Refused n) = false

-- ---- a question about a table: 1 or 0

-- the answer to such a question, or its refusal alone
abbrev pub told_reply : Told → Reply
told_reply (told.Is b) = record { number = 0; values = bit_number b ∷ [] }
told_reply (told.Refused n) = record { number = n; values = [] }
