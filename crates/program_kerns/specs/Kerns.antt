-- Kern values and kern indices, one for the other (R144 to R147), after `pack_kerns` and `unpack_kerns` of ligkern/lang.rs.
use Rattle.std.specs.Prelude.{◌≡◌, Bool, cond, List, [], ◌∷◌, ◌++◌, ℕ, zero, suc, ◌/◌, ◌%◌, ℤ, pos, eqb, length, get_or}
use Rattle.words.specs.Words.{word_of}
use Rattle.words.specs.Lists.{tabulate}
use Rattle.lang.specs.Records.{count, field, is_kind}
use Rattle.lang.specs.Checks.{program_refusal, kerns_refusal, or_else}
use Rattle.lang.specs.declared.Written.{Written}
use Rattle.lang.specs.Answers.{room_refusal, written_reply, reply_of, list_of}

-- number j of a program in which each instruction i that passes a test has another kind and another operand
abbrev pub changed : List ℤ → (ℕ → Bool) → ℤ → (ℕ → ℤ) → ℕ → ℤ
changed s test kind operand j =
    cond (test (j / 4))
    (cond (eqb (j % 4) 2) kind (cond (eqb (j % 4) 3) (operand (j / 4)) (get_or s j (pos 0))))
    (get_or s j (pos 0))

-- the kern at the index that instruction i holds; zero past the list (R144)
abbrev pub kern_at : List ℤ → List ℤ → ℕ → ℤ
kern_at s kerns i = get_or kerns (word_of (field s i 3)) (pos 0)

-- pack_kerns: each kern index becomes the kern there, or past the list a kern of zero
abbrev pub packed : List ℤ → List ℤ → List ℤ
packed s kerns = tabulate (length s) (changed s (is_kind 1 s) (pos 0) (kern_at s kerns))

-- 1, 2, 3 or 15, the lowest that holds, for a list of `room` places
abbrev pub pack_refusal : List ℤ → List ℤ → ℕ → ℕ
pack_refusal s kerns room = or_else (program_refusal s) (or_else (kerns_refusal kerns) (room_refusal (length s) room))

-- the place of a value in a list; its length where the value is not there
unfoldable pub kern_place : ℤ → List ℤ → ℕ
kern_place v [] = 0
kern_place v (k ∷ ks) = cond (eqb (word_of k) (word_of v)) 0 (suc (kern_place v ks))

-- a value is added to a list that has it not yet
abbrev pub shared : List ℤ → ℤ → List ℤ
shared ks v = cond (eqb (kern_place v ks) (length ks)) (ks ++ (v ∷ [])) ks

-- the kern values of the first n instructions, each once, in the order in which they first appear (R146)
unfoldable pub values : List ℤ → ℕ → List ℤ
values s zero = []
values s (suc n) = cond (is_kind 0 s n) (shared (values s n) (field s n 3)) (values s n)

-- the kern values of all instructions, each once
abbrev pub kerns_of : List ℤ → List ℤ
kerns_of s = values s (count s)

-- unpack_kerns (R145): each kern value becomes its index in that list; kern indices stay (R147)
abbrev pub unpacked : List ℤ → List ℤ
unpacked s = tabulate (length s) (changed s (is_kind 0 s) (pos 1) (λ i. pos (kern_place (field s i 3) (kerns_of s))))

-- 1 or 2 of the program, then 15 where either list is too short
abbrev pub unpack_kerns_refusal : List ℤ → ℕ → ℕ → ℕ
unpack_kerns_refusal s room kernRoom =
    or_else (program_refusal s) (or_else (room_refusal (length s) room) (room_refusal (length (kerns_of s)) kernRoom))

-- the contract of pack_kerns: how many instructions there are, and the program and zeros; or the number, and zeros
pub record PacksKerns (s kerns out : List ℤ) (r : Written) (out' : List ℤ) : Type 0 where
  pub answer : written_reply r ≡ reply_of (pack_refusal s kerns (length out)) (pos (count s) ∷ [])
  pub list : out' ≡ list_of (pack_refusal s kerns (length out)) (pos 0) (length out) (packed s kerns)

-- the contract of unpack_kerns: how many kerns there are, and the program and its kerns, with zeros after them; or the number, and zeros
pub record UnpacksKerns (s out kerns : List ℤ) (r : Written) (out' kerns' : List ℤ) : Type 0 where
  pub answer : written_reply r ≡ reply_of (unpack_kerns_refusal s (length out) (length kerns)) (pos (length (kerns_of s)) ∷ [])
  pub list : out' ≡ list_of (unpack_kerns_refusal s (length out) (length kerns)) (pos 0) (length out) (unpacked s)
  pub shares : kerns' ≡ list_of (unpack_kerns_refusal s (length out) (length kerns)) (pos 0) (length kerns) (kerns_of s)
