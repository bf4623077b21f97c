-- The state of a run as nine numbers of a list (R218 to R221), in the order of `stateNumbers` of captions/specs/Replies: next kind, code,
-- op, ops, read, given, pending, pending boundary, consumes. And back: the numbers that are a state's (R223).
use Rattle.std.specs.Prelude.{◌≡◌, Bool, true, false, cond, List, [], ◌∷◌, ◌++◌, ℕ, zero, suc, ◌≤◌, ℤ, leb, length, get_or, drop}
use Rattle.std.proofs.Math.Option.{Option, none, some}
use Rattle.lang.specs.Every.{both}
use Rattle.lang.specs.Answers.{room_refusal}
use Rattle.captions.specs.declared.RunOptions.{RunOptions}
use Rattle.captions.specs.declared.NextLeft.{NextLeft}
use Rattle.captions.specs.declared.NextLeft.TheVariants as next
use Rattle.captions.specs.declared.Consumes.{Consumes}
use Rattle.captions.specs.declared.Consumes.TheVariants as consumes
use Rattle.captions.specs.declared.State.{State}
use Rattle.captions.specs.Replies.{next_kind, next_code, consumes_number}

-- how a word is set, by two arguments (R96)
abbrev pub options_of : Bool → ℤ → RunOptions
options_of without over = record { disable_left_boundary = without; right_boundary_override = over }

-- a flag as a number: 1 where it is set, else 0
abbrev pub flag_bit : Bool → ℕ
flag_bit false = 0
flag_bit true = 1

-- the nine numbers of a state
abbrev pub numbers_of : State → List ℕ
numbers_of s =
    next_kind s.next_left ∷ next_code s.next_left
    ∷ s.op ∷ s.ops ∷ s.read ∷ s.given
    ∷ s.pending ∷ flag_bit s.pending_boundary ∷ consumes_number s.consumes_left ∷ []

-- ---- back

-- what is next, by its kind, as `nextKind` numbers it, and its code; a kind past 4 reads as 4, nothing
abbrev pub next_left_of : ℕ → ℕ → NextLeft
next_left_of zero c = next.Boundary
next_left_of (suc zero) c = next.Char c
next_left_of (suc (suc zero)) c = next.Lig c
next_left_of (suc (suc (suc zero))) c = next.FinalLig c
next_left_of (suc (suc (suc (suc k)))) c = next.None

-- a flag by its number: set where that is not 0
abbrev pub flag_of : ℕ → Bool
flag_of zero = false
flag_of (suc n) = true

-- what is taken in of a pair's left, by its number: 0 nothing, 1 a letter, any other the left boundary
abbrev pub consumes_of : ℕ → Consumes
consumes_of zero = consumes.Nothing
consumes_of (suc zero) = consumes.Letter
consumes_of (suc (suc n)) = consumes.Boundary

-- the first nine numbers as a state
abbrev pub state_at : List ℕ → State
state_at ns =
    record {
      next_left = next_left_of (get_or ns 0 0) (get_or ns 1 0);
      op = get_or ns 2 0;
      ops = get_or ns 3 0;
      read = get_or ns 4 0;
      given = get_or ns 5 0;
      pending = get_or ns 6 0;
      pending_boundary = flag_of (get_or ns 7 0);
      consumes_left = consumes_of (get_or ns 8 0);
    }

-- nine numbers are a state: a kind of 0 to 4, a code below 2 ^ 32, a flag of 0 or 1, and what is taken in from 0 to 2
abbrev pub is_state : List ℕ → Bool
is_state ns =
    both (leb 9 (length ns))
    (both (leb (get_or ns 0 0) 4)
    (both (leb (get_or ns 1 0) 4294967295)
    (both (leb (get_or ns 7 0) 1) (leb (get_or ns 8 0) 2))))

-- the state at the front of a list; none where its first nine numbers are no state's
abbrev pub state_read : List ℕ → Option State
state_read ns = cond (is_state ns) (some (state_at ns)) none

-- a state that points outside every word, which stands for numbers that are no state: every step from it is refused
abbrev pub outside : State
outside =
    record {
      next_left = next.None;
      op = 0;
      ops = 0;
      read = 18446744073709551615;
      given = 0;
      pending = 0;
      pending_boundary = false;
      consumes_left = consumes.Nothing;
    }

-- the state that was read, or `outside` where none was
abbrev pub or_outside : Option State → State
or_outside none = outside
or_outside (some s) = s

-- ---- a state put into a list

-- by the number: the state's numbers at the front, and what stands after them; or all as it was (R224)
abbrev pub moved_to : ℕ → List ℕ → State → List ℕ
moved_to zero list s = numbers_of s ++ drop 9 list
moved_to (suc n) list s = list

-- the contract of put_state: 15 where the list has no room, and what the list holds; a state that is put is one whose numbers are read back
pub record PutsState (s : State) (list : List ℕ) (r : ℕ) (list' : List ℕ) : Type 0 where
  pub number : r ≡ room_refusal 9 (length list)
  pub stored : list' ≡ moved_to (room_refusal 9 (length list)) list s
  pub code : r ≡ 0 → next_code s.next_left ≤ 4294967295
