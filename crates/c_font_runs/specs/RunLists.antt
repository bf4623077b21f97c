-- A run that knows its font as twelve numbers of a list (R478): the nine of its state (c_states/specs/States), the number of the font in
-- force, 1 where another is asked for, and that one's number. And back: the numbers that are a run's. All zeros are a run at the left
-- boundary of font 0.
use Rattle.std.specs.Prelude.{◌≡◌, Bool, true, cond, List, [], ◌∷◌, ◌++◌, ℕ, zero, suc, leb, length, get_or, drop, Option, Some, None}
use Rattle.lang.specs.Every.{both}
use Rattle.lang.specs.Answers.{room_refusal}
use Rattle.c_states.specs.States.{numbers_of, is_state, state_at, outside}
use Rattle.font_runs.specs.declared.FontRun.{FontRun}

-- ---- a run's numbers

-- whether a font is asked for
abbrev pub asked_flag : Option ℕ → ℕ
asked_flag None = 0
asked_flag (Some n) = 1

-- its number, 0 where none is
abbrev pub asked_number : Option ℕ → ℕ
asked_number None = 0
asked_number (Some n) = n

abbrev pub run_numbers : FontRun → List ℕ
run_numbers run = numbers_of run.state ++ (run.font ∷ asked_flag run.asked ∷ asked_number run.asked ∷ [])

-- ---- back

-- by the flag: with 0 the number is not read
abbrev pub asked_of : ℕ → ℕ → Option ℕ
asked_of zero n = None
asked_of (suc f) n = Some n

-- a number that is read is one of 32 bits
abbrev pub asked_fits : ℕ → ℕ → Bool
asked_fits zero n = true
asked_fits (suc f) n = leb n 4294967295

-- twelve numbers that are a run's: a state, a font of 32 bits, a flag of 0 or 1, and a number of 32 bits where it is read
abbrev pub is_run : List ℕ → Bool
is_run ns =
    both (leb 12 (length ns))
    (both (is_state ns)
    (both (leb (get_or ns 9 0) 4294967295)
    (both (leb (get_or ns 10 0) 1) (asked_fits (get_or ns 10 0) (get_or ns 11 0)))))

-- the run that twelve numbers are
abbrev pub run_at : List ℕ → FontRun
run_at ns = record { state = state_at ns; font = get_or ns 9 0; asked = asked_of (get_or ns 10 0) (get_or ns 11 0) }

-- a run outside every word with nothing asked for, which stands for numbers that are no run's: every step from it is refused
abbrev pub outside_run : FontRun
outside_run = record { state = outside; font = 0; asked = None }

-- the run at the front of a list
abbrev pub run_read : List ℕ → FontRun
run_read ns = cond (is_run ns) (run_at ns) outside_run

-- ---- a run put into a list

-- by the number: the run's numbers at the front, and what stands after them; or all as it was
abbrev pub run_moved : ℕ → List ℕ → FontRun → List ℕ
run_moved zero ns run = run_numbers run ++ drop 12 ns
run_moved (suc n) ns run = ns

-- THE contract of put_run: 15 where the list has no room, and what the list holds
pub record PutsRun (run : FontRun) (ns : List ℕ) (r : ℕ) (ns' : List ℕ) : Type 0 where
  pub number : r ≡ room_refusal 12 (length ns)
  pub stored : ns' ≡ run_moved (room_refusal 12 (length ns)) ns run
