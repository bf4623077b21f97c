-- A font that is asked for waits through a step (R474, R476), told before the step is made: an op is to be given, or the next left is a
-- character that has a pair with the next letter. What is not told so may wait too. Proved: proofs/Waiting.
use Rattle.std.specs.Prelude.{◌≡◌, Bool, true, cond, List, ℕ, suc, ℤ, ltb, leb, eqb, length}
use Rattle.std.proofs.Math.Option.{none}
use Rattle.lang.specs.Every.{both}
use Rattle.lang.specs.Checks.{absent_refusal}
use Rattle.captions.specs.declared.RunOptions.{RunOptions}
use Rattle.captions.specs.declared.State.{State}
use Rattle.captions.specs.Tables.{pair_count}
use Rattle.step_quick.specs.Quick.{plain_code, next_letter, found_place}
use Rattle.c_states.specs.States.{state_at}
use Rattle.font_runs.specs.Requests.{LentFont}
use Rattle.font_runs.specs.Changes.{first_free}
use Rattle.c_font_runs.specs.RunLists.{is_run}

-- a character that has a pair with the next letter
abbrev pub has_pair : List ℤ → List ℕ → State → Bool
has_pair pairs word s =
    both (leb (plain_code s.next_left) 255)
    (both (ltb s.read (length word))
    (both (leb (next_letter word s) 255) (ltb (found_place pairs (suc (plain_code s.next_left)) (next_letter word s)) (pair_count pairs))))

-- an op is to be given, or that
abbrev pub is_held : List ℤ → List ℕ → State → Bool
is_held pairs word s = cond (eqb s.ops 0) (has_pair pairs word s) true

-- the numbers of a run of which that holds, with both boundary characters in range
abbrev pub is_waiting : ℤ → ℤ → List ℤ → List ℕ → List ℕ → Bool
is_waiting boundary other pairs word ns =
    both (is_run ns) (both (eqb (absent_refusal 255 boundary) 0) (both (eqb (absent_refusal 255 other) 0) (is_held pairs word (state_at ns))))

-- what it is for: no state that the step meets is free
abbrev pub HeldWaits : Type 0
HeldWaits =
    (font : LentFont) (word : List ℕ) (options : RunOptions) (s : State) → is_held font.pairs word s ≡ true → first_free font word options s ≡ none
