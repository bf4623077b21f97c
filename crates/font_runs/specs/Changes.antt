-- Where a font changes (R474), and a step of a run that may change it (R475). With a request waiting the turns of a step (R286) are made on
-- the font in force, and each state is tested before its turn; from the first that is free the step goes on in the font asked for.
use Rattle.std.specs.Prelude.{Bool, true, false, cond, not, List, ℕ, zero, suc, ◌-◌, ℤ, ltb, eqb, length, get_or, Option as Asked, Some, None}
use Rattle.std.proofs.Math.Option.{Option, none, some}
use Rattle.lang.specs.Every.{both}
use Rattle.lang.specs.Checks.{or_else, absent_refusal}
use Rattle.captions.specs.declared.RunOptions.{RunOptions}
use Rattle.captions.specs.declared.NextLeft.{NextLeft}
use Rattle.captions.specs.declared.NextLeft.TheVariants as next
use Rattle.captions.specs.declared.Consumes.TheVariants as consumes
use Rattle.captions.specs.declared.State.{State}
use Rattle.captions.specs.declared.Answer.{Answer}
use Rattle.captions.specs.declared.Answer.TheVariants.{Char, Ligature, Kern, End, Refused}
use Rattle.captions.specs.declared.Step.{Step}
use Rattle.captions.specs.declared.Turned.{Turned}
use Rattle.captions.specs.declared.Turned.TheVariants.{Gives, Goes}
use Rattle.captions.specs.Queries.{is_found}
use Rattle.captions.specs.Steps.{find_within, turn, right_item, step_of}
use Rattle.step_turns.specs.Turns.{turn_once}
use Rattle.font_runs.specs.declared.FontRun.{FontRun}
use Rattle.font_runs.specs.declared.FontStep.{FontStep}
use Rattle.font_runs.specs.Requests.{LentFont}

-- ---- a free state (R474)

-- a left, by its place, has no pair with a right: nor where there is none, nor where one of them is above 255
abbrev pub pairless : List ℤ → ℕ → Option ℕ → Bool
pairless pairs x none = true
pairless pairs x (some y) = not (is_found (find_within pairs x y))

-- what follows a left once r letters are read: the next letter, or past the last the right item
abbrev pub following : List ℕ → Option ℕ → ℕ → Option ℕ
following word right r = cond (ltb r (length word)) (some (get_or word r 0)) right

-- the next left: a character, or the left boundary with a letter to read, that has no pair with what follows
abbrev pub left_free : List ℤ → Option ℕ → List ℕ → ℕ → NextLeft → Bool
left_free pairs right word r next.Boundary = both (ltb r (length word)) (pairless pairs 0 (some (get_or word r 0)))
left_free pairs right word r (next.Char c) = pairless pairs (suc c) (following word right r)
left_free pairs right word r (next.Lig c) = false
left_free pairs right word r (next.FinalLig c) = false
left_free pairs right word r next.None = false

-- free: no op and no ligature is pending, and the next left is free
abbrev pub free_state : List ℤ → Option ℕ → List ℕ → State → Bool
free_state pairs right word s =
    both (eqb s.ops 0) (both (eqb s.pending 0) (left_free pairs right word s.read s.next_left))

-- restarted: the same next left, letters read and letters given, and all else as fresh; the old place among the ops goes
abbrev pub restarted : State → State
restarted s =
    record {
      next_left = s.next_left;
      op = 0;
      ops = 0;
      read = s.read;
      given = s.given;
      pending = 0;
      pending_boundary = false;
      consumes_left = consumes.Nothing;
    }

-- ---- the first free state of a step

-- after a turn that answers there is none
abbrev pub on_ahead : (State → Option State) → Turned → Option State
on_ahead ahead (Gives t) = none
on_ahead ahead (Goes s) = ahead s

-- the first free state, each tested before its turn, after at most n turns
unfoldable pub free_ahead : (State → Bool) → (State → Turned) → ℕ → State → Option State
free_ahead free once zero s = cond (free s) (some s) none
free_ahead free once (suc n) s = cond (free s) (some s) (on_ahead (free_ahead free once n) (once s))

-- the right item of a word that is set in a font
abbrev pub right_in : LentFont → RunOptions → Option ℕ
right_in font options = right_item font.boundary options.right_boundary_override

-- .. that the turns of a step in a font meet, as many turns as a step has
abbrev pub first_free : LentFont → List ℕ → RunOptions → State → Option State
first_free font word options s =
    free_ahead (free_state font.pairs (right_in font options) word)
    (turn_once font.ops (turn font.pairs font.ops (right_in font options) word)) (suc (length word - s.read)) s

-- ---- the step (R475)

abbrev pub step_in_font : LentFont → List ℕ → RunOptions → State → Step
step_in_font font word options s = step_of font.pairs font.ops font.boundary word options s

-- a step in the font in force: what was asked for waits on
abbrev pub in_force : FontRun → Step → FontStep
in_force run t = record { answer = t.answer; run = record { state = t.state; font = run.font; asked = run.asked } }

-- a refused step hands back the run that it was handed, the request with it
abbrev pub hand_run : FontRun → FontRun → Answer → FontStep
hand_run run after (Char c p) = record { answer = Char c p; run = after }
hand_run run after (Ligature c p n a b) = record { answer = Ligature c p n a b; run = after }
hand_run run after (Kern k) = record { answer = Kern k; run = after }
hand_run run after End = record { answer = End; run = after }
hand_run run after (Refused n) = record { answer = Refused n; run = run }

-- a step in the font asked for, which is then in force with nothing asked for
abbrev pub in_asked : FontRun → ℕ → Step → FontStep
in_asked run number t = hand_run run (record { state = t.state; font = number; asked = None }) t.answer

-- by the first free state: without one the step is made in the font in force; with one from there in the font asked for
abbrev pub changed_by : LentFont → LentFont → List ℕ → RunOptions → FontRun → ℕ → Option State → FontStep
changed_by font other word options run number none = in_force run (step_in_font font word options run.state)
changed_by font other word options run number (some s) = in_asked run number (step_in_font other word options (restarted s))

-- 4: while a request waits both boundary characters are checked
abbrev pub both_edges : LentFont → LentFont → ℕ
both_edges font other = or_else (absent_refusal 255 font.boundary) (absent_refusal 255 other.boundary)

-- by that number
abbrev pub waiting_by : ℕ → FontRun → FontStep → FontStep
waiting_by zero run t = t
waiting_by (suc n) run t = record { answer = Refused (suc n); run = run }

-- THE contract of font_step: lent the font in force and the one asked for, which with nothing asked for is not read
abbrev pub font_step_by : LentFont → LentFont → List ℕ → RunOptions → FontRun → Asked ℕ → FontStep
font_step_by font other word options run None = in_force run (step_in_font font word options run.state)
font_step_by font other word options run (Some number) =
    waiting_by (both_edges font other) run (changed_by font other word options run number (first_free font word options run.state))

abbrev pub font_step : LentFont → LentFont → List ℕ → RunOptions → FontRun → FontStep
font_step font other word options run = font_step_by font other word options run run.asked
