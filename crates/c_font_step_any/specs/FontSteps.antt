-- One step (R475) of a run that stands in a list of twelve numbers (R478): the contract of `ligkern_font_step`.
use Rattle.std.specs.Prelude.{◌≡◌, Bool, List, ℕ, ℤ, pos, eqb, length, get_or}
use Rattle.lang.specs.Every.{both}
use Rattle.lang.specs.Checks.{lower}
use Rattle.lang.specs.Answers.{list_of, room_refusal}
use Rattle.captions.specs.declared.RunOptions.{RunOptions}
use Rattle.captions.specs.Replies.{answer_reply}
use Rattle.c_steps.specs.Step.{item_numbers}
use Rattle.font_runs.specs.declared.FontRun.{FontRun}
use Rattle.font_runs.specs.declared.FontStep.{FontStep}
use Rattle.font_runs.specs.Requests.{LentFont}
use Rattle.font_runs.specs.Changes.{font_step}
use Rattle.c_font_runs.specs.RunLists.{is_run, run_read, run_moved}

-- the step from the run that stands in a list; numbers that are no run's are read as one that is 7 at every step, after 4 and 6
abbrev pub font_step_in : LentFont → LentFont → List ℕ → RunOptions → List ℕ → FontStep
font_step_in font other word options ns = font_step font other word options (run_read ns)

-- its number, and 15 where n places do not hold an item: the lower of the two, so that 15 comes before 20
abbrev pub font_step_number : FontStep → ℕ → ℕ
font_step_number t n = lower (answer_reply t.answer).number (room_refusal 7 n)

-- what a step leaves: the number, and what the two lists hold
pub record TellsStep (t : FontStep) (ns : List ℕ) (item : List ℤ) (r : ℕ) (ns' : List ℕ) (item' : List ℤ) : Type 0 where
  pub number : r ≡ font_step_number t (length item)
  pub moved : ns' ≡ run_moved (font_step_number t (length item)) ns t.run
  pub told : item' ≡ list_of (font_step_number t (length item)) (pos 0) (length item) (item_numbers t.answer)

-- twelve numbers that are a run's with nothing asked for
abbrev pub is_idle : List ℕ → Bool
is_idle ns = both (is_run ns) (eqb (get_or ns 10 0) 0)
