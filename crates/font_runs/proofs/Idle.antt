-- Without a request a run answers what its state's run answers.
-- Assumes nothing.
use mathlib.Core.Path.{◌≡◌, refl, ap, ◌∙◌}
use mathlib.Core.List.{List, ◌∷◌}
use Prim.Native.Nat.{ℕ, zero, suc}
use Rattle.std.specs.Prelude.{None}
use Rattle.captions.specs.declared.RunOptions.{RunOptions}
use Rattle.captions.specs.declared.State.{State}
use Rattle.captions.specs.declared.Answer.{Answer}
use Rattle.captions.specs.Runs.{answers}
use Rattle.font_runs.specs.declared.FontRun.{FontRun}
use Rattle.font_runs.specs.Requests.{LentFont}
use Rattle.font_runs.specs.Changes.{step_in_font}
use Rattle.font_runs.specs.Purpose.{font_answers, WithoutRequest}

module _ (font other : LentFont) (word : List ℕ) (options : RunOptions) where
  idle : (n : ℕ) (s : State) (number : ℕ) →
      font_answers font other word options n (record { state = s; font = number; asked = None })
      ≡ answers font.pairs font.ops font.boundary word options n s
  unfolding font_answers answers
  idle zero s number = refl
  idle (suc n) s number =
      let t = step_in_font font word options s in
      ap (λ (l : List Answer). t.answer ∷ l) (idle n t.state number)

pub without_request : WithoutRequest
without_request font other word options n run e =
    (λ j. font_answers font other word options n (record { state = run.state; font = run.font; asked = e j }))
    ∙ idle font other word options n run.state run.font
