-- A step with a request waiting, by the first free state.
-- Assumes nothing.
use mathlib.Core.Path.{◌≡◌, sym, ap, ◌∙◌}
use mathlib.Core.Bool.{Bool, true, false, cond}
use mathlib.Core.List.{List}
use mathlib.Core.Option.{none, some}
use Prim.Native.Nat.{ℕ, zero, suc}
use Rattle.captions.specs.declared.RunOptions.{RunOptions}
use Rattle.captions.specs.declared.State.{State}
use Rattle.captions.specs.declared.Answer.TheVariants.{Refused}
use Rattle.font_runs.specs.declared.FontRun.{FontRun}
use Rattle.font_runs.specs.declared.FontStep.{FontStep}
use Rattle.font_runs.specs.Requests.{LentFont}
use Rattle.font_runs.specs.Changes.{free_state, right_in, first_free, restarted, changed_by, waiting_by, in_force, in_asked, step_in_font}
use Rattle.font_runs.specs.Passing.{passed}
use Rattle.font_runs.proofs.Theorems.{only_boundary_passes}

-- ---- a step with a request waiting

module _ (font other : LentFont) (word : List ℕ) (options : RunOptions) (run : FontRun) (asked : ℕ) where
  -- refused for a boundary character
  pub edges_refused : {m r : ℕ} (t : FontStep) → r ≡ m → (r ≡ 0 → ⊥) →
      ◌≡◌ {A = FontStep} (record { answer = Refused r; run = run }) (waiting_by m run t)
  edges_refused {m} {r} t e h = by m e
    where
      by : (n : ℕ) → r ≡ n → ◌≡◌ {A = FontStep} (record { answer = Refused r; run = run }) (waiting_by n run t)
      by zero q = absurd (h q)
      by (suc n) q = rw q

  abbrev whole : ℕ → FontStep
  whole m = waiting_by m run (changed_by font other word options run asked (first_free font word options run.state))

  abbrev at : State
  at = passed font word run.state

  by_free : (b : Bool) {m : ℕ} → m ≡ 0 → free_state font.pairs (right_in font options) word at ≡ b →
      changed_by font other word options run asked (cond b (some at) none) ≡ whole m
  by_free b {m} z e =
      ap (changed_by font other word options run asked)
      (ap (λ (t : Bool). cond t (some at) none) (sym e) ∙ sym (only_boundary_passes font word options run.state))
      ∙ ap whole (sym z)

  pub changes : {m : ℕ} → m ≡ 0 → free_state font.pairs (right_in font options) word at ≡ true →
      in_asked run asked (step_in_font other word options (restarted at)) ≡ whole m
  changes z e = by_free true z e

  pub stays : {m : ℕ} → m ≡ 0 → free_state font.pairs (right_in font options) word at ≡ false →
      in_force run (step_in_font font word options run.state) ≡ whole m
  stays z e = by_free false z e
