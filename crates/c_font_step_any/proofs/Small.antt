-- What a step that may change the font answers: its numbers are small, and one that is taken found a run in the list.
-- Assumes nothing.
use mathlib.Core.Path.{◌≡◌, refl, sym, ap, ◌∙◌}
use mathlib.Core.Bool.{Bool, true, false, cond}
use mathlib.Core.List.{List}
use mathlib.Core.Option.{Option, none, some}
use Prim.Native.Nat.{ℕ, zero, suc, ◌<◌, ◌≤◌}
use native.Mathlib.Omega.{arith}
use lib.IntN.{ℤ}
use lib.ListN.{length}
use Rattle.std.specs.Prelude.{Option as Asked, Some, None}
use Rattle.lang.specs.Records.{absent_or}
use Rattle.lang.specs.Checks.{or_else}
use Rattle.captions.specs.declared.RunOptions.{RunOptions}
use Rattle.captions.specs.declared.State.{State}
use Rattle.captions.specs.declared.Answer.{Answer}
use Rattle.captions.specs.declared.Answer.TheVariants.{Char, Ligature, Kern, End, Refused}
use Rattle.captions.specs.declared.Step.{Step}
use Rattle.captions.specs.Replies.{answer_reply}
use Rattle.captions.specs.Steps.{step_refusal}
use Rattle.word_items.specs.ItemLists.{Small}
use Rattle.word_set.proofs.Bounds.{step_small}
use Rattle.c_steps.proofs.Stepping.{from_is}
use Rattle.font_runs.specs.declared.FontRun.{FontRun}
use Rattle.font_runs.specs.declared.FontStep.{FontStep}
use Rattle.font_runs.specs.Requests.{LentFont}
use Rattle.font_runs.specs.Changes.{restarted, step_in_font, first_free, hand_run, changed_by, both_edges, waiting_by, font_step_by, font_step}
use Rattle.c_font_runs.specs.RunLists.{is_run, run_at, outside_run, run_read}
use Rattle.c_font_runs.proofs.Laws.{run_long}

handed : (run after : FontRun) (a : Answer) → Small a → Small (hand_run run after a).answer
handed run after (Char c p) h = h
handed run after (Ligature c p n a b) h = h
handed run after (Kern k) h = h
handed run after End h = h
handed run after (Refused n) h = h

-- the number of the boundary characters is 0 or 4
edges_few : (a b : Bool) → or_else (cond a 0 4) (cond b 0 4) ≤ 20
edges_few true true = omega arith
edges_few true false = omega arith
edges_few false b = omega arith

waited : (m : ℕ) (run : FontRun) (t : FontStep) → m ≤ 20 → Small t.answer → Small (waiting_by m run t).answer
waited zero run t l h = h
waited (suc m) run t l h = (omega arith, l)

module _ (font other : LentFont) (word : List ℕ) (options : RunOptions) where
  changed : (run : FontRun) (n : ℕ) (o : Option State) → Small (changed_by font other word options run n o).answer
  changed run n none = step_small font.pairs font.ops font.boundary word options run.state
  changed run n (some s) =
      let t = step_in_font other word options (restarted s) in
      handed run (record { state = t.state; font = n; asked = None }) t.answer
      (step_small other.pairs other.ops other.boundary word options (restarted s))

  pub font_small_by : (run : FontRun) (a : Asked ℕ) → Small (font_step_by font other word options run a).answer
  font_small_by run None = step_small font.pairs font.ops font.boundary word options run.state
  font_small_by run (Some n) =
      waited (both_edges font other) run (changed_by font other word options run n (first_free font word options run.state))
      (edges_few (absent_or 255 font.boundary) (absent_or 255 other.boundary))
      (changed run n (first_free font word options run.state))

  pub font_small : (run : FontRun) → Small (font_step font other word options run).answer
  font_small run = font_small_by run run.asked

  later_some : (m n : ℕ) → or_else m (suc n) ≡ 0 → ⊥
  later_some zero n e = omega arith
  later_some (suc m) n e = omega arith

  -- numbers that are no run's are refused
  taken_by : (ns : List ℕ) (b : Bool) → is_run ns ≡ b →
      (answer_reply (font_step font other word options (cond b (run_at ns) outside_run)).answer).number ≡ 0 → 12 ≤ length ns
  taken_by ns true e z = run_long ns e
  taken_by ns false e z =
      absurd (later_some (step_refusal font.boundary word options) 6
      (sym (ap (λ (t : Step). (answer_reply t.answer).number) (from_is font.pairs font.ops font.boundary word options none)) ∙ z))

  pub taken_long : (ns : List ℕ) → (answer_reply (font_step font other word options (run_read ns)).answer).number ≡ 0 → 12 ≤ length ns
  taken_long ns z = taken_by ns (is_run ns) refl z
