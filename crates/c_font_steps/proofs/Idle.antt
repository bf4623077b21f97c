-- With nothing asked for the step is that of ligkern_step, on the first nine numbers; the last number is written 0.
-- Assumes nothing.
use mathlib.Core.Path.{◌≡◌, refl, sym, ap, subst, ◌∙◌}
use mathlib.Core.Bool.{Bool, true, cond}
use mathlib.Core.List.{List, [], ◌∷◌, ◌++◌}
use mathlib.Core.Option.{none, some}
use Prim.Native.Nat.{ℕ, zero, suc, ◌≤◌}
use native.Mathlib.Omega.{arith}
use lib.IntN.{ℤ}
use lib.Dec.{eqb}
use lib.ListN.{length, get_or, set, drop}
use lib.Seq.{drop-cons}
use borrow.Author.Tests.{eqb-true}
use Rattle.std.specs.Prelude.{None}
use Rattle.lang.proofs.Every.{both_left, both_right}
use Rattle.captions.specs.declared.RunOptions.{RunOptions}
use Rattle.captions.specs.declared.State.{State}
use Rattle.captions.specs.declared.Step.{Step}
use Rattle.c_states.specs.States.{numbers_of, is_state, state_at, moved_to}
use Rattle.c_steps.specs.Step.{step_run_from, step_in, step_number, StepsRun}
use Rattle.font_runs.specs.declared.FontRun.{FontRun}
use Rattle.font_runs.specs.declared.FontStep.{FontStep}
use Rattle.font_runs.specs.Requests.{LentFont}
use Rattle.font_runs.specs.Changes.{in_force, font_step_by, font_step}
use Rattle.c_font_runs.specs.RunLists.{asked_of, is_run, run_at, outside_run, run_read, run_moved}
use Rattle.c_font_runs.proofs.Laws.{run_long, run_state}
use Rattle.c_font_step_any.specs.FontSteps.{font_step_in, TellsStep, is_idle}
use Rattle.c_font_step_any.proofs.Telling.{stays}

module _ (ns : List ℕ) (h : is_idle ns ≡ true) where
  pub idle_run : is_run ns ≡ true
  idle_run = both_left (is_run ns) _ h

  idle_flag : get_or ns 10 0 ≡ 0
  idle_flag = eqb-true (get_or ns 10 0) 0 (both_right (is_run ns) (eqb (get_or ns 10 0) 0) h)

  abbrev idle : FontRun
  idle = record { state = state_at ns; font = get_or ns 9 0; asked = None }

  read : run_read ns ≡ idle
  read =
      ap (λ (b : Bool). cond b (run_at ns) outside_run) idle_run
      ∙ (λ j. record { state = state_at ns; font = get_or ns 9 0; asked = asked_of (idle_flag j) (get_or ns 11 0) })

  -- what stands after the state
  last_three : drop 9 ns ≡ get_or ns 9 0 ∷ 0 ∷ get_or ns 11 0 ∷ drop 12 ns
  last_three =
      let l = run_long ns idle_run in
      drop-cons ns 9 0 (omega (arith, l))
      ∙ ap (λ (t : List ℕ). get_or ns 9 0 ∷ t) (drop-cons ns 10 0 (omega (arith, l)))
      ∙ (λ j. get_or ns 9 0 ∷ idle_flag j ∷ drop-cons ns 11 0 (omega (arith, l)) j)

  stored : (s : State) → set (numbers_of s ++ drop 9 ns) 11 0 ≡ run_moved 0 ns (record { state = s; font = get_or ns 9 0; asked = None })
  stored s = ap (λ (t : List ℕ). set (numbers_of s ++ t) 11 0) last_three

  module _ (font other : LentFont) (word : List ℕ) (options : RunOptions) where
    abbrev given : Step
    given = step_in font.pairs font.ops font.boundary word options ns

    step_is : in_force idle given ≡ font_step_in font other word options ns
    step_is =
        ap (λ (b : Bool). in_force idle (step_run_from font.pairs font.ops font.boundary word options (cond b (some (state_at ns)) none)))
        (run_state ns idle_run)
        ∙ ap (font_step font other word options) (sym read)

    module _ (item : List ℤ) {r : ℕ} {state' : List ℕ} {item' : List ℤ}
        (done : StepsRun font.pairs font.ops font.boundary word options ns item r state' item') where
      abbrev number : ℕ
      number = step_number font.pairs font.ops font.boundary word options ns (length item)

      kept : (n : ℕ) → (n ≡ 0 → ⊥) → moved_to n ns given.state ≡ ns
      kept zero o = absurd (o refl)
      kept (suc n) o = refl

      pub idle_refused : (r ≡ 0 → ⊥) → TellsStep (font_step_in font other word options ns) ns item r state' item'
      idle_refused o =
          let q : number ≡ 0 → ⊥ = λ z. o (done.number ∙ z) in
          subst (λ (t : FontStep). TellsStep t ns item r state' item') step_is
          record {
            number = done.number;
            moved = done.moved ∙ kept number q ∙ stays ns number (in_force idle given).run q;
            told = done.told;
          }

      pub idle_taken : r ≡ 0 → TellsStep (font_step_in font other word options ns) ns item 0 (set state' 11 0) item'
      idle_taken z =
          let q : number ≡ 0 = sym done.number ∙ z in
          subst (λ (t : FontStep). TellsStep t ns item 0 (set state' 11 0) item') step_is
          record {
            number = sym q;
            moved =
                ap (λ (l : List ℕ). set l 11 0) (done.moved ∙ ap (λ (n : ℕ). moved_to n ns given.state) q) ∙ stored given.state
                ∙ ap (λ (n : ℕ). run_moved n ns (in_force idle given).run) (sym q);
            told = done.told;
          }
