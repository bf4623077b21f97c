-- Where a font that is asked for is known to wait (c_font_waits/specs/Waiting) the step is that of ligkern_step, on the first nine numbers,
-- and the last three stay.
-- Assumes nothing.
use mathlib.Core.Path.{◌≡◌, refl, sym, ap, subst, ◌∙◌}
use mathlib.Core.Bool.{Bool, true, false, cond}
use mathlib.Core.List.{List, ◌∷◌, ◌++◌}
use mathlib.Core.Option.{none, some}
use Prim.Native.Nat.{ℕ, zero, suc, ◌≤◌}
use native.Mathlib.Omega.{arith}
use lib.IntN.{ℤ}
use lib.Dec.{leb, eqb}
use lib.ListN.{length, get_or, drop}
use lib.Seq.{drop-cons}
use borrow.Author.Tests.{leb-true, eqb-true, eq-eqb}
use Rattle.std.specs.Prelude.{Some}
use Rattle.lang.specs.Every.{both}
use Rattle.lang.specs.Checks.{or_else, absent_refusal}
use Rattle.lang.proofs.Every.{both_left, both_right}
use Rattle.captions.specs.declared.RunOptions.{RunOptions}
use Rattle.captions.specs.declared.State.{State}
use Rattle.captions.specs.declared.Step.{Step}
use Rattle.c_states.specs.States.{numbers_of, is_state, state_at, moved_to}
use Rattle.c_steps.specs.Step.{step_run_from, step_in, step_number, StepsRun}
use Rattle.font_runs.specs.declared.FontRun.{FontRun}
use Rattle.font_runs.specs.declared.FontStep.{FontStep}
use Rattle.font_runs.specs.Requests.{LentFont}
use Rattle.font_runs.specs.Changes.{first_free, in_force, changed_by, both_edges, waiting_by, font_step}
use Rattle.c_font_runs.specs.RunLists.{asked_of, is_run, run_at, outside_run, run_read, run_moved}
use Rattle.c_font_runs.proofs.Laws.{run_long, run_state}
use Rattle.c_font_step_any.specs.FontSteps.{font_step_in, TellsStep, is_idle}
use Rattle.c_font_waits.specs.Waiting.{is_held, is_waiting}
use Rattle.c_font_waits.proofs.Waiting.{held_waits}
use Rattle.c_font_steps.proofs.Idle.{idle_refused}

no : {A : Type 0} → ◌≡◌ {A = Bool} false true → A
no e = absurd (let z : ◌≡◌ {A = ℕ} 0 1 = cc in omega arith)

-- ---- a run whose request waits

module _ (font other : LentFont) (word : List ℕ) (ns : List ℕ)
    (h : is_waiting font.boundary other.boundary font.pairs word ns ≡ true) (idle : is_idle ns ≡ false) where
  pub waiting_run : is_run ns ≡ true
  waiting_run = both_left (is_run ns) _ h

  few : get_or ns 10 0 ≤ 1
  few =
      leb-true (get_or ns 10 0) 1
      (both_left (leb (get_or ns 10 0) 1) _
      (both_right (leb (get_or ns 9 0) 4294967295) _ (both_right (is_state ns) _ (both_right (leb 12 (length ns)) _ waiting_run))))

  is_asked_lem : get_or ns 10 0 ≡ 0 → ⊥
  is_asked_lem z = no (sym idle ∙ rw (waiting_run, eq-eqb (get_or ns 10 0) 0 z))

  flag : get_or ns 10 0 ≡ 1
  flag = by (get_or ns 10 0) few is_asked_lem
    where
      by : (n : ℕ) → n ≤ 1 → (n ≡ 0 → ⊥) → n ≡ 1
      by zero l o = absurd (o refl)
      by (suc n) l o = omega (arith, l)

  after_run : both (eqb (absent_refusal 255 font.boundary) 0)
      (both (eqb (absent_refusal 255 other.boundary) 0) (is_held font.pairs word (state_at ns))) ≡ true
  after_run = both_right (is_run ns) _ h

  after_edge : both (eqb (absent_refusal 255 other.boundary) 0) (is_held font.pairs word (state_at ns)) ≡ true
  after_edge = both_right (eqb (absent_refusal 255 font.boundary) 0) _ after_run

  edges : both_edges font other ≡ 0
  edges =
      ap (λ (n : ℕ). or_else n (absent_refusal 255 other.boundary))
      (eqb-true (absent_refusal 255 font.boundary) 0 (both_left (eqb (absent_refusal 255 font.boundary) 0) _ after_run))
      ∙ eqb-true (absent_refusal 255 other.boundary) 0 (both_left (eqb (absent_refusal 255 other.boundary) 0) _ after_edge)

  abbrev run : FontRun
  run = record { state = state_at ns; font = get_or ns 9 0; asked = Some (get_or ns 11 0) }

  read : run_read ns ≡ run
  read =
      ap (λ (b : Bool). cond b (run_at ns) outside_run) waiting_run
      ∙ (λ j. record { state = state_at ns; font = get_or ns 9 0; asked = asked_of (flag j) (get_or ns 11 0) })

  -- what stands after the state
  last_three : drop 9 ns ≡ get_or ns 9 0 ∷ 1 ∷ get_or ns 11 0 ∷ drop 12 ns
  last_three =
      let l = run_long ns waiting_run in
      drop-cons ns 9 0 (omega (arith, l))
      ∙ ap (λ (t : List ℕ). get_or ns 9 0 ∷ t) (drop-cons ns 10 0 (omega (arith, l)))
      ∙ (λ j. get_or ns 9 0 ∷ flag j ∷ drop-cons ns 11 0 (omega (arith, l)) j)

  moved_by : (n : ℕ) (s : State) →
      moved_to n ns s ≡ run_moved n ns (record { state = s; font = get_or ns 9 0; asked = Some (get_or ns 11 0) })
  moved_by zero s = ap (λ (t : List ℕ). numbers_of s ++ t) last_three
  moved_by (suc n) s = refl

  module _ (options : RunOptions) where
    abbrev given : Step
    given = step_in font.pairs font.ops font.boundary word options ns

    waits : first_free font word options (state_at ns) ≡ none
    waits =
        held_waits font word options (state_at ns)
        (both_right (eqb (absent_refusal 255 other.boundary) 0) (is_held font.pairs word (state_at ns)) after_edge)

    step_is : in_force run given ≡ font_step_in font other word options ns
    step_is =
        ap (λ (b : Bool). in_force run (step_run_from font.pairs font.ops font.boundary word options (cond b (some (state_at ns)) none)))
        (run_state ns waiting_run)
        ∙ sym (λ j. waiting_by (edges j) run (changed_by font other word options run (get_or ns 11 0) (waits j)))
        ∙ ap (font_step font other word options) (sym read)

    pub waiting_told : (item : List ℤ) {r q : ℕ} {state' : List ℕ} {item' : List ℤ} →
        StepsRun font.pairs font.ops font.boundary word options ns item r state' item' → q ≡ r →
        TellsStep (font_step_in font other word options ns) ns item q state' item'
    waiting_told item {r} {q} {state'} {item'} done e =
        subst (λ (t : FontStep). TellsStep t ns item q state' item') step_is
        record {
          number = e ∙ done.number;
          moved = done.moved ∙ moved_by (step_number font.pairs font.ops font.boundary word options ns (length item)) given.state;
          told = done.told;
        }

-- ---- a step that stays in the font in force

module _ (font other : LentFont) (word : List ℕ) (options : RunOptions) (ns : List ℕ) (item : List ℤ) {r : ℕ} {state' : List ℕ} {item' : List ℤ}
    (done : StepsRun font.pairs font.ops font.boundary word options ns item r state' item') where
  pub kept_refused : (b : Bool) → b ≡ is_idle ns → cond b true (is_waiting font.boundary other.boundary font.pairs word ns) ≡ true →
      (r ≡ 0 → ⊥) → TellsStep (font_step_in font other word options ns) ns item r state' item'
  kept_refused true e h o = idle_refused ns (sym e) font other word options item done o
  kept_refused false e h o = waiting_told font other word ns h (sym e) options item done refl

  pub kept_taken : (b : Bool) → b ≡ is_idle ns → cond b true (is_waiting font.boundary other.boundary font.pairs word ns) ≡ true → b ≡ false →
      r ≡ 0 → TellsStep (font_step_in font other word options ns) ns item 0 state' item'
  kept_taken true e h f z = no (sym f)
  kept_taken false e h f z = waiting_told font other word ns h (sym e) options item done (sym z)
