-- Numbers that are a run's, and a run that is put into a list.
-- Assumes nothing.
use mathlib.Core.Path.{◌≡◌, refl, sym, ap, ◌∙◌}
use mathlib.Core.Bool.{Bool, true, cond}
use mathlib.Core.List.{List, [], ◌∷◌, ◌++◌}
use mathlib.Core.Option.{none, some}
use Prim.Native.Nat.{ℕ, zero, suc, ◌≤◌}
use native.Mathlib.Omega.{arith}
use lib.Dec.{leb}
use lib.ListN.{length, get_or, set, drop, length-drop}
use lib.Seq.{drop-drop}
use borrow.Author.Tests.{leb-true}
use Rattle.std.specs.Prelude.{Option, Some}
use Rattle.lang.proofs.Arms.{NoneOf}
use Rattle.lang.specs.Every.{both}
use Rattle.lang.specs.Answers.{room_refusal}
use Rattle.lang.proofs.Every.{both_left, both_right}
use Rattle.lang.proofs.Refusals.{room_is}
use Rattle.captions.specs.declared.State.{State}
use Rattle.c_states.specs.States.{numbers_of, is_state, state_at, state_read, or_outside, moved_to, PutsState}
use Rattle.font_runs.specs.declared.FontRun.{FontRun}
use Rattle.c_font_runs.specs.RunLists.{asked_flag, asked_number, asked_of, asked_fits, is_run, run_at, outside_run, run_read, run_moved}

-- ---- by the flag

pub fits_other : (f n : ℕ) → NoneOf (Unit {0}) f (0 ∷ []) → leb n 4294967295 ≡ asked_fits f n
fits_other zero n h = absurd (h.1 refl)
fits_other (suc f) n h = refl

pub asked_other : (f n : ℕ) → NoneOf (Unit {0}) f (0 ∷ []) → Some n ≡ asked_of f n
asked_other zero n h = absurd (h.1 refl)
asked_other (suc f) n h = refl

-- ---- numbers that are a run's

module _ (ns : List ℕ) (h : is_run ns ≡ true) where
  rest : both (is_state ns) (both (leb (get_or ns 9 0) 4294967295) (both (leb (get_or ns 10 0) 1) (asked_fits (get_or ns 10 0) (get_or ns 11 0)))) ≡ true
  rest = both_right (leb 12 (length ns)) _ h

  numbers : both (leb (get_or ns 9 0) 4294967295) (both (leb (get_or ns 10 0) 1) (asked_fits (get_or ns 10 0) (get_or ns 11 0))) ≡ true
  numbers = both_right (is_state ns) _ rest

  pub run_long : 12 ≤ length ns
  run_long = leb-true 12 (length ns) (both_left (leb 12 (length ns)) _ h)

  pub run_state : is_state ns ≡ true
  run_state = both_left (is_state ns) _ rest

  pub run_font : get_or ns 9 0 ≤ 4294967295
  run_font = leb-true (get_or ns 9 0) 4294967295 (both_left (leb (get_or ns 9 0) 4294967295) _ numbers)

  fits_by : (f n : ℕ) → (f ≡ 0 → ⊥) → asked_fits f n ≡ true → n ≤ 4294967295
  fits_by zero n o e = absurd (o refl)
  fits_by (suc f) n o e = leb-true n 4294967295 e

  pub run_asked : (get_or ns 10 0 ≡ 0 → ⊥) → get_or ns 11 0 ≤ 4294967295
  run_asked o =
      fits_by (get_or ns 10 0) (get_or ns 11 0) o
      (both_right (leb (get_or ns 10 0) 1) (asked_fits (get_or ns 10 0) (get_or ns 11 0)) (both_right (leb (get_or ns 9 0) 4294967295) _ numbers))

-- ---- a run that is put

put_three : (s : State) (t : List ℕ) (f a n : ℕ) → 3 ≤ length t →
    set (set (set (numbers_of s ++ t) 9 f) 10 a) 11 n ≡ numbers_of s ++ (f ∷ a ∷ n ∷ drop 3 t)
put_three s [] f a n h = absurd (omega (arith, h))
put_three s (x ∷ []) f a n h = absurd (omega (arith, h))
put_three s (x ∷ y ∷ []) f a n h = absurd (omega (arith, h))
put_three s (x ∷ y ∷ z ∷ t) f a n h = refl

module _ (ns : List ℕ) (long : 12 ≤ length ns) where
  state_put : {s : State} {r : ℕ} {ns' : List ℕ} → PutsState s ns r ns' → ns' ≡ numbers_of s ++ drop 9 ns
  state_put {s} p = p.stored ∙ ap (λ (m : ℕ). moved_to m ns s) (room_is 9 (length ns) (omega (arith, long)))

  pub run_put : (run : FontRun) {r f a n : ℕ} {ns' : List ℕ} → PutsState run.state ns r ns' → f ≡ run.font → a ≡ asked_flag run.asked →
      n ≡ asked_number run.asked → set (set (set ns' 9 f) 10 a) 11 n ≡ run_moved (room_refusal 12 (length ns)) ns run
  run_put run {r} {f} {a} {n} {ns'} p e g k =
      (λ j. set (set (set (state_put p j) 9 (e j)) 10 (g j)) 11 (k j))
      ∙ put_three run.state (drop 9 ns) run.font (asked_flag run.asked) (asked_number run.asked) (omega (arith, length-drop 9 ns, long))
      ∙ ap (λ (t : List ℕ). numbers_of run.state ++ (run.font ∷ asked_flag run.asked ∷ asked_number run.asked ∷ t)) (drop-drop 3 9 ns)
      ∙ sym (ap (λ (m : ℕ). run_moved m ns run) (room_is 12 (length ns) long))

-- ---- a run that is read

module _ (ns : List ℕ) (h : is_run ns ≡ true) where
  pub state_read_lem : or_outside (state_read ns) ≡ state_at ns
  state_read_lem = ap (λ (b : Bool). or_outside (cond b (some (state_at ns)) none)) (run_state ns h)

  pub run_read_lem : {s : State} {a : Option ℕ} → s ≡ or_outside (state_read ns) → a ≡ asked_of (get_or ns 10 0) (get_or ns 11 0) →
      ◌≡◌ {A = FontRun} (record { state = s; font = get_or ns 9 0; asked = a }) (run_read ns)
  run_read_lem e f = (λ j. record { state = (e ∙ state_read_lem) j; font = get_or ns 9 0; asked = f j }) ∙ sym (ap (λ (b : Bool). cond b (run_at ns) outside_run) h)
