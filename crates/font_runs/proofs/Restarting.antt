-- From its first free state a run and the same run restarted answer the same, in one font.
-- Assumes nothing.
use mathlib.Core.Path.{◌≡◌, refl, sym, ap, subst, ◌∙◌}
use mathlib.Core.Bool.{Bool, true, false, cond, not}
use mathlib.Core.List.{List}
use mathlib.Core.Option.{Option, none, some}
use Prim.Native.Nat.{ℕ, zero, suc, ◌+◌, ◌-◌, ◌<◌, ◌≤◌}
use native.Mathlib.Omega.{arith}
use lib.IntN.{ℤ}
use lib.Dec.{ltb, eqb}
use lib.ListN.{length, get_or}
use borrow.Author.Tests.{eqb-true, ltb-true, le-leb}
use Rattle.lang.specs.Checks.{is_letter}
use Rattle.lang.proofs.Every.{both_left, both_right}
use Rattle.captions.specs.declared.RunOptions.{RunOptions}
use Rattle.captions.specs.declared.NextLeft.{NextLeft}
use Rattle.captions.specs.declared.NextLeft.TheVariants as next
use Rattle.captions.specs.declared.Consumes.{Consumes}
use Rattle.captions.specs.declared.Consumes.TheVariants as consumes
use Rattle.captions.specs.declared.State.{State}
use Rattle.captions.specs.declared.Answer.TheVariants.{Char}
use Rattle.captions.specs.declared.Step.{Step}
use Rattle.captions.specs.declared.Turned.TheVariants.{Gives, Goes}
use Rattle.captions.specs.Queries.{is_found}
use Rattle.reading.specs.Items.{item}
use Rattle.captions.specs.Tables.{last_code, last_flag, record_fits}
use Rattle.captions.specs.Steps.{give_character, after_right, entered_at, turn_by, find_within, turn_at_end, turn, goes_on, by_next, read_op, step_by, run_on}
use Rattle.captions.proofs.Sound.{state, waiting}
use Rattle.font_runs.specs.Requests.{LentFont}
use Rattle.font_runs.specs.Changes.{pairless, left_free, free_state, restarted, right_in, first_free}
use Rattle.font_runs.proofs.Passing.{first_cases}
use Rattle.font_runs.proofs.Began.{BeganAt, Began}
use Rattle.font_runs.proofs.Clearing.{cleared_step, ran}

no : {A : Type 0} → ◌≡◌ {A = Bool} false true → A
no e = absurd (let z : ◌≡◌ {A = ℕ} 0 1 = cc in omega arith)

-- ---- a free character is given at once

module _ (pairs ops : List ℤ) (right : Option ℕ) (word : List ℕ) (letters : (i : ℕ) → i < length word → is_letter (get_or word i 0) ≡ true)
    (c r g : ℕ) (inside : suc g ≤ r) where
  -- what the step leaves
  abbrev given : ℕ → Bool → Step
  given o l =
      record { answer = Char c g; state = state (cond l (next.Char (get_or word r 0)) next.None) o 0 (cond l (suc r) r) (g + 1) 0 false consumes.Nothing }

  module _ (o : ℕ) (b : Bool) (k : Consumes) where
    abbrev at : State
    at = state (next.Char c) o 0 r g 0 b k

    character : (x : NextLeft) (n : ℕ) → suc g ≤ n →
        give_character c (state x o 0 n g 0 b consumes.Nothing) ≡ record { answer = Char c g; state = state x o 0 n (g + 1) 0 false consumes.Nothing }
    character x n h = rw (le-leb (g + 1) n (omega (arith, h)))

    at_letter : (y : ℕ) (f : Option ℕ) → not (is_found f) ≡ true →
        turn_by pairs ops (next.Char c) true y at f
        ≡ Gives (record { answer = Char c g; state = state (next.Char y) o 0 (suc r) (g + 1) 0 false consumes.Nothing })
    at_letter y none e = ap Gives (character (next.Char y) (suc r) (omega (arith, inside)))
    at_letter y (some i) e = no e

    at_right : (y : ℕ) (f : Option ℕ) → not (is_found f) ≡ true → turn_by pairs ops (next.Char c) false y at f ≡ Gives (given o false)
    at_right y none e = ap Gives (character next.None r inside)
    at_right y (some i) e = no e

    at_end_lem : (f : Option ℕ) → pairless pairs (suc c) f ≡ true → turn_at_end pairs ops f (next.Char c) at ≡ Gives (given o false)
    at_end_lem none e = ap Gives (character next.None r inside)
    at_end_lem (some y) e = at_right y (find_within pairs (suc c) y) e

    by_letter_lem : (l : Bool) → ltb r (length word) ≡ l → pairless pairs (suc c) (cond l (some (get_or word r 0)) right) ≡ true →
        turn pairs ops right word (next.Char c) at ≡ Gives (given o l)
    by_letter_lem true e h = rw (e, letters r (ltb-true r (length word) e)) (at_letter (get_or word r 0) (find_within pairs (suc c) (get_or word r 0)) h)
    by_letter_lem false e h = rw e (at_end_lem right h)

    free-given : (go : State → Step) → left_free pairs right word r (next.Char c) ≡ true →
        step_by ops (turn pairs ops right word) go at ≡ given o (ltb r (length word))
    free-given go h = ap (goes_on go) (by_letter_lem (ltb r (length word)) refl h)

    run-given : (n : ℕ) → left_free pairs right word r (next.Char c) ≡ true →
        run_on ops (turn pairs ops right word) n at ≡ given o (ltb r (length word))
    unfolding run_on
    run-given zero h = free-given _ h
    run-given (suc n) h = free-given _ h

  -- so it is from the state restarted, but for the place among the ops
  character_restarts : (o : ℕ) (b : Bool) (k : Consumes) (n : ℕ) → left_free pairs right word r (next.Char c) ≡ true →
      cleared_step (run_on ops (turn pairs ops right word) n (at o b k)) ≡ cleared_step (run_on ops (turn pairs ops right word) n (at 0 false consumes.Nothing))
  character_restarts o b k n h = ap cleared_step (run-given o b k n h) ∙ ap cleared_step (sym (run-given 0 false consumes.Nothing n h))

-- ---- the first free state

module _ (pairs ops : List ℤ) (right : Option ℕ) (word : List ℕ) (letters : (i : ℕ) → i < length word → is_letter (get_or word i 0) ≡ true) where
  abbrev run : ℕ → State → Step
  run = run_on ops (turn pairs ops right word)

  by_next_lem : (n : ℕ) (x : NextLeft) (o r g : ℕ) (b : Bool) (k : Consumes) → left_free pairs right word r x ≡ true →
      BeganAt x (state x o 0 r g 0 b k) → g + waiting x ≤ r →
      cleared_step (run n (state x o 0 r g 0 b k)) ≡ cleared_step (run n (state x 0 0 r g 0 false consumes.Nothing))
  by_next_lem n next.Boundary o r g b k f e h = ap (λ (s : State). cleared_step (run n s)) e
  by_next_lem n (next.Char c) o r g b k f e h = character_restarts pairs ops right word letters c r g (omega (arith, h)) o b k n f
  by_next_lem n (next.Lig c) o r g b k f e h = no f
  by_next_lem n (next.FinalLig c) o r g b k f e h = no f
  by_next_lem n next.None o r g b k f e h = no f

  -- a free state
  free_restarts : (n : ℕ) (s : State) → free_state pairs right word s ≡ true → Began s → s.given + waiting s.next_left ≤ s.read →
      cleared_step (run n s) ≡ cleared_step (run n (restarted s))
  free_restarts n s f e h =
      let a = eqb-true s.ops 0 (both_left (eqb s.ops 0) _ f) in
      let q = both_right (eqb s.ops 0) _ f in
      let b = eqb-true s.pending 0 (both_left (eqb s.pending 0) _ q) in
      let m : s ≡ state s.next_left s.op 0 s.read s.given 0 s.pending_boundary s.consumes_left =
      λ j. state s.next_left s.op (a j) s.read s.given (b j) s.pending_boundary s.consumes_left in
      ap (λ (t : State). cleared_step (run n t)) m
      ∙ by_next_lem n s.next_left s.op s.read s.given s.pending_boundary s.consumes_left
      (both_right (eqb s.pending 0) _ q) (subst (BeganAt s.next_left) m e) h

  module _ (s : State) (began : Began s) (counted : s.given + waiting s.next_left ≤ s.read) where
    abbrev Restarts : State → Type 0
    Restarts t =
        free_state pairs right word t ≡ true →
        cleared_step (run (suc (length word - s.read)) s) ≡ cleared_step (run (suc (length word - t.read)) (restarted t))

    itself : Restarts s
    itself f = free_restarts (suc (length word - s.read)) s f began counted

    passes : (k : ℕ) → s.next_left ≡ next.Boundary → s.ops ≡ 0 → ltb s.read (length word) ≡ true →
        find_within pairs 0 (get_or word s.read 0) ≡ some k → record_fits pairs ops k ≡ true →
        run (suc (length word - s.read)) s ≡ run (length word - s.read) (entered_at pairs next.Boundary true s k)
    unfolding run_on
    passes k e z i w r =
        let go = run (length word - s.read) in
        let look = turn pairs ops right word in
        let there : look next.Boundary s ≡ Goes (entered_at pairs next.Boundary true s k) =
        rw (i, letters s.read (ltb-true s.read (length word) i), w, r) in
        (λ j. cond (eqb (z j) 0) (by_next look go s (e j)) (read_op ops s)) ∙ ap (goes_on go) there

    last-began : (f : Bool) (c : ℕ) (t : State) → BeganAt (after_right true (item f c)) t
    last-began true c t = tt
    last-began false c t = tt

    last-waits : (f : Bool) (c : ℕ) → waiting (after_right true (item f c)) ≡ 1
    last-waits true c = refl
    last-waits false c = refl

    past : (k : ℕ) → s.next_left ≡ next.Boundary → s.ops ≡ 0 → ltb s.read (length word) ≡ true →
        find_within pairs 0 (get_or word s.read 0) ≡ some k → record_fits pairs ops k ≡ true → Restarts (entered_at pairs next.Boundary true s k)
    past k e z i w r f =
        let t = entered_at pairs next.Boundary true s k in
        let q : length word - s.read ≡ suc (length word - suc s.read) = omega (arith, ltb-true s.read (length word) i) in
        ap cleared_step (passes k e z i w r)
        ∙ free_restarts (length word - s.read) t f (last-began (last_flag pairs k) (last_code pairs k) t)
        (omega (arith, counted, last-waits (last_flag pairs k) (last_code pairs k)))
        ∙ ap (λ (n : ℕ). cleared_step (run n (restarted t))) q

-- the turns of a step from its first free state, restarted
pub first_restarts : (font : LentFont) (word : List ℕ) (options : RunOptions) → ((i : ℕ) → i < length word → is_letter (get_or word i 0) ≡ true) →
    (s : State) → Began s → s.given + waiting s.next_left ≤ s.read → (u : State) → first_free font word options s ≡ some u →
    cleared_step (ran font word options s) ≡ cleared_step (ran font word options (restarted u))
first_restarts font word options letters s began counted =
    first_cases font word options s (λ u. cleared_step (ran font word options s) ≡ cleared_step (ran font word options (restarted u)))
    (itself font.pairs font.ops (right_in font options) word letters s began counted)
    (λ k e z i w r n. past font.pairs font.ops (right_in font options) word letters s began counted k e z i w r)
