-- Where no op is to be given, the place among the ops is not read: states that differ in it alone answer the same, turn by turn and step by step.
-- Assumes nothing.
use mathlib.Core.Path.{◌≡◌, refl, sym, ap, ◌∙◌}
use mathlib.Core.Bool.{Bool, true, false, cond}
use mathlib.Core.List.{List}
use mathlib.Core.Option.{Option, none, some, map}
use Prim.Native.Nat.{ℕ, zero, suc, ◌+◌, ◌-◌}
use native.Mathlib.Omega.{arith}
use lib.IntN.{ℤ}
use lib.Dec.{ltb, leb, eqb}
use lib.ListN.{length, get_or}
use borrow.Author.Tests.{ne_eqb}
use Rattle.lang.specs.Checks.{is_letter}
use Rattle.reading.specs.Items.{plain}
use Rattle.captions.specs.declared.RunOptions.{RunOptions}
use Rattle.captions.specs.declared.NextLeft.{NextLeft}
use Rattle.captions.specs.declared.NextLeft.TheVariants as next
use Rattle.captions.specs.declared.Consumes.{Consumes}
use Rattle.captions.specs.declared.Consumes.TheVariants as consumes
use Rattle.captions.specs.declared.State.{State}
use Rattle.captions.specs.declared.Step.{Step}
use Rattle.captions.specs.declared.Turned.{Turned}
use Rattle.captions.specs.declared.Turned.TheVariants.{Gives, Goes}
use Rattle.captions.specs.Steps.{left_letters, longer, give_character, left_place_of, after_right, read_on, give_left, entry_reads, turn_by, find_within, turn_with}
use Rattle.captions.specs.Tables.{record_fits}
use Rattle.lang.specs.Every.{both}
use Rattle.captions.specs.Steps.{gives_nothing, turn_at_end, turn, goes_on, step_by, run_on, refused}
use Rattle.captions.specs.Demand3.{Caption}
use Rattle.captions.proofs.Sound.{state, Sound, ops_of}
use Rattle.captions.proofs.Running.{step_turns}
use Rattle.font_runs.specs.Requests.{LentFont}
use Rattle.font_runs.specs.Changes.{free_state, restarted, right_in, first_free, step_in_font}
use Rattle.font_runs.specs.Passing.{passed_by, passed_left, passed}
use Rattle.font_runs.proofs.Passing.{first_free_lem}
use Rattle.font_runs.specs.Shift.{FontFits}
use Rattle.font_runs.proofs.Shifting.{formed, whole_fits}

-- a state whose place among the ops is as fresh where none is to be given
abbrev pub cleared : State → State
cleared s =
    state s.next_left (cond (eqb s.ops 0) 0 s.op) s.ops s.read s.given s.pending s.pending_boundary s.consumes_left

abbrev pub cleared_step : Step → Step
cleared_step t = record { answer = t.answer; state = cleared t.state }

module _ (o : ℕ) where
  -- turns from two such states
  data Alike : Turned → Turned → Type 0 where
    gives : {t u : Step} → cleared_step t ≡ cleared_step u → Alike (Gives t) (Gives u)
    goes : (x : NextLeft) (r g p : ℕ) (b : Bool) (k : Consumes) → Alike (Goes (state x o 0 r g p b k)) (Goes (state x 0 0 r g p b k))
    same : {t : Turned} → Alike t t

  either : (b : Bool) {t u t' u' : Turned} → Alike t t' → Alike u u' → Alike (cond b t u) (cond b t' u')
  either true p q = p
  either false p q = q

  step_either : (b : Bool) {t u t' u' : Step} → Alike (Gives t) (Gives t') → Alike (Gives u) (Gives u') → Alike (Gives (cond b t u)) (Gives (cond b t' u'))
  step_either true p q = p
  step_either false p q = q

  module _ (pairs ops : List ℤ) where
    character-alike : (c : ℕ) (x : NextLeft) (r g p : ℕ) (b : Bool) (k : Consumes) →
        Alike (Gives (give_character c (state x o 0 r g p b k))) (Gives (give_character c (state x 0 0 r g p b k)))
    character-alike c x r g p b k =
        step_either (eqb p 0) (step_either (leb (g + 1) r) (gives refl) (gives refl)) (step_either (leb (g + p) r) (gives refl) (gives refl))

    left-alike : (l x : NextLeft) (r g p : ℕ) (b : Bool) (k : Consumes) →
        Alike (give_left l (state x o 0 r g p b k)) (give_left l (state x 0 0 r g p b k))
    left-alike next.Boundary x r g p b k = goes x r g p b k
    left-alike (next.Char c) x r g p b k = character-alike c x r g p b k
    left-alike (next.Lig c) x r g p b k = character-alike c x r g p b k
    left-alike (next.FinalLig c) x r g p b k = goes x r g p b k
    left-alike next.None x r g p b k = goes x r g p b k

    by_alike : (l : NextLeft) (letter : Bool) (y : ℕ) (x : NextLeft) (r g p : ℕ) (b : Bool) (k : Consumes) (f : Option ℕ) →
        Alike (turn_by pairs ops l letter y (state x o 0 r g p b k) f) (turn_by pairs ops l letter y (state x 0 0 r g p b k) f)
    by_alike l letter y x r g p b k none = left-alike l (after_right letter (plain y)) (read_on letter r) g p b consumes.Nothing
    by_alike l letter y x r g p b k (some i) = either (entry_reads pairs ops l i) same (gives refl)

    with-alike : (l : NextLeft) (letter : Bool) (y : ℕ) (x : NextLeft) (r g p : ℕ) (b : Bool) (k : Consumes) →
        Alike (turn_with pairs ops l letter y (state x o 0 r g p b k)) (turn_with pairs ops l letter y (state x 0 0 r g p b k))
    with-alike l letter y x r g p b k = by_alike l letter y x r g p b k (find_within pairs (left_place_of l) y)

    end-alike : (right : Option ℕ) (l x : NextLeft) (r g p : ℕ) (b : Bool) (k : Consumes) →
        Alike (turn_at_end pairs ops right l (state x o 0 r g p b k)) (turn_at_end pairs ops right l (state x 0 0 r g p b k))
    end-alike right next.Boundary x r g p b k = gives refl
    end-alike none (next.Char c) x r g p b k = character-alike c next.None r g p b consumes.Nothing
    end-alike (some y) (next.Char c) x r g p b k = with-alike (next.Char c) false y x r g p b k
    end-alike none (next.Lig c) x r g p b k = character-alike c next.None r g p b consumes.Nothing
    end-alike (some y) (next.Lig c) x r g p b k = with-alike (next.Lig c) false y x r g p b k
    end-alike right (next.FinalLig c) x r g p b k = gives refl
    end-alike right next.None x r g p b k = gives refl

    module _ (right : Option ℕ) (word : List ℕ) where
      abbrev look : NextLeft → State → Turned
      look = turn pairs ops right word

      -- by the state with what is pending gathered
      looked : (l x : NextLeft) (r g p : ℕ) (b : Bool) (k : Consumes) →
          Alike
          (cond (ltb r (length word))
          (cond (is_letter (get_or word r 0)) (turn_with pairs ops l true (get_or word r 0) (state x o 0 r g p b k)) (Gives (refused 20 (state x o 0 r g p b k))))
          (turn_at_end pairs ops right l (state x o 0 r g p b k)))
          (cond (ltb r (length word))
          (cond (is_letter (get_or word r 0)) (turn_with pairs ops l true (get_or word r 0) (state x 0 0 r g p b k)) (Gives (refused 20 (state x 0 0 r g p b k))))
          (turn_at_end pairs ops right l (state x 0 0 r g p b k)))
      looked l x r g p b k =
          either (ltb r (length word)) (either (is_letter (get_or word r 0)) (with-alike l true (get_or word r 0) x r g p b k) (gives refl))
          (end-alike right l x r g p b k)

      abbrev Same : (State → Step) → (State → Step) → Type 0
      Same go go' = (x : NextLeft) (r g p : ℕ) (b : Bool) (k : Consumes) →
          cleared_step (go (state x o 0 r g p b k)) ≡ cleared_step (go' (state x 0 0 r g p b k))

      goes_on_lem : (go : State → Step) → Same go go → {t u : Turned} → Alike t u → cleared_step (goes_on go t) ≡ cleared_step (goes_on go u)
      goes_on_lem go h (gives e) = e
      goes_on_lem go h (goes x r g p b k) = h x r g p b k
      goes_on_lem go h same = refl

      next-alike : (go : State → Step) → Same go go → Same (step_by ops look go) (step_by ops look go)
      next-alike go h next.Boundary r g p b k = goes_on_lem go h (looked next.Boundary next.Boundary r g p b k)
      next-alike go h (next.Char c) r g p b k = goes_on_lem go h (looked (next.Char c) (next.Char c) r g p b k)
      next-alike go h (next.Lig c) r g p b k =
          let s = longer (state (next.Lig c) 0 0 r g p b k) in
          goes_on_lem go h (looked (next.Lig c) (next.Lig c) r g s.pending s.pending_boundary consumes.Nothing)
      next-alike go h (next.FinalLig c) r g p b k =
          goes_on_lem go h (step_either (leb (g + (p + left_letters k)) r) (gives refl) (gives refl))
      next-alike go h next.None r g p b k = refl

      run-alike : (n : ℕ) → Same (run_on ops look n) (run_on ops look n)
      unfolding run_on
      run-alike zero = next-alike (refused 7) (λ x r g p b k. refl)
      run-alike (suc n) = next-alike (run_on ops look n) (run-alike n)

-- the turns of a step from a state, and from it cleared
module _ (pairs ops : List ℤ) (right : Option ℕ) (word : List ℕ) (n : ℕ) where
  by_ops : (x : NextLeft) (o m r g p : ℕ) (b : Bool) (k : Consumes) →
      cleared_step (run_on ops (turn pairs ops right word) n (state x o m r g p b k))
      ≡ cleared_step (run_on ops (turn pairs ops right word) n (cleared (state x o m r g p b k)))
  by_ops x o zero r g p b k = run-alike o pairs ops right word n x r g p b k
  by_ops x o (suc m) r g p b k =
      ap (λ (z : Bool). cleared_step (run_on ops (turn pairs ops right word) n (state x (cond z 0 o) (suc m) r g p b k)))
      (sym (ne_eqb (suc m) 0 (λ e. omega (arith, e))))

  pub run_cleared : (s : State) →
      cleared_step (run_on ops (turn pairs ops right word) n s) ≡ cleared_step (run_on ops (turn pairs ops right word) n (cleared s))
  run_cleared s = by_ops s.next_left s.op s.ops s.read s.given s.pending s.pending_boundary s.consumes_left

-- ---- the first free state, restarted

module _ (font : LentFont) (word : List ℕ) (options : RunOptions) where
  abbrev kept : State → Option State
  kept t = map restarted (cond (free_state font.pairs (right_in font options) word t) (some t) none)

  module _ (x : NextLeft) (o r g p : ℕ) (b : Bool) (k : Consumes) where
    abbrev at : ℕ → State
    at i = state x i 0 r g p b k

    kept_at : kept (at o) ≡ kept (at 0)
    kept_at = by (free_state font.pairs (right_in font options) word (at 0))
      where
        by : (f : Bool) → map restarted (cond f (some (at o)) none) ≡ map restarted (cond f (some (at 0)) none)
        by true = refl
        by false = refl

    kept_either : (f : Bool) (t u : State) → kept t ≡ kept u → kept (cond f t (at o)) ≡ kept (cond f u (at 0))
    kept_either true t u e = e
    kept_either false t u e = kept_at

    kept_by : (f : Option ℕ) → kept (passed_by font.pairs font.ops (at o) f) ≡ kept (passed_by font.pairs font.ops (at 0) f)
    kept_by none = kept_at
    kept_by (some i) = kept_either (both (record_fits font.pairs font.ops i) (gives_nothing font.pairs i)) _ _ refl

    kept_left : (l : NextLeft) → kept (passed_left font.pairs font.ops word (at o) l) ≡ kept (passed_left font.pairs font.ops word (at 0) l)
    kept_left next.Boundary = kept_either (ltb r (length word)) _ _ (kept_by (find_within font.pairs 0 (get_or word r 0)))
    kept_left (next.Char c) = kept_at
    kept_left (next.Lig c) = kept_at
    kept_left (next.FinalLig c) = kept_at
    kept_left next.None = kept_at

  kept_ops : (x : NextLeft) (o m r g p : ℕ) (b : Bool) (k : Consumes) →
      kept (passed font word (state x o m r g p b k)) ≡ kept (passed font word (cleared (state x o m r g p b k)))
  kept_ops x o zero r g p b k = kept_left x o r g p b k x
  kept_ops x o (suc m) r g p b k =
      ap (λ (z : Bool). kept (passed font word (state x (cond z 0 o) (suc m) r g p b k))) (sym (ne_eqb (suc m) 0 (λ e. omega (arith, e))))

  abbrev restarted_first : State → Option State
  restarted_first s = map restarted (first_free font word options s)

  first_by : (s : State) → restarted_first s ≡ restarted_first (cleared s)
  first_by s =
      ap (map restarted) (first_free_lem font word options s)
      ∙ kept_ops s.next_left s.op s.ops s.read s.given s.pending s.pending_boundary s.consumes_left
      ∙ sym (ap (map restarted) (first_free_lem font word options (cleared s)))

  pub first_cleared : (s t : State) → cleared s ≡ cleared t → restarted_first s ≡ restarted_first t
  first_cleared s t e = first_by s ∙ ap restarted_first e ∙ sym (first_by t)

-- ---- steps, in a font that fits

-- the turns of a step
abbrev pub ran : LentFont → List ℕ → RunOptions → State → Step
ran font word options s = run_on font.ops (turn font.pairs font.ops (right_in font options) word) (suc (length word - s.read)) s

module _ (font : LentFont) (fits : FontFits font) (word : List ℕ) (options : RunOptions) (caption : Caption word options) where
  abbrev pub Runs : State → Type 0
  Runs s = Sound font.ops word s (ops_of font.ops word s)

  pub is_ran : (s : State) → Runs s → step_in_font font word options s ≡ ran font word options s
  is_ran s h =
      step_turns font.pairs font.ops (formed font fits word options caption) font.boundary word options
      (whole_fits font fits word options caption) s h

  ran_cleared : (s : State) → cleared_step (ran font word options s) ≡ cleared_step (ran font word options (cleared s))
  ran_cleared s = run_cleared font.pairs font.ops (right_in font options) word (suc (length word - s.read)) s

  pub step_cleared : (s t : State) → Runs s → Runs t → cleared s ≡ cleared t →
      cleared_step (step_in_font font word options s) ≡ cleared_step (step_in_font font word options t)
  step_cleared s t h i e =
      ap cleared_step (is_ran s h) ∙ ran_cleared s ∙ ap (λ (u : State). cleared_step (ran font word options u)) e ∙ sym (ran_cleared t)
      ∙ ap cleared_step (sym (is_ran t i))
