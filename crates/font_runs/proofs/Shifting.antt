-- In a font that fits: steps over the rest of a word are steps over the word, and a free state restarted is a fresh one over the rest.
-- Assumes nothing.
use mathlib.Core.Path.{◌≡◌, refl, sym, ap, ◌∙◌}
use mathlib.Core.Bool.{Bool, true, false, cond}
use mathlib.Core.List.{List, ◌∷◌, map}
use mathlib.Core.Option
use mathlib.Core.Option.{Option, none, some}
use Prim.Native.Nat.{ℕ, zero, suc, ◌+◌, ◌-◌, ◌<◌, ◌≤◌}
use native.Mathlib.Omega.{arith}
use lib.IntN.{ℤ}
use lib.ListN.{length, get_or, drop, length-drop}
use lib.Seq.{drop-cons, get_or-drop}
use Rattle.lang.specs.Every.{every}
use Rattle.lang.specs.Checks.{is_letter}
use Rattle.lang.proofs.Every.{every_all, every_at}
use Rattle.lang.proofs.Refusals.{unless_none}
use Rattle.reading.specs.Items.{Out}
use Rattle.captions.specs.declared.RunOptions.{RunOptions}
use Rattle.captions.specs.declared.NextLeft.{NextLeft}
use Rattle.captions.specs.declared.NextLeft.TheVariants as next
use Rattle.captions.specs.declared.Consumes.TheVariants as consumes
use Rattle.captions.specs.declared.State.{State}
use Rattle.captions.specs.declared.Answer.{Answer}
use Rattle.captions.specs.declared.Step.{Step}
use Rattle.captions.specs.declared.Begun.TheVariants.{Run}
use Rattle.captions.specs.Form.{table_form}
use Rattle.captions.specs.Begin.{fresh, without_boundary, fresh_state, begin_of}
use Rattle.captions.specs.Steps.{turn, run_on, step_of}
use Rattle.captions.specs.Runs.{answers}
use Rattle.captions.specs.Demand3.{Caption}
use Rattle.captions.proofs.Sound.{state, Sound, ops_of}
use Rattle.captions.proofs.Running.{Fit, step_turns, step_follows, starts, begin_taken}
use Rattle.font_runs.specs.Requests.{LentFont}
use Rattle.step_turns.specs.Turns.{turn_once}
use Rattle.font_runs.specs.Changes.{free_state, free_ahead, right_in, first_free, step_in_font}
use Rattle.font_runs.specs.Shift.{later_state, later_answer, later_step, without_left, rest_options, RunStandsAt, FontFits, rest_at, options_at, Shift}
use Rattle.font_runs.proofs.Moving.{run_moved, ahead_moved}

module _ (font : LentFont) (fits : FontFits font) (word : List ℕ) (options : RunOptions) (caption : Caption word options) where
  pub formed : table_form font.pairs font.ops ≡ true
  formed = unless_none 6 (table_form font.pairs font.ops) fits.form

  pub whole_fits : Fit font.boundary word options
  whole_fits =
      record { boundary_fits = fits.edge; override_fits_lem = caption.override_fits_lem; letters_fit = caption.letters_fit; word_fits = caption.word_fits }

  module _ (g : ℕ) (inside : g ≤ length word) (without : Bool) where
    abbrev rest : List ℕ
    rest = drop g word

    abbrev set : RunOptions
    set = rest_options without options

    pub rest_caption : Caption rest set
    rest_caption =
        record {
          override_fits_lem = caption.override_fits_lem;
          word_fits = omega (arith, caption.word_fits, length-drop g word);
          letters_fit = every_all (length rest) (λ i. is_letter (get_or rest i 0)) (λ i h. rw (get_or-drop g word i 0)
              (every_at (length word) (g + i) (λ i. is_letter (get_or word i 0)) caption.letters_fit (omega (arith, h, length-drop g word))));
        }

    rest-fits : Fit font.boundary rest set
    rest-fits =
        record {
          boundary_fits = fits.edge;
          override_fits_lem = rest_caption.override_fits_lem;
          letters_fit = rest_caption.letters_fit;
          word_fits = rest_caption.word_fits;
        }

    pub sound_moved : (s : State) (os : List Out) → Sound font.ops rest s os → Sound font.ops word (later_state g s) os
    sound_moved s os h =
        record {
          inside = omega (arith, h.inside, length-drop g word);
          counted = omega (arith, h.counted);
          among = h.among;
          fits = h.fits;
          holds = h.holds;
        }

    -- one step
    pub step_moved : (s : State) → Sound font.ops rest s (ops_of font.ops rest s) →
        step_in_font font word options (later_state g s) ≡ later_step g (step_in_font font rest set s)
    step_moved s h =
        let e : length word - (g + s.read) ≡ length rest - s.read = omega (arith, h.inside, length-drop g word) in
        step_turns font.pairs font.ops formed font.boundary word options whole_fits (later_state g s)
        (sound_moved s (ops_of font.ops rest s) h)
        ∙ ap (λ (n : ℕ). run_on font.ops (turn font.pairs font.ops (right_in font options) word) (suc n) (later_state g s)) e
        ∙ run_moved g word inside font.pairs font.ops (right_in font options) (suc (length rest - s.read)) s
        ∙ ap (later_step g) (sym (step_turns font.pairs font.ops formed font.boundary rest set rest-fits s h))

    pub step_sound : (s : State) → Sound font.ops rest s (ops_of font.ops rest s) →
        Sound font.ops rest (step_in_font font rest set s).state (ops_of font.ops rest (step_in_font font rest set s).state)
    step_sound s h = (step_follows font.pairs font.ops formed font.boundary rest set rest-fits s h).sound

    -- any number of them
    pub answers_moved : (n : ℕ) (s : State) → Sound font.ops rest s (ops_of font.ops rest s) →
        answers font.pairs font.ops font.boundary word options n (later_state g s)
        ≡ map (later_answer g) (answers font.pairs font.ops font.boundary rest set n s)
    unfolding answers
    answers_moved zero s h = refl
    answers_moved (suc n) s h =
        let t = step_in_font font rest set s in
        (λ j. (step_moved s h j).answer ∷ answers font.pairs font.ops font.boundary word options n (step_moved s h j).state)
        ∙ ap (λ (l : List Answer). later_answer g t.answer ∷ l) (answers_moved n t.state (step_sound s h))

    pub fresh_sound : Sound font.ops rest (fresh_state rest set) (ops_of font.ops rest (fresh_state rest set))
    fresh_sound = (starts font.pairs font.ops formed font.boundary rest set rest-fits).0

    pub rest_begins : begin_of font.pairs font.ops font.boundary rest set ≡ Run (fresh_state rest set)
    rest_begins = begin_taken font.pairs font.ops formed font.boundary rest set rest-fits

    -- the first free state of a step
    pub free_ahead_moved : (s : State) → s.read ≤ length rest →
        first_free font word options (later_state g s) ≡ Option.map (later_state g) (first_free font rest set s)
    free_ahead_moved s h =
        let e : length word - (g + s.read) ≡ length rest - s.read = omega (arith, h, length-drop g word) in
        ap (λ (n : ℕ). ahead (suc n)) e ∙ ahead_moved g word inside font.pairs font.ops (right_in font options) (suc (length rest - s.read)) s
      where
        ahead : ℕ → Option State
        ahead n = free_ahead (free_state font.pairs (right_in font options) word)
            (turn_once font.ops (turn font.pairs font.ops (right_in font options) word)) n (later_state g s)

-- ---- a state where a free one stands, restarted

module _ (word : List ℕ) (options : RunOptions) (g : ℕ) where
  pub stands_inside : (r : ℕ) (x : NextLeft) → RunStandsAt word g r x → g ≤ length word
  stands_inside r next.Boundary h = h.1
  stands_inside r (next.Char c) h = omega (arith, h.1)
  stands_inside r (next.Lig c) h = absurd h
  stands_inside r (next.FinalLig c) h = absurd h
  stands_inside r next.None h = absurd h

  pub restarts : (r : ℕ) (x : NextLeft) → RunStandsAt word g r x →
      state x 0 0 r g 0 false consumes.Nothing ≡ later_state g (fresh_state (drop g word) (rest_options (without_left x) options))
  restarts r next.Boundary h =
      let p : r ≡ g + 0 = omega (arith, h.0) in
      let q : g ≡ g + 0 = omega arith in
      λ j. state next.Boundary 0 0 (p j) (q j) 0 false consumes.Nothing
  restarts r (next.Char c) h =
      let p : r ≡ g + 1 = omega (arith, h.0) in
      let q : g ≡ g + 0 = omega arith in
      let e : drop g word ≡ c ∷ drop (suc g) word = drop-cons word g 0 h.1 ∙ ap (λ (d : ℕ). d ∷ drop (suc g) word) h.2 in
      (λ j. state (next.Char c) 0 0 (p j) (q j) 0 false consumes.Nothing) ∙ ap (λ (l : List ℕ). later_state g (without_boundary l)) (sym e)
  restarts r (next.Lig c) h = absurd h
  restarts r (next.FinalLig c) h = absurd h
  restarts r next.None h = absurd h

pub shift : Shift
shift font word options s fits caption stands =
    let g = s.given in
    let x = s.next_left in
    let i = stands_inside word options g s.read x stands in
    let b = without_left x in (
      rest_begins font fits word options caption g i b,
      λ n. ap (answers font.pairs font.ops font.boundary word options n) (restarts word options g s.read x stands)
          ∙ answers_moved font fits word options caption g i b n (fresh_state (drop g word) (rest_options b options))
          (fresh_sound font fits word options caption g i b),
    )
