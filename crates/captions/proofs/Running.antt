-- Any number of steps from a fresh state: they answer what the plain run over the decoded table answers, and none is refused.
-- Assumes nothing.
use mathlib.Core.Path.{◌≡◌, refl, ap, ◌∙◌}
use mathlib.Core.Bool.{Bool, true, false, cond, not}
use mathlib.Core.List.{List, [], ◌∷◌, map}
use mathlib.Core.Option.{Option, none, some}
use Prim.Native.Nat.{ℕ, zero, suc, ◌+◌, ◌-◌, ◌<◌, ◌≤◌}
use native.Mathlib.Omega.{arith}
use lib.IntN.{ℤ, pos, negsuc}
use lib.ListN.{length, get_or}
use borrow.Author.Tests.{le-leb, leb-true}
use Rattle.lang.specs.Every.{every}
use Rattle.lang.specs.Records.{absent_or}
use Rattle.lang.specs.Checks.{is_letter}
use Rattle.lang.proofs.Every.{every_at}
use Rattle.lang.proofs.Checks.{letter_low, letter_bound}
use Rattle.reading.specs.Items.{Out}
use Rattle.reading.specs.Depth.{Finished}
use Rattle.reading.specs.Form.{no_plain}
use Rattle.reading.specs.Run as plainly
use Rattle.captions.specs.declared.RunOptions.{RunOptions}
use Rattle.captions.specs.declared.NextLeft.TheVariants as next
use Rattle.captions.specs.declared.State.{State}
use Rattle.captions.specs.declared.Answer.{Answer}
use Rattle.captions.specs.declared.Answer.TheVariants.{Char, Ligature, Kern, End, Refused}
use Rattle.captions.specs.declared.Begun.TheVariants.{Run}
use Rattle.captions.specs.Tables.{op_count, entries, ops_from}
use Rattle.captions.specs.Form.{table_form}
use Rattle.captions.specs.Begin.{edges_refusal, word_refusal, override_refusal, fresh, without_boundary, fresh_state, begin_of}
use Rattle.captions.specs.Steps.{placed, turn, run_on, right_item_fits, step_refusal, hand_back, step_of, right_item}
use Rattle.captions.specs.Runs.{answers, Shown, shows, ends, shown, then_ends}
use Rattle.captions.specs.Demand3.{override_fits}
use Rattle.captions.proofs.Raising.{raise_first}
use Rattle.captions.proofs.Sound.{state, shown_of, Sound, ops_of, run_of, Follows}
use Rattle.captions.proofs.FontTable.{below}
use Rattle.captions.proofs.Following.{few_ops}
use Rattle.captions.proofs.Turning.{follows}

-- an answer that is shown as an item or as the end is handed on with its state
handed : (s t : State) (a : Answer) (o : Option Out) → shown a ≡ shown_of o → hand_back s t a ≡ record { answer = a; state = t }
handed s t (Char c p) o h = refl
handed s t (Ligature c p n a b) o h = refl
handed s t (Kern k) o h = refl
handed s t End o h = refl
handed s t (Refused n) none h = absurd (let z : ◌≡◌ {A = ℕ} 0 1 = cc in omega arith)
handed s t (Refused n) (some o) h = absurd (let z : ◌≡◌ {A = ℕ} 0 1 = cc in omega arith)

-- the plain run's list in order, shown
in_order : (n : ℕ) (os : List Out) → map shown_of (plainly.in_order n os) ≡ then_ends n os
unfolding plainly.in_order then_ends
in_order zero os = refl
in_order (suc n) [] = ap (λ (ss : List Shown). ends ∷ ss) (in_order n [])
in_order (suc n) (o ∷ os) = ap (λ (ss : List Shown). shows o ∷ ss) (in_order n os)

-- the right item of a word is a letter
pub right_item_lem : (boundary override : ℤ) → absent_or 255 boundary ≡ true → override_fits override ≡ true → right_item_fits (right_item boundary override) ≡ true
right_item_lem boundary (pos c) h i = i
right_item_lem (pos b) (negsuc n) h i = letter_low b (omega (arith, leb-true b 255 h))
right_item_lem (negsuc b) (negsuc n) h i = refl

-- an override that is -1 or a letter is not refused
override_absent : (override : ℤ) → override_fits override ≡ true → absent_or 2147483647 override ≡ true
override_absent (pos c) h = le-leb c 2147483647 (omega (arith, letter_bound c h))
override_absent (negsuc n) h = h

override_taken : (override : ℤ) → override_fits override ≡ true → override_refusal override ≡ 0
override_taken (pos c) h = rw h
override_taken (negsuc n) h = refl

-- What begin and step ask of a word, of the boundary character and of the options.
pub record Fit (boundary : ℤ) (word : List ℕ) (options : RunOptions) : Type 0 where
  pub boundary_fits : absent_or 255 boundary ≡ true
  pub override_fits_lem : override_fits options.right_boundary_override ≡ true
  pub letters_fit : every (length word) (λ i. is_letter (get_or word i 0)) ≡ true
  pub word_fits : length word ≤ 65535

module _ (pairs ops : List ℤ) (table : table_form pairs ops ≡ true) (boundary : ℤ) (word : List ℕ) (options : RunOptions) (fit : Fit boundary word options) where
  abbrev held : Finished
  held = below 256 (entries pairs ops)

  abbrev right : Option ℕ
  right = right_item boundary options.right_boundary_override

  pub letters : (i : ℕ) → i < length word → is_letter (get_or word i 0) ≡ true
  letters i h = every_at (length word) i (λ j. is_letter (get_or word j 0)) fit.letters_fit h

  edges : edges_refusal boundary options ≡ 0
  edges = rw (fit.boundary_fits, override_absent options.right_boundary_override fit.override_fits_lem) refl

  word_taken : word_refusal word ≡ 0
  word_taken = rw (le-leb (length word) 65535 fit.word_fits) refl

  is_placed : (s : State) → Sound ops word s (ops_of ops word s) → placed ops word s ≡ true
  is_placed s h =
      rw (
        le-leb s.read (length word) h.inside,
        le-leb s.given s.read (omega (arith, h.counted)),
        le-leb s.pending s.read (omega (arith, h.counted)),
        le-leb (op_count ops) 2147483647 (few_ops pairs ops table),
        le-leb (s.op + s.ops) (op_count ops) h.among,
        h.fits,
      ) refl

  not_refused : step_refusal boundary word options ≡ 0
  not_refused = rw (edges, word_taken) refl

  -- the turns of a step
  turns_follow : (s : State) → Sound ops word s (ops_of ops word s) →
      Follows ops word (run_on ops (turn pairs ops right word) (suc (length word - s.read)) s) (plainly.step held right (run_of ops word s))
  turns_follow s h =
      follows pairs ops table word right letters (suc (length word - s.read))
      s.next_left s.op s.ops s.read s.given s.pending s.pending_boundary s.consumes_left (λ _. omega arith) h

  -- a step is its turns
  pub step_turns : (s : State) → Sound ops word s (ops_of ops word s) →
      step_of pairs ops boundary word options s ≡ run_on ops (turn pairs ops right word) (suc (length word - s.read)) s
  step_turns s h =
      let t = run_on ops (turn pairs ops right word) (suc (length word - s.read)) s in
      let o = (plainly.step held right (run_of ops word s)).gives in
      let i = right_item_lem boundary options.right_boundary_override fit.boundary_fits fit.override_fits_lem in
      rw (not_refused, is_placed s h, i, handed s t.state t.answer o (turns_follow s h).answers) refl

  pub step_follows : (s : State) → Sound ops word s (ops_of ops word s) →
      Follows ops word (step_of pairs ops boundary word options s) (plainly.step held right (run_of ops word s))
  step_follows s h = rw (step_turns s h) (turns_follow s h)

  -- any number of steps
  steps_follow : (n : ℕ) (s : State) → Sound ops word s (ops_of ops word s) →
      map shown (answers pairs ops boundary word options n s) ≡ map shown_of (plainly.plain_answers held right n (run_of ops word s))
  unfolding answers plainly.plain_answers
  steps_follow zero s h = refl
  steps_follow (suc n) s h =
      let f = step_follows s h in
      rw (f.answers, steps_follow n (step_of pairs ops boundary word options s).state f.sound, f.leaves) refl

  -- ---- a fresh state

  abbrev Starts : Bool → List ℕ → State → Type 0
  Starts b cs s = Sound ops word s (ops_of ops word s) × (run_of ops word s ≡ plainly.begin b cs)

  pub begin_taken : begin_of pairs ops boundary word options ≡ Run (fresh_state word options)
  begin_taken = rw (edges, word_taken, table, fit.letters_fit, override_taken options.right_boundary_override fit.override_fits_lem) refl

  starts_by : (cs : List ℕ) → word ≡ cs → (d : Bool) → Starts (not d) word (cond d (without_boundary cs) (fresh next.Boundary 0))
  unfolding ops_from raise_first no_plain
  starts_by cs e false = (record { inside = omega arith; counted = omega arith; among = omega arith; fits = refl; holds = refl }, refl)
  starts_by [] e true = (record { inside = omega arith; counted = omega arith; among = omega arith; fits = refl; holds = refl }, rw e refl)
  starts_by (c ∷ cs) e true =
      let l : 0 < length word = rw e (omega arith) in
      let z : get_or word 0 0 ≡ c = rw e refl in
      let h : is_letter c ≡ true = rw z at (letters 0 l) in
      (record { inside = omega arith; counted = omega arith; among = omega arith; fits = h; holds = refl }, rw e refl)

  pub starts : Starts (not options.disable_left_boundary) word (fresh_state word options)
  starts = starts_by word refl options.disable_left_boundary

  -- Begin is taken, and whatever list the plain run's answers are, the steps from it answer that list, and then the end for ever.
  pub runs : (os : List Out) →
      ((n : ℕ) → plainly.plain_answers held right n (plainly.begin (not options.disable_left_boundary) word) ≡ plainly.in_order n os) →
      (s : State) × (begin_of pairs ops boundary word options ≡ Run s) × ((n : ℕ) → map shown (answers pairs ops boundary word options n s) ≡ then_ends n os)
  runs os h = (
    fresh_state word options,
    begin_taken,
    λ n. steps_follow n (fresh_state word options) starts.0 ∙ ap (λ (r : plainly.Run). map shown_of (plainly.plain_answers held right n r)) starts.1
        ∙ ap (λ (a : List (Option Out)). map shown_of a) (h n) ∙ in_order n os,
  )
