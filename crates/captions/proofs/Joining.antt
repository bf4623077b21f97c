-- Any number of steps from a fresh state: the letters of their items, joined, are the first letters of the word, and at the end all of it.
-- The statements are specs/Letters. Assumes nothing.
use mathlib.Core.Path.{◌≡◌, refl, sym, ap, ◌∙◌}
use mathlib.Core.Bool.{Bool, true, false, cond, not}
use mathlib.Core.List.{List, [], ◌∷◌, ◌++◌, map, append_assoc, append-nil}
use mathlib.Core.Option.{Option, none, some}
use Prim.Native.Nat.{ℕ, zero, suc, ◌+◌, ◌-◌, ◌≤◌}
use native.Mathlib.Omega.{arith}
use lib.IntN.{ℤ}
use lib.ListN.{length, take, drop, replicate, take-append-drop, length-append}
use lib.Seq.{take-length, length-take-le, drop_at}
use borrow.Author.Tests.{le-leb}
use Rattle.reading.specs.Items.{Out}
use Rattle.reading.specs.Run as plainly
use Rattle.reading.proofs.Theorems as Reading
use Rattle.captions.specs.declared.RunOptions.{RunOptions}
use Rattle.captions.specs.declared.NextLeft.TheVariants as next
use Rattle.captions.specs.declared.State.{State}
use Rattle.captions.specs.declared.Answer.{Answer}
use Rattle.captions.specs.declared.Answer.TheVariants.{Char, Ligature, Kern, End, Refused}
use Rattle.captions.specs.declared.Step.{Step}
use Rattle.captions.specs.Tables.{ops_from, entries}
use Rattle.captions.specs.Form.{table_form}
use Rattle.captions.specs.Begin.{fresh, without_boundary, fresh_state}
use Rattle.captions.specs.Steps.{step_of, right_item}
use Rattle.captions.specs.Runs.{answers, ends, shown, then_ends}
use Rattle.captions.specs.Queries.{original_of}
use Rattle.captions.specs.Letters.{answer_letters, item_start, joined, state_after, answer_after, NoLetterLost}
use Rattle.captions.proofs.Sound.{shown_of, Sound, ops_of, Follows}
use Rattle.captions.proofs.Running.{Fit, letters, step_turns, step_follows, begin_taken, starts, runs}
use Rattle.captions.proofs.FontTable.{below}
use Rattle.captions.proofs.Ending.{end_stays}
use Rattle.captions.proofs.Lettered.{plains_are, Lettered, Keeps}
use Rattle.captions.proofs.Letters.{keeps}

-- what is shown as an item or as the end is no refusal
not_refuses : (k : ℕ) (o : Option Out) (a : Answer) → shown a ≡ shown_of o → a ≡ Refused k → ⊥
not_refuses k none a h e = let z : ◌≡◌ {A = ℕ} 0 1 = cc in omega arith
not_refuses k (some o) a h e = let z : ◌≡◌ {A = ℕ} 0 1 = cc in omega arith

-- .. so a step that follows the plain run is not refused
pub follows_taken : {ops : List ℤ} {word : List ℕ} {t : Step} {a : plainly.PlainAnswer} → Follows ops word t a → (k : ℕ) → t.answer ≡ Refused k → ⊥
follows_taken {t = t} {a = a} f k e = not_refuses k a.gives t.answer f.answers e

-- only the end is shown as the end
shown_end : (a : Answer) → shown a ≡ ends → a ≡ End
shown_end (Char c p) h = absurd (let z : ◌≡◌ {A = ℕ} 0 1 = cc in omega arith)
shown_end (Ligature c p n a b) h = absurd (let z : ◌≡◌ {A = ℕ} 0 1 = cc in omega arith)
shown_end (Kern k) h = absurd (let z : ◌≡◌ {A = ℕ} 0 1 = cc in omega arith)
shown_end End h = refl
shown_end (Refused n) h = absurd (let z : ◌≡◌ {A = ℕ} 0 1 = cc in omega arith)

module _ (pairs ops : List ℤ) (boundary : ℤ) (word : List ℕ) (options : RunOptions) where
  -- where the answers are items and then the end, a step after the items answers the end
  ends_after : (os : List Out) (s : State) → ((n : ℕ) → map shown (answers pairs ops boundary word options n s) ≡ then_ends n os) →
      answer_after pairs ops boundary word options (length os) s ≡ End
  unfolding answers state_after then_ends
  ends_after [] s h = shown_end (step_of pairs ops boundary word options s).answer (let e = h 1 in cc)
  ends_after (o ∷ os) s h = ends_after os (step_of pairs ops boundary word options s).state (λ n. let e = h (suc n) in cc)

  more_after : (m n : ℕ) (s : State) →
      state_after pairs ops boundary word options (m + n) s ≡ state_after pairs ops boundary word options n (state_after pairs ops boundary word options m s)
  unfolding state_after
  more_after zero n s = let e : 0 + n ≡ n = omega arith in rw e refl
  more_after (suc m) n s =
      let e : suc m + n ≡ suc (m + n) = omega arith in
      rw e (more_after m n (step_of pairs ops boundary word options s).state)

  -- a state that a step leaves as it is stays
  stays_after : (n : ℕ) (s : State) → (step_of pairs ops boundary word options s).state ≡ s → state_after pairs ops boundary word options n s ≡ s
  unfolding state_after
  stays_after zero s e = refl
  stays_after (suc n) s e = rw e (stays_after n s e)

module _ (pairs ops : List ℤ) (table : table_form pairs ops ≡ true) (boundary : ℤ) (word : List ℕ) (options : RunOptions) (fit : Fit boundary word options) where
  pub step_keeps : (s : State) → Sound ops word s (ops_of ops word s) → Lettered ops word s (ops_of ops word s) →
      Keeps ops word s.given (step_of pairs ops boundary word options s)
  step_keeps s h l =
      rw (step_turns pairs ops table boundary word options fit s h)
      (keeps pairs ops table word (right_item boundary options.right_boundary_override) (letters pairs ops table boundary word options fit)
      (suc (length word - s.read))
      s.next_left s.op s.ops s.read s.given s.pending s.pending_boundary s.consumes_left (λ _. omega arith) h l)

  -- what is known after n steps from s
  record After (n : ℕ) (s : State) : Type 0 where
    sound : Sound ops word (state_after pairs ops boundary word options n s) (ops_of ops word (state_after pairs ops boundary word options n s))
    lettered : Lettered ops word (state_after pairs ops boundary word options n s) (ops_of ops word (state_after pairs ops boundary word options n s))
    first : take (state_after pairs ops boundary word options n s).given word ≡
        take s.given word ++ joined word (answers pairs ops boundary word options n s)

  after : (n : ℕ) (s : State) → Sound ops word s (ops_of ops word s) → Lettered ops word s (ops_of ops word s) → After n s
  unfolding answers state_after joined
  after zero s h l = record { sound = h; lettered = l; first = sym (append-nil (take s.given word)) }
  after (suc n) s h l =
      let t = step_of pairs ops boundary word options s in
      let k = step_keeps s h l in
      let a = after n t.state (step_follows pairs ops table boundary word options fit s h).sound k.lettered in
      record {
        sound = a.sound;
        lettered = a.lettered;
        first =
            a.first ∙ ap (λ (ls : List ℕ). ls ++ joined word (answers pairs ops boundary word options n t.state)) k.letters
            ∙ append_assoc (take s.given word) (answer_letters word t.answer) (joined word (answers pairs ops boundary word options n t.state));
      }

  -- ---- a fresh state

  pub fresh_by : (cs : List ℕ) → word ≡ cs → (d : Bool) →
      Lettered ops word (cond d (without_boundary cs) (fresh next.Boundary 0)) (ops_of ops word (cond d (without_boundary cs) (fresh next.Boundary 0)))
  unfolding ops_from plains_are
  fresh_by cs e false = record { own = tt; plains = refl }
  fresh_by [] e true = record { own = rw e refl; plains = refl }
  fresh_by (c ∷ cs) e true = record { own = rw e refl; plains = refl }

  abbrev begun : State
  begun = fresh_state word options

  fresh_given : (cs : List ℕ) (d : Bool) → (cond d (without_boundary cs) (fresh next.Boundary 0)).given ≡ 0
  fresh_given cs false = refl
  fresh_given [] true = refl
  fresh_given (c ∷ cs) true = refl

  run_after : (n : ℕ) → After n begun
  run_after n = after n begun (starts pairs ops table boundary word options fit).0 (fresh_by word refl options.disable_left_boundary)

  inside : (n : ℕ) → (state_after pairs ops boundary word options n begun).given ≤ length word
  inside n = let a = run_after n in omega (arith, a.sound.inside, a.sound.counted)

  first_letters_lem : (n : ℕ) →
      joined word (answers pairs ops boundary word options n begun) ≡ take (state_after pairs ops boundary word options n begun).given word
  first_letters_lem n =
      sym ((run_after n).first ∙ ap (λ (g : ℕ). take g word ++ joined word (answers pairs ops boundary word options n begun))
      (fresh_given word options.disable_left_boundary))

  -- ---- the end

  -- the plain run over what the table holds ends, whatever it holds
  ended_run : (items : List Out) × ((n : ℕ) → map shown (answers pairs ops boundary word options n begun) ≡ then_ends n items)
  ended_run =
      let d = Reading.run_ends (below 256 (entries pairs ops)) (not options.disable_left_boundary) word
      (right_item boundary options.right_boundary_override) in
      let r = runs pairs ops table boundary word options fit d.0 d.1 in
      let e : r.0 ≡ begun = cc (begin_taken pairs ops table boundary word options fit, r.1) in
      (d.0, λ n. rw e at (r.2 n))

  abbrev last_step : ℕ
  last_step = length ended_run.0

  ends_there : (n : ℕ) → answer_after pairs ops boundary word options (last_step + n) begun ≡ End
  ends_there n =
      let s = state_after pairs ops boundary word options last_step begun in
      let e = ends_after pairs ops boundary word options ended_run.0 begun ended_run.1 in
      let u = stays_after pairs ops boundary word options n s (end_stays pairs ops boundary word options s e).0 in
      ap (λ (t : State). (step_of pairs ops boundary word options t).answer) (more_after pairs ops boundary word options last_step n begun ∙ u) ∙ e

  all_there : (n : ℕ) → joined word (answers pairs ops boundary word options (last_step + n) begun) ≡ word
  all_there n =
      let s = state_after pairs ops boundary word options (last_step + n) begun in
      let a = run_after (last_step + n) in
      let k = step_keeps s a.sound a.lettered in
      let e = ends_there n in
      let g : s.given ≡ length word = ap (λ (t : State). t.given) (sym (end_stays pairs ops boundary word options s e).0) ∙ k.all_given e in
      first_letters_lem (last_step + n) ∙ ap (λ (i : ℕ). take i word) g ∙ take-length word

  pub no_letter_lost : NoLetterLost pairs ops boundary word options
  no_letter_lost =
      record {
        start = begun;
        begins = begin_taken pairs ops table boundary word options fit;
        not_refused =
            λ n k e.
            let s = state_after pairs ops boundary word options n begun in
            follows_taken (step_follows pairs ops table boundary word options fit s (run_after n).sound) k e;
        within_word = inside;
        first_letters_lem = first_letters_lem;
        starts =
            λ n i e.
            let a = run_after n in
            let s = state_after pairs ops boundary word options n begun in
            (step_keeps s a.sound a.lettered).starts i e ∙ sym (ap length (first_letters_lem n) ∙ length-take-le s.given word (inside n));
        steps = last_step;
        whole_word = all_there;
        then_end = ends_there;
      }

-- ---- what follows from it

joined_append : (word : List ℕ) (firsts others : List Answer) → joined word (firsts ++ others) ≡ joined word firsts ++ joined word others
unfolding joined
joined_append word [] others = refl
joined_append word (a ∷ firsts) others =
    ap (λ (ls : List ℕ). answer_letters word a ++ ls) (joined_append word firsts others)
    ∙ sym (append_assoc (answer_letters word a) (joined word firsts) (joined word others))

joined_ends : (word : List ℕ) (n : ℕ) → joined word (replicate n End) ≡ []
unfolding joined
joined_ends word zero = refl
joined_ends word (suc n) = joined_ends word n

module _ (pairs ops : List ℤ) (boundary : ℤ) (word : List ℕ) (options : RunOptions) where
  answers_append : (m n : ℕ) (s : State) →
      answers pairs ops boundary word options (m + n) s ≡
      answers pairs ops boundary word options m s ++ answers pairs ops boundary word options n (state_after pairs ops boundary word options m s)
  unfolding answers state_after
  answers_append zero n s = let e : 0 + n ≡ n = omega arith in rw e refl
  answers_append (suc m) n s =
      let e : suc m + n ≡ suc (m + n) = omega arith in
      rw e (ap (λ (firsts : List Answer). (step_of pairs ops boundary word options s).answer ∷ firsts)
      (answers_append m n (step_of pairs ops boundary word options s).state))

  one_answer : (s : State) → joined word (answers pairs ops boundary word options 1 s) ≡ answer_letters word (step_of pairs ops boundary word options s).answer
  unfolding answers joined
  one_answer s = append-nil (answer_letters word (step_of pairs ops boundary word options s).answer)

  module _ (l : NoLetterLost pairs ops boundary word options) where
    abbrev lettersOfFirst : ℕ → List ℕ
    lettersOfFirst n = joined word (answers pairs ops boundary word options n l.start)

    -- where the end is answered, all letters were given
    pub whole_at_end : (n : ℕ) → answer_after pairs ops boundary word options n l.start ≡ End → lettersOfFirst n ≡ word
    whole_at_end n e =
        let s = state_after pairs ops boundary word options n l.start in
        let d = end_stays pairs ops boundary word options s e in
        let more : answers pairs ops boundary word options l.steps s ≡ replicate l.steps End = rw d.0 at (d.1 l.steps) in
        let swap : n + l.steps ≡ l.steps + n = omega arith in
        sym (append-nil (lettersOfFirst n)) ∙ ap (λ (ls : List ℕ). lettersOfFirst n ++ ls) (sym (ap (joined word) more ∙ joined_ends word l.steps))
        ∙ sym (ap (joined word) (answers_append n l.steps l.start) ∙ joined_append word (answers pairs ops boundary word options n l.start) _)
        ∙ ap lettersOfFirst swap ∙ l.whole_word n

    -- a character's own letter is its original
    pub own_original : (n c p : ℕ) → answer_after pairs ops boundary word options n l.start ≡ Char c p → original_of word p 1 ≡ c ∷ []
    own_original n c p e =
        let s = state_after pairs ops boundary word options n l.start in
        let g = (state_after pairs ops boundary word options (n + 1) l.start).given in
        let one : lettersOfFirst (n + 1) ≡ lettersOfFirst n ++ (c ∷ []) =
        ap (joined word) (answers_append n 1 l.start) ∙ joined_append word (answers pairs ops boundary word options n l.start) _
        ∙ ap (λ (ls : List ℕ). lettersOfFirst n ++ ls) (one_answer s ∙ ap (answer_letters word) e) in
        let is : lettersOfFirst n ++ (c ∷ []) ≡ take g word = sym one ∙ l.first_letters_lem (n + 1) in
        let at_p : length (lettersOfFirst n) ≡ p = sym (l.starts n p (ap item_start e)) in
        let whole : word ≡ lettersOfFirst n ++ (c ∷ drop g word) =
        sym (take-append-drop g word) ∙ ap (λ (ls : List ℕ). ls ++ drop g word) (sym is) ∙ append_assoc (lettersOfFirst n) (c ∷ []) (drop g word) in
        let inside : p + 1 ≤ length word =
        omega (arith, ap length is, length-append (lettersOfFirst n) (c ∷ []), length-take-le g word (l.within_word (n + 1)), l.within_word (n + 1)) in
        rw (le-leb (p + 1) (length word) inside)
        (ap (λ (ls : List ℕ). take 1 (drop p ls)) whole ∙ ap (take 1) (drop_at (lettersOfFirst n) (c ∷ drop g word) p at_p))
