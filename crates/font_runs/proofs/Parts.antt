-- Whatever a host does, its run is that over a part of a word, with the letters before the part counted.
-- Assumes nothing.
use mathlib.Core.Path.{◌≡◌, refl, sym, ap, subst, ◌∙◌}
use mathlib.Core.Bool.{Bool, true, false, cond}
use mathlib.Core.List.Memᴰ
use mathlib.Core.List.{List, [], ◌∷◌, ◌++◌, Memᴰ}
use mathlib.Core.Logic.{◌⊎◌, inl, inr, ⊎_elim}
use mathlib.Core.Option.{Option, none, some, map}
use Prim.Native.Nat.{ℕ, zero, suc, ◌+◌, ◌-◌, ◌≤◌}
use native.Mathlib.Omega.{arith}
use lib.IntN.{ℤ, pos, negsuc}
use lib.Dec.{leb, eqb}
use lib.ListN.{length, get_or, drop, length-drop}
use lib.Seq.{get_or-drop}
use borrow.Author.Tests.{leb-true}
use Rattle.std.specs.Prelude.{Option as Asked, Some, None}
use Rattle.lang.specs.Records.{absent_or}
use Rattle.lang.specs.Checks.{or_else, absent_refusal, is_letter}
use Rattle.lang.proofs.Every.{every_none}
use Rattle.lang.proofs.Refusals.{unless_none, or_else_none}
use Rattle.reading.specs.Items.{Out}
use Rattle.reading.specs.Run as plainly
use Rattle.captions.specs.declared.RunOptions.{RunOptions}
use Rattle.captions.specs.declared.NextLeft.{NextLeft}
use Rattle.captions.specs.declared.NextLeft.TheVariants as next
use Rattle.captions.specs.declared.State.{State}
use Rattle.captions.specs.declared.Answer.{Answer}
use Rattle.captions.specs.declared.Answer.TheVariants.{Char, Ligature, Kern, End, Refused}
use Rattle.captions.specs.declared.Step.{Step}
use Rattle.captions.specs.Form.{table_refusal}
use Rattle.captions.specs.Tables.{ops_from}
use Rattle.captions.specs.Begin.{fresh, without_boundary, fresh_state, plain_options, edges_refusal, word_refusal, letters_refusal, override_refusal}
use Rattle.captions.specs.Steps.{right_item, step_of}
use Rattle.captions.specs.Runs.{shown}
use Rattle.captions.specs.Letters.{state_after}
use Rattle.captions.specs.Demand3.{Caption, override_fits}
use Rattle.captions.proofs.Sound.{Sound, ops_of, shown_of, Follows}
use Rattle.captions.proofs.Running.{letters, step_turns, step_follows}
use Rattle.captions.proofs.Lettered.{plains_are, Lettered, Keeps}
use Rattle.captions.proofs.Letters.{keeps}
use Rattle.font_runs.specs.declared.FontRun.{FontRun}
use Rattle.font_runs.specs.declared.FontStep.{FontStep}
use Rattle.font_runs.specs.Requests.{LentFont, by_asked, requested_by, start_font, starting, start_refusal, request_refusal}
use Rattle.font_runs.specs.Changes.{restarted, first_free, step_in_font, in_force, in_asked, hand_run, changed_by, both_edges, waiting_by, font_step_by}
use Rattle.font_runs.specs.Shift.{later_state, later_answer, later_step, without_left, rest_options, RunStandsAt, FontFits}
use Rattle.font_runs.specs.Purpose.{HostAct, asks, starts, steps, Hosted, first_hosted, after_asking, after_starting, after_stepping, act_on, hosting}
use Rattle.font_runs.specs.Purpose.{Part, opening_part, part_word, part_options, part_state, part_answer, onward, changed_part, stepped_part, asked_part}
use Rattle.font_runs.specs.Purpose.{started_part, part_number, act_on_part, parting, SameAnswers, TheWhole}
use Rattle.font_runs.proofs.Shifting.{formed, whole_fits, rest_caption, step_moved, step_sound, fresh_sound, free_ahead_moved, stands_inside, restarts}
use Rattle.font_runs.proofs.Standing.{stands_first}

-- ---- a run over a word, in a font that fits

no_refusal : (k : ℕ) (o : Option Out) (a : Answer) → shown a ≡ shown_of o → a ≡ Refused k → ⊥
no_refusal k none a h e = let z : ◌≡◌ {A = ℕ} 0 1 = cc in omega arith
no_refusal k (some o) a h e = let z : ◌≡◌ {A = ℕ} 0 1 = cc in omega arith

follows_taken : {ops : List ℤ} {word : List ℕ} {t : Step} {a : plainly.PlainAnswer} → Follows ops word t a → (k : ℕ) → t.answer ≡ Refused k → ⊥
follows_taken {t = t} {a = a} f k e = no_refusal k a.gives t.answer f.answers e

module _ (font : LentFont) (fits : FontFits font) (word : List ℕ) (options : RunOptions) (caption : Caption word options) where
  abbrev Runs : State → Type 0
  Runs s = Sound font.ops word s (ops_of font.ops word s)

  abbrev Spells : State → Type 0
  Spells s = Lettered font.ops word s (ops_of font.ops word s)

  pub never_refused : (s : State) → Runs s → (k : ℕ) → (step_in_font font word options s).answer ≡ Refused k → ⊥
  never_refused s h k e =
      follows_taken
      (step_follows font.pairs font.ops (formed font fits word options caption) font.boundary word options
      (whole_fits font fits word options caption) s h) k e

  step_spells : (s : State) → Runs s → Spells s → Spells (step_in_font font word options s).state
  step_spells s h l =
      let table = formed font fits word options caption in
      let fit = whole_fits font fits word options caption in
      let k : Keeps font.ops word s.given (step_in_font font word options s) =
      rw (step_turns font.pairs font.ops table font.boundary word options fit s h)
      (keeps font.pairs font.ops table word (right_item font.boundary options.right_boundary_override)
      (letters font.pairs font.ops table font.boundary word options fit)
      (suc (length word - s.read))
      s.next_left s.op s.ops s.read s.given s.pending s.pending_boundary s.consumes_left (λ _. omega arith) h l) in
      k.lettered

  fresh_by : (cs : List ℕ) → word ≡ cs → (d : Bool) → Spells (cond d (without_boundary cs) (fresh next.Boundary 0))
  unfolding ops_from plains_are
  fresh_by cs e false = record { own = tt; plains = refl }
  fresh_by [] e true = record { own = rw e refl; plains = refl }
  fresh_by (c ∷ cs) e true = record { own = rw e refl; plains = refl }

  fresh_spells : Spells (fresh_state word options)
  fresh_spells = fresh_by word refl options.disable_left_boundary

  -- the last of some steps
  last_after : (n : ℕ) (s : State) →
      state_after font.pairs font.ops font.boundary word options (suc n) s
      ≡ (step_in_font font word options (state_after font.pairs font.ops font.boundary word options n s)).state
  unfolding state_after
  last_after zero s = refl
  last_after (suc n) s = last_after n (step_in_font font word options s).state

pub handed : (run after : FontRun) (a : Answer) → ((k : ℕ) → a ≡ Refused k → ⊥) → hand_run run after a ≡ record { answer = a; run = after }
handed run after (Char c p) h = refl
handed run after (Ligature c p n a b) h = refl
handed run after (Kern k) h = refl
handed run after End h = refl
handed run after (Refused n) h = absurd (h n refl)

later_taken : (g : ℕ) (a : Answer) → ((k : ℕ) → a ≡ Refused k → ⊥) → (k : ℕ) → later_answer g a ≡ Refused k → ⊥
later_taken g (Char c p) h k e = let z : ◌≡◌ {A = ℕ} 0 1 = cc in omega arith
later_taken g (Ligature c p n a b) h k e = let z : ◌≡◌ {A = ℕ} 0 1 = cc in omega arith
later_taken g (Kern v) h k e = let z : ◌≡◌ {A = ℕ} 0 1 = cc in omega arith
later_taken g End h k e = let z : ◌≡◌ {A = ℕ} 0 1 = cc in omega arith
later_taken g (Refused n) h k e = h n refl

-- a word that begin takes is a caption
override_begun : (z : ℤ) → absent_refusal 2147483647 z ≡ 0 → override_refusal z ≡ 0 → override_fits z ≡ true
override_begun (pos c) a l = unless_none 19 (is_letter c) l
override_begun (negsuc n) a l = unless_none 3 (eqb n 0) a

begun_caption : (font : LentFont) (word : List ℕ) (options : RunOptions) → start_refusal font word options ≡ 0 → Caption word options
begun_caption font word options e =
    let override = options.right_boundary_override in
    let last = or_else (letters_refusal word) (override_refusal override) in
    let a = or_else_none (edges_refusal font.boundary options) (or_else (word_refusal word) (or_else (table_refusal font.pairs font.ops) last)) e in
    let b = or_else_none (word_refusal word) (or_else (table_refusal font.pairs font.ops) last) a.1 in
    let c = or_else_none (table_refusal font.pairs font.ops) last b.1 in
    let l = or_else_none (letters_refusal word) (override_refusal override) c.1 in
    let d = or_else_none (absent_refusal 255 font.boundary) (absent_refusal 2147483647 override) a.0 in
    record {
      letters_fit = unless_none 19 _ l.0;
      word_fits = leb-true (length word) 65535 (unless_none 5 (leb (length word) 65535) b.0);
      override_fits_lem = override_begun override d.1 l.1;
    }

-- ---- a host and its part

module _ (fonts : ℕ → LentFont) (fits : (n : ℕ) → FontFits (fonts n)) where
  abbrev pub hosted_of : Part → Hosted
  hosted_of p =
      record {
        run = record { state = later_state p.before (part_state fonts p); font = p.font; asked = p.asked };
        word = p.word;
        options = p.options;
        answers = p.answers;
      }

  pub record Good (p : Part) : Type 0 where
    pub inside : p.before ≤ length p.word
    pub caption : Caption p.word p.options
    pub sound : Sound (fonts p.font).ops (part_word p) (part_state fonts p) (ops_of (fonts p.font).ops (part_word p) (part_state fonts p))
    pub spells : Lettered (fonts p.font).ops (part_word p) (part_state fonts p) (ops_of (fonts p.font).ops (part_word p) (part_state fonts p))
    pub unrefused : (n : ℕ) → Memᴰ (Refused n) p.answers → ⊥

  -- a part at its start
  begun_good : (p : Part) → p.made ≡ 0 → p.before ≤ length p.word → Caption p.word p.options →
      ((n : ℕ) → Memᴰ (Refused n) p.answers → ⊥) → Good p
  unfolding state_after
  begun_good p z i c u =
      let f = fonts p.font in
      let e : fresh_state (part_word p) (part_options p) ≡ part_state fonts p =
      ap (λ (n : ℕ). state_after f.pairs f.ops f.boundary (part_word p) (part_options p) n (fresh_state (part_word p) (part_options p))) (sym z) in
      record {
        inside = i;
        caption = c;
        sound = subst (λ (s : State). Sound f.ops (part_word p) s (ops_of f.ops (part_word p) s)) e
            (fresh_sound f (fits p.font) p.word p.options c p.before i p.without);
        spells = subst (λ (s : State). Lettered f.ops (part_word p) s (ops_of f.ops (part_word p) s)) e
            (fresh_spells f (fits p.font) (part_word p) (part_options p)
            (rest_caption f (fits p.font) p.word p.options c p.before i p.without));
        unrefused = u;
      }

  module _ (p : Part) (g : Good p) where
    abbrev f : LentFont
    f = fonts p.font

    abbrev s : State
    s = part_state fonts p

    own : Caption (part_word p) (part_options p)
    own = rest_caption f (fits p.font) p.word p.options g.caption p.before g.inside p.without

    after : part_state fonts (onward fonts p) ≡ (step_in_font f (part_word p) (part_options p) s).state
    after = last_after f (fits p.font) (part_word p) (part_options p) own p.made (fresh_state (part_word p) (part_options p))

    not_last : (n : ℕ) → Memᴰ (Refused n) (part_answer fonts p ∷ []) → ⊥
    not_last n m =
        later_taken p.before (step_in_font f (part_word p) (part_options p) s).answer
        (never_refused f (fits p.font) (part_word p) (part_options p) own s g.sound) n (sym (Memᴰ.eq_of_singleton m))

    onward-good : Good (onward fonts p)
    onward-good =
        record {
          inside = g.inside;
          caption = g.caption;
          sound = subst (λ (t : State). Sound f.ops (part_word p) t (ops_of f.ops (part_word p) t)) (sym after)
              (step_sound f (fits p.font) p.word p.options g.caption p.before g.inside p.without s g.sound);
          spells = subst (λ (t : State). Lettered f.ops (part_word p) t (ops_of f.ops (part_word p) t)) (sym after)
              (step_spells f (fits p.font) (part_word p) (part_options p) own s g.sound g.spells);
          unrefused = λ n m. ⊎_elim (g.unrefused n) (not_last n) (Memᴰ.append_cases p.answers m);
        }

    -- the part goes on
    stays : after_stepping (in_force (hosted_of p).run (step_in_font f p.word p.options (later_state p.before s))) (hosted_of p) ≡ hosted_of (onward fonts p)
    stays =
        ap (λ (t : Step). after_stepping (in_force (hosted_of p).run t) (hosted_of p))
        (step_moved f (fits p.font) p.word p.options g.caption p.before g.inside p.without s g.sound)
        ∙ ap there (sym after)
      where
        there : State → Hosted
        there t =
            record {
              run = record { state = later_state p.before t; font = p.font; asked = p.asked };
              word = p.word;
              options = p.options;
              answers = p.answers ++ (part_answer fonts p ∷ []);
            }

    -- ---- a free state with a font asked for

    module _ (n : ℕ) (t : State) (found : first_free f (part_word p) (part_options p) s ≡ some t) where
      abbrev part : Part
      part = changed_part n t p

      in_rest : RunStandsAt (part_word p) t.given t.read t.next_left
      in_rest = stands_first f (part_word p) (part_options p) s g.sound g.spells t found

      in-word : (x : NextLeft) → RunStandsAt (part_word p) t.given t.read x → RunStandsAt p.word (p.before + t.given) (p.before + t.read) x
      in-word next.Boundary h = (omega (arith, h.0), omega (arith, h.1, length-drop p.before p.word, g.inside))
      in-word (next.Char c) h = (
        omega (arith, h.0),
        omega (arith, h.1, length-drop p.before p.word),
        sym (get_or-drop p.before p.word t.given 0) ∙ h.2,
      )
      in-word (next.Lig c) h = h
      in-word (next.FinalLig c) h = h
      in-word next.None h = h

      stands : RunStandsAt p.word (p.before + t.given) (p.before + t.read) t.next_left
      stands = in-word t.next_left in_rest

      pub part_good : Good part
      part_good =
          begun_good part refl (stands_inside p.word p.options (p.before + t.given) (p.before + t.read) t.next_left stands)
          g.caption g.unrefused

      -- restarted, it is the new part's own state
      pub restarts_there : restarted (later_state p.before t) ≡ later_state part.before (part_state fonts part)
      unfolding state_after
      restarts_there = restarts p.word p.options (p.before + t.given) (p.before + t.read) t.next_left stands

      abbrev step : Step
      step = step_in_font (fonts n) p.word p.options (later_state part.before (part_state fonts part))

  module _ (p : Part) (g : Good p) where
    step_taken : (k : ℕ) → (step_in_font (fonts p.font) p.word p.options (later_state p.before (part_state fonts p))).answer ≡ Refused k → ⊥
    step_taken k e =
        let f = fonts p.font in
        let s = part_state fonts p in
        later_taken p.before (step_in_font f (part_word p) (part_options p) s).answer
        (never_refused f (fits p.font) (part_word p) (part_options p) (own p g) s g.sound) k
        (sym (ap (λ (t : Step). t.answer)
        (step_moved f (fits p.font) p.word p.options g.caption p.before g.inside p.without s g.sound)) ∙ e)

  module _ (p : Part) (g : Good p) (n : ℕ) where
    changes : (t : State) (found : first_free (fonts p.font) (part_word p) (part_options p) (part_state fonts p) ≡ some t) →
        after_stepping (in_asked (hosted_of p).run n (step_in_font (fonts n) p.word p.options (restarted (later_state p.before t)))) (hosted_of p)
        ≡ hosted_of (onward fonts (changed_part n t p))
    changes t found =
        let q = changed_part n t p in
        let h = part_good p g n t found in
        let u = step p g n t found in
        ap (λ (x : State). after_stepping (in_asked (hosted_of p).run n (step_in_font (fonts n) p.word p.options x)) (hosted_of p))
        (restarts_there p g n t found)
        ∙ ap (λ (x : FontStep). after_stepping x (hosted_of p))
        (handed (hosted_of p).run (record { state = u.state; font = n; asked = None }) u.answer (step_taken q h))
        ∙ stays q h

    -- by the first free state
    by_free : (o : Option State) → first_free (fonts p.font) (part_word p) (part_options p) (part_state fonts p) ≡ o →
        after_stepping (changed_by (fonts p.font) (fonts n) p.word p.options (hosted_of p).run n (map (later_state p.before) o)) (hosted_of p)
        ≡ hosted_of (stepped_part fonts p (Some n) o)
    by_free none e = stays p g
    by_free (some t) e = changes t e

    by-free-good : (o : Option State) → first_free (fonts p.font) (part_word p) (part_options p) (part_state fonts p) ≡ o →
        Good (stepped_part fonts p (Some n) o)
    by-free-good none e = onward-good p g
    by-free-good (some t) e = onward-good (changed_part n t p) (part_good p g n t e)

    edges : both_edges (fonts p.font) (fonts n) ≡ 0
    edges = rw ((fits p.font).edge, (fits n).edge)

    waits : after_stepping
        (waiting_by (both_edges (fonts p.font) (fonts n)) (hosted_of p).run
        (changed_by (fonts p.font) (fonts n) p.word p.options (hosted_of p).run n
        (first_free (fonts p.font) p.word p.options (hosted_of p).run.state))) (hosted_of p)
        ≡ hosted_of (stepped_part fonts p (Some n) (first_free (fonts p.font) (part_word p) (part_options p) (part_state fonts p)))
    waits =
        (λ j. after_stepping
        (waiting_by (edges j) (hosted_of p).run
        (changed_by (fonts p.font) (fonts n) p.word p.options (hosted_of p).run n
        (free_ahead_moved (fonts p.font) (fits p.font) p.word p.options g.caption p.before g.inside p.without (part_state fonts p)
        g.sound.inside j))) (hosted_of p))
        ∙ by_free (first_free (fonts p.font) (part_word p) (part_options p) (part_state fonts p)) refl

  -- ---- one act

  module _ (p : Part) (g : Good p) where
    steps_by : (a : Asked ℕ) →
        after_stepping (font_step_by (fonts p.font) (by_asked a (fonts p.font) fonts) p.word p.options (hosted_of p).run a) (hosted_of p)
        ≡ hosted_of (stepped_part fonts p a (first_free (fonts p.font) (part_word p) (part_options p) (part_state fonts p)))
    steps_by None = stays p g
    steps_by (Some n) = waits p g n

    steps-good : (a : Asked ℕ) → Good (stepped_part fonts p a (first_free (fonts p.font) (part_word p) (part_options p) (part_state fonts p)))
    steps-good None = onward-good p g
    steps-good (Some n) = by-free-good p g n (first_free (fonts p.font) (part_word p) (part_options p) (part_state fonts p)) refl

    taken : (n : ℕ) → request_refusal (fonts n) ≡ 0
    taken n = rw ((fits n).edge, (fits n).form)

    started-by : (word : List ℕ) (options : RunOptions) (m number : ℕ) →
        after_starting (requested_by m (starting number word options)) word options (hosted_of p) ≡ hosted_of (started_part m number word options p)
    unfolding state_after
    started-by word options zero number =
        let s = fresh_state word options in
        λ j. record {
          run = record {
            state = record {
              next_left = s.next_left;
              op = s.op;
              ops = s.ops;
              read = none_before s.read j;
              given = none_before s.given j;
              pending = s.pending;
              pending_boundary = s.pending_boundary;
              consumes_left = s.consumes_left;
            };
            font = number;
            asked = None;
          };
          word = word;
          options = options;
          answers = p.answers;
        }
      where
        none_before : (n : ℕ) → n ≡ 0 + n
        none_before n = omega arith
    started-by word options (suc m) number = refl

    started-good : (word : List ℕ) (options : RunOptions) (m number : ℕ) → start_refusal (fonts number) word options ≡ m →
        Good (started_part m number word options p)
    started-good word options zero number e =
        begun_good (started_part zero number word options p) refl (omega arith) (begun_caption (fonts number) word options e) g.unrefused
    started-good word options (suc m) number e = g

    same_start : (a : Asked ℕ) → start_font (fonts p.font) (by_asked a (fonts p.font) fonts) a ≡ fonts (by_asked a p.font (λ n. n))
    same_start None = refl
    same_start (Some n) = refl

    pub one : (a : HostAct) → act_on fonts a (hosted_of p) ≡ hosted_of (act_on_part fonts a p)
    one (asks n) =
        ap (λ (m : ℕ). after_asking (requested_by m (record { state = (hosted_of p).run.state; font = p.font; asked = Some n })) (hosted_of p)) (taken n)
    one (starts word options) =
        ap (λ (f : LentFont). after_starting (requested_by (start_refusal f word options) (starting (part_number p) word options)) word options (hosted_of p))
        (same_start p.asked)
        ∙ started-by word options (start_refusal (fonts (part_number p)) word options) (part_number p)
    one steps = steps_by p.asked

    pub one_good : (a : HostAct) → Good (act_on_part fonts a p)
    one_good (asks n) = record { inside = g.inside; caption = g.caption; sound = g.sound; spells = g.spells; unrefused = g.unrefused }
    one_good (starts word options) = started-good word options (start_refusal (fonts (part_number p)) word options) (part_number p) refl
    one_good steps = steps-good p.asked

  -- ---- any list of acts

  pub all_acts : (acts : List HostAct) (p : Part) → Good p → hosting fonts acts (hosted_of p) ≡ hosted_of (parting fonts acts p)
  unfolding hosting parting
  all_acts [] p g = refl
  all_acts (a ∷ acts) p g = ap (hosting fonts acts) (one p g a) ∙ all_acts acts (act_on_part fonts a p) (one_good p g a)

  pub all_good : (acts : List HostAct) (p : Part) → Good p → Good (parting fonts acts p)
  unfolding parting
  all_good [] p g = g
  all_good (a ∷ acts) p g = all_good acts (act_on_part fonts a p) (one_good p g a)

  no_letters : Caption [] plain_options
  no_letters = record { override_fits_lem = refl; word_fits = omega arith; letters_fit = every_none (λ i. is_letter (get_or [] i 0)) }

  pub opening_good : (number : ℕ) → Good (opening_part number)
  opening_good number = begun_good (opening_part number) refl (omega arith) no_letters (λ n m. Memᴰ.not-nil m)

  pub opening : (number : ℕ) → first_hosted number ≡ hosted_of (opening_part number)
  unfolding state_after
  opening number = refl

pub the_whole : TheWhole
the_whole fonts fits number acts =
    let g = opening_good fonts fits number in
    let e = ap (hosting fonts acts) (opening fonts fits number) ∙ all_acts fonts fits acts (opening_part number) g in
    let u = all_good fonts fits acts (opening_part number) g in
    record {
      given = ap (λ (h : Hosted). h.answers) e;
      font = ap (λ (h : Hosted). h.run.font) e;
      asked = ap (λ (h : Hosted). h.run.asked) e;
      none_refused = λ n m. u.unrefused n (subst (λ (h : Hosted). Memᴰ (Refused n) h.answers) e m);
    }
