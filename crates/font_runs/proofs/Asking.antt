-- Asked for the font in force, a host's run answers what it answers without that request, whatever the host does then.
-- Assumes nothing.
use mathlib.Core.Path.{◌≡◌, refl, sym, ap, subst, ◌∙◌}
use mathlib.Core.List.{List, [], ◌∷◌, ◌++◌}
use mathlib.Core.Option.{Option, none, some, map}
use Prim.Native.Nat.{ℕ, zero, suc}
use native.Mathlib.Omega.{arith}
use Rattle.std.specs.Prelude.{Option as Asked, Some, None}
use Rattle.captions.specs.declared.RunOptions.{RunOptions}
use Rattle.captions.specs.declared.State.{State}
use Rattle.captions.specs.declared.Answer.{Answer}
use Rattle.captions.specs.declared.Step.{Step}
use Rattle.captions.specs.Begin.{fresh_state}
use Rattle.captions.specs.Demand3.{Caption}
use Rattle.captions.proofs.Sound.{Sound, ops_of}
use Rattle.captions.proofs.Running.{letters}
use Rattle.font_runs.specs.declared.FontRun.{FontRun}
use Rattle.font_runs.specs.declared.FontStep.{FontStep}
use Rattle.font_runs.specs.Requests.{LentFont, by_asked, requested_by, starting, start_font, start_refusal, request_refusal}
use Rattle.font_runs.specs.Changes.{restarted, first_free, step_in_font, in_asked, changed_by, both_edges, waiting_by}
use Rattle.font_runs.specs.Shift.{later_state, FontFits}
use Rattle.font_runs.specs.Purpose.{HostAct, asks, starts, steps, Hosted, after_asking, after_starting, after_stepping, act_on, hosting}
use Rattle.font_runs.specs.Purpose.{Part, opening_part, part_word, part_options, part_state, changed_part, act_on_part, parting, AskedInForce}
use Rattle.font_runs.proofs.Shifting.{formed, whole_fits, sound_moved, free_ahead_moved}
use Rattle.font_runs.proofs.Parts.{Good, hosted_of, never_refused, part_good, restarts_there, handed, one, one_good}
use Rattle.font_runs.proofs.Parts.{all_acts, all_good, opening, opening_good}
use Rattle.font_runs.proofs.Began.{Began, run_of_began}
use Rattle.font_runs.proofs.Clearing.{cleared, cleared_step, is_ran, step_cleared, first_cleared}
use Rattle.font_runs.proofs.Restarting.{first_restarts}

module _ (fonts : ℕ → LentFont) (fits : (n : ℕ) → FontFits (fonts n)) where
  abbrev Runs : ℕ → List ℕ → State → Type 0
  Runs n word s = Sound (fonts n).ops word s (ops_of (fonts n).ops word s)

  -- ---- what is known of a host

  record Known (h : Hosted) : Type 0 where
    caption : Caption h.word h.options
    sound : Runs h.run.font h.word h.run.state
    began : Began h.run.state
    restarts : (u : State) → first_free (fonts h.run.font) h.word h.options h.run.state ≡ some u → (n : ℕ) → Runs n h.word (restarted u)

  -- the state of a part's run, over the word
  abbrev there : Part → State
  there p = later_state p.before (part_state fonts p)

  sound_there : (p : Part) → Good fonts fits p → Runs p.font p.word (there p)
  sound_there p g =
      sound_moved (fonts p.font) (fits p.font) p.word p.options g.caption p.before g.inside p.without
      (part_state fonts p) (ops_of (fonts p.font).ops (part_word p) (part_state fonts p)) g.sound

  module _ (p : Part) (g : Good fonts fits p) where
    restarts-sound : (o : Option State) → first_free (fonts p.font) (part_word p) (part_options p) (part_state fonts p) ≡ o → (u : State) →
        map (later_state p.before) o ≡ some u → (n : ℕ) → Runs n p.word (restarted u)
    restarts-sound none found u e n = absurd (let z : ◌≡◌ {A = ℕ} 0 1 = cc in omega arith)
    restarts-sound (some t) found u e n =
        let q : later_state p.before t ≡ u = cc in
        subst (λ (s : State). Runs n p.word s) (sym (restarts_there fonts fits p g n t found) ∙ ap restarted q)
        (sound_there (changed_part n t p) (part_good fonts fits p g n t found))

    known-part : Known (hosted_of fonts fits p)
    known-part =
        let f = fonts p.font in
        record {
          caption = g.caption;
          sound = sound_there p g;
          began = run_of_began f.pairs f.ops f.boundary (part_word p) (part_options p) p.made p.before;
          restarts = λ u e. restarts-sound (first_free f (part_word p) (part_options p) (part_state fonts p)) refl u
              (sym (free_ahead_moved f (fits p.font) p.word p.options g.caption p.before g.inside p.without (part_state fonts p)
              g.sound.inside) ∙ e);
        }

  record Held (h : Hosted) : Type 0 where
    part : Part
    good : Good fonts fits part
    is : hosted_of fonts fits part ≡ h

  known : {h : Hosted} → Held h → Known h
  known i = subst Known i.is (known-part i.part i.good)

  held_act : (a : HostAct) {h : Hosted} → Held h → Held (act_on fonts a h)
  held_act a i =
      record {
        part = act_on_part fonts a i.part;
        good = one_good fonts fits i.part i.good a;
        is = sym (one fonts fits i.part i.good a) ∙ ap (act_on fonts a) i.is;
      }

  -- ---- two hosts that answer the same

  data SameRequest (number : ℕ) : Asked ℕ → Asked ℕ → Type 0 where
    same : (a : Asked ℕ) → SameRequest number a a
    again : SameRequest number (Some number) None

  abbrev run_of : ℕ → State → Asked ℕ → FontRun
  run_of number s a = record { state = s; font = number; asked = a }

  abbrev host : List ℕ → RunOptions → List Answer → ℕ → State → Asked ℕ → Hosted
  host word options given number s a = record { run = run_of number s a; word = word; options = options; answers = given }

  data AlikeHosts (h i : Hosted) : Type 0 where
    alike : (word : List ℕ) (options : RunOptions) (given : List Answer) (number : ℕ) (s t : State) (a b : Asked ℕ) →
        h ≡ host word options given number s a → i ≡ host word options given number t b → cleared s ≡ cleared t → SameRequest number a b → AlikeHosts h i

  module _ (word : List ℕ) (options : RunOptions) (given : List Answer) (number : ℕ) (s t : State) where
    abbrev f : LentFont
    f = fonts number

    -- after a request, and at the start of a word
    asks_both : (a b : Asked ℕ) → cleared s ≡ cleared t → (n : ℕ) →
        AlikeHosts (act_on fonts (asks n) (host word options given number s a)) (act_on fonts (asks n) (host word options given number t b))
    asks_both a b e n =
        let z : request_refusal (fonts n) ≡ 0 = rw ((fits n).edge, (fits n).form) in
        alike word options given number s t (Some n) (Some n)
        (ap (λ (m : ℕ). after_asking (requested_by m (run_of number s (Some n))) (host word options given number s a)) z)
        (ap (λ (m : ℕ). after_asking (requested_by m (run_of number t (Some n))) (host word options given number t b)) z) e (same (Some n))

    starts_by : (a b : Asked ℕ) → cleared s ≡ cleared t → SameRequest number a b → (w : List ℕ) (o : RunOptions) (m n : ℕ) →
        AlikeHosts (after_starting (requested_by m (starting n w o)) w o (host word options given number s a))
        (after_starting (requested_by m (starting n w o)) w o (host word options given number t b))
    starts_by a b e k w o zero n = alike w o given n (fresh_state w o) (fresh_state w o) None None refl refl refl (same None)
    starts_by a b e k w o (suc m) n = alike word options given number s t a b refl refl e k

    starts-both : (a b : Asked ℕ) → cleared s ≡ cleared t → SameRequest number a b → (w : List ℕ) (o : RunOptions) →
        AlikeHosts (act_on fonts (starts w o) (host word options given number s a)) (act_on fonts (starts w o) (host word options given number t b))
    starts-both a b e (same c) w o =
        starts_by c c e (same c) w o (start_refusal (start_font f (by_asked c f fonts) c) w o) (by_asked c number (λ n. n))
    starts-both a b e again w o = starts_by (Some number) None e again w o (start_refusal f w o) number

    -- ---- after a step

    abbrev step : State → Step
    step u = step_in_font f word options u

    -- in the font of a number
    abbrev left : ℕ → Asked ℕ → Step → Hosted
    left n a u = host word options (given ++ (u.answer ∷ [])) n u.state a

    both_left : (n : ℕ) (u v : Step) (a b : Asked ℕ) → cleared_step u ≡ cleared_step v → SameRequest n a b → AlikeHosts (left n a u) (left n b v)
    both_left n u v a b e k =
        alike word options (given ++ (v.answer ∷ [])) n u.state v.state a b
        (ap (λ (w : Step). host word options (given ++ (w.answer ∷ [])) n u.state a) e) refl (ap (λ (w : Step). w.state) e) k

    module _ (caption : Caption word options) (r : State) where
      -- the host after a change to a font
      changes : (n : ℕ) (a : Asked ℕ) (u : State) → Runs n word (restarted u) →
          after_stepping (in_asked (run_of number r a) n (step_in_font (fonts n) word options (restarted u))) (host word options given number r a)
          ≡ left n None (step_in_font (fonts n) word options (restarted u))
      changes n a u h =
          let v = step_in_font (fonts n) word options (restarted u) in
          ap (λ (w : FontStep). after_stepping w (host word options given number r a))
          (handed (run_of number r a) (run_of n v.state None) v.answer (never_refused (fonts n) (fits n) word options caption (restarted u) h))

    -- the host after a step with a request, by the first free state
    abbrev stepped : State → ℕ → Option State → Hosted
    stepped r n o =
        after_stepping (changed_by f (fonts n) word options (run_of number r (Some n)) n o) (host word options given number r (Some n))

    waits : (r : State) (n : ℕ) → act_on fonts steps (host word options given number r (Some n)) ≡ stepped r n (first_free f word options r)
    waits r n =
        let z : both_edges f (fonts n) ≡ 0 = rw ((fits number).edge, (fits n).edge) in
        ap (λ (m : ℕ). after_stepping (waiting_by m (run_of number r (Some n))
        (changed_by f (fonts n) word options (run_of number r (Some n)) n (first_free f word options r)))
        (host word options given number r (Some n))) z

    module _ (e : cleared s ≡ cleared t) (a b : Asked ℕ) (h : Known (host word options given number s a)) (i : Known (host word options given number t b)) where
      steps_alike : cleared_step (step s) ≡ cleared_step (step t)
      steps_alike = step_cleared f (fits number) word options h.caption s t h.sound i.sound e

      -- the same request
      by_both : (n : ℕ) (o q : Option State) → first_free f word options s ≡ o → first_free f word options t ≡ q →
          map restarted o ≡ map restarted q → AlikeHosts (stepped s n o) (stepped t n q)
      by_both n none none p' q' m = both_left number (step s) (step t) (Some n) (Some n) steps_alike (same (Some n))
      by_both n none (some v) p' q' m = absurd (let z : ◌≡◌ {A = ℕ} 0 1 = cc in omega arith)
      by_both n (some u) none p' q' m = absurd (let z : ◌≡◌ {A = ℕ} 0 1 = cc in omega arith)
      by_both n (some u) (some v) p' q' m =
          let j : restarted u ≡ restarted v = cc in
          let x = step_in_font (fonts n) word options (restarted v) in
          alike word options (given ++ (x.answer ∷ [])) n x.state x.state None None
          (changes h.caption s n (Some n) u (h.restarts u p' n)
          ∙ ap (λ (y : State). left n None (step_in_font (fonts n) word options y)) j)
          (changes h.caption t n (Some n) v (i.restarts v q' n)) refl (same None)

      -- the font in force asked for
      restarts-alike : (u : State) → first_free f word options s ≡ some u → cleared_step (step (restarted u)) ≡ cleared_step (step s)
      restarts-alike u found =
          let c = h.caption in
          let table = formed f (fits number) word options c in
          let fit = whole_fits f (fits number) word options c in
          ap cleared_step (is_ran f (fits number) word options c (restarted u) (h.restarts u found number))
          ∙ sym (first_restarts f word options (letters f.pairs f.ops table f.boundary word options fit) s h.began
          (omega (arith, h.sound.counted)) u found)
          ∙ ap cleared_step (sym (is_ran f (fits number) word options c s h.sound))

      by-again : (o : Option State) → first_free f word options s ≡ o → AlikeHosts (stepped s number o) (left number None (step t))
      by-again none p' = both_left number (step s) (step t) (Some number) None steps_alike again
      by-again (some u) p' =
          subst (λ (x : Hosted). AlikeHosts x (left number None (step t)))
          (sym (changes h.caption s number (Some number) u (h.restarts u p' number)))
          (both_left number (step (restarted u)) (step t) None None (restarts-alike u p' ∙ steps_alike) (same None))

    steps-both : (a b : Asked ℕ) → cleared s ≡ cleared t → SameRequest number a b → Known (host word options given number s a) →
        Known (host word options given number t b) →
        AlikeHosts (act_on fonts steps (host word options given number s a)) (act_on fonts steps (host word options given number t b))
    steps-both a b e (same None) h i =
        both_left number (step s) (step t) None None (steps_alike e None None h i) (same None)
    steps-both a b e (same (Some n)) h i =
        subst (λ (x : Hosted). AlikeHosts x (act_on fonts steps (host word options given number t (Some n)))) (sym (waits s n))
        (subst (AlikeHosts (stepped s n (first_free f word options s))) (sym (waits t n))
        (by_both e (Some n) (Some n) h i n (first_free f word options s) (first_free f word options t) refl refl
        (first_cleared f word options s t e)))
    steps-both a b e again h i =
        subst (λ (x : Hosted). AlikeHosts x (left number None (step t))) (sym (waits s number))
        (by-again e (Some number) None h i (first_free f word options s) refl)

    act-both : (c : HostAct) (a b : Asked ℕ) → cleared s ≡ cleared t → SameRequest number a b → Known (host word options given number s a) →
        Known (host word options given number t b) →
        AlikeHosts (act_on fonts c (host word options given number s a)) (act_on fonts c (host word options given number t b))
    act-both (asks n) a b e k h i = asks_both a b e n
    act-both (starts w o) a b e k h i = starts-both a b e k w o
    act-both steps a b e k h i = steps-both a b e k h i

  -- ---- any acts

  act_alike : (c : HostAct) {h i : Hosted} → Known h → Known i → AlikeHosts h i → AlikeHosts (act_on fonts c h) (act_on fonts c i)
  act_alike c {h} {i} k l (alike word options given number s t a b p q e r) =
      subst (λ (x : Hosted). AlikeHosts (act_on fonts c x) (act_on fonts c i)) (sym p)
      (subst (λ (x : Hosted). AlikeHosts (act_on fonts c (host word options given number s a)) (act_on fonts c x)) (sym q)
      (act-both word options given number s t c a b e r (subst Known p k) (subst Known q l)))

  same_given : {h i : Hosted} → AlikeHosts h i → h.answers ≡ i.answers
  same_given (alike word options given number s t a b p q e r) = ap (λ (x : Hosted). x.answers) p ∙ sym (ap (λ (x : Hosted). x.answers) q)

  all : (acts : List HostAct) (h i : Hosted) → Held h → Held i → AlikeHosts h i → (hosting fonts acts h).answers ≡ (hosting fonts acts i).answers
  unfolding hosting
  all [] h i k l e = same_given e
  all (c ∷ acts) h i k l e =
      all acts (act_on fonts c h) (act_on fonts c i) (held_act c k) (held_act c l) (act_alike c (known k) (known l) e)

pub asked_in_force : AskedInForce
unfolding hosting
asked_in_force fonts fits number before h e a later =
    let g = opening_good fonts fits number in
    let held : Held fonts fits h =
    record {
      part = parting fonts before (opening_part number);
      good = all_good fonts fits before (opening_part number) g;
      is = sym (ap (hosting fonts before) (opening fonts fits number) ∙ all_acts fonts fits before (opening_part number) g) ∙ e;
    } in
    let z : request_refusal (fonts h.run.font) ≡ 0 = rw ((fits h.run.font).edge, (fits h.run.font).form) in
    let f = h.run.font in
    let s = h.run.state in
    all fonts fits later (act_on fonts (asks f) h) h (held_act fonts fits (asks f) held) held
    (alike h.word h.options h.answers f s s (Some f) None
    (ap (λ (m : ℕ). after_asking (requested_by m (record { state = s; font = f; asked = Some f })) h) z)
    (ap (host fonts fits h.word h.options h.answers f s) a) refl again)
