-- The items of a run by any step, one after the other, and the list that they are written to: what is written so far, and what the steps that are left give.
-- Assumes nothing.
use mathlib.Core.Path.{◌≡◌, refl, sym, ap, subst, ◌∙◌}
use mathlib.Core.Bool.{true, false}
use mathlib.Core.List.{List, [], ◌∷◌, ◌++◌, append-nil, append_assoc}
use Prim.Native.Nat.{ℕ, zero, suc, ◌+◌, ◌-◌, ◌*◌, ◌/◌, ◌<◌, ◌≤◌}
use native.Mathlib.Omega.{arith}
use lib.IntN.{ℤ, pos}
use lib.ListN.{length, replicate, length-append, length-replicate}
use lib.Seq.{sets}
use Rattle.words.specs.Lists.{Appending}
use Rattle.words.proofs.Lists.{appending_none, appending_more, appending_length, appending_rest}
use Rattle.lang.specs.declared.Written.{Written}
use Rattle.lang.specs.declared.Written.TheVariants as written
use Rattle.lang.specs.Answers.{Reply, reply_of, list_of}
use Rattle.lang.proofs.Refusals.{refused_answer}
use Rattle.lang.proofs.Filled.{refused_list}
use Rattle.captions.specs.declared.RunOptions.{RunOptions}
use Rattle.captions.specs.declared.State.{State}
use Rattle.captions.specs.declared.Begun.TheVariants as begun
use Rattle.captions.specs.declared.Answer.{Answer}
use Rattle.captions.specs.declared.Answer.TheVariants.{Char, Ligature, Kern, End, Refused}
use Rattle.captions.specs.declared.Step.{Step}
use Rattle.captions.specs.Replies.{answer_reply}
use Rattle.captions.specs.Begin.{begin_refusal, fresh_state, begun_by, begin_of}
use Rattle.word_items.specs.ItemLists.{is_item, Small, Stops}
use Rattle.word_items.proofs.Laws.{no, item_six}
use Rattle.word_set.specs.Setting.{numbers_before, and_then, items_by, after_begin}
use Rattle.word_set.specs.Writing.{Tells}

-- a list of zeros is as long as the one that was zeroed
pub blank : (d₀ d : List ℤ) → d ≡ replicate (length d₀) (pos 0) → d ≡ replicate (length d) (pos 0)
blank d₀ d e = e ∙ ap (λ (n : ℕ). replicate n (pos 0)) (sym (ap length e ∙ length-replicate (length d₀) (pos 0)))

-- ---- numbers before a reply

before_none : (n : ℕ) (vs : List ℤ) → numbers_before [] (reply_of n vs) ≡ reply_of n vs
before_none zero vs = refl
before_none (suc n) vs = refl

before_more : (xs ys : List ℤ) (n : ℕ) (vs : List ℤ) → numbers_before xs (reply_of n (ys ++ vs)) ≡ reply_of n ((xs ++ ys) ++ vs)
before_more xs ys zero vs = ap (reply_of 0) (sym (append_assoc xs ys vs))
before_more xs ys (suc n) vs = refl

-- a reply that a step begins is its number alone where it is refused
then_normal : (a : Answer) (r : Reply) → numbers_before [] (and_then a r) ≡ and_then a r
then_normal (Char c p) r = before_none r.number ((answer_reply (Char c p)).values ++ r.values)
then_normal (Ligature c p n a b) r = before_none r.number ((answer_reply (Ligature c p n a b)).values ++ r.values)
then_normal (Kern k) r = before_none r.number ((answer_reply (Kern k)).values ++ r.values)
then_normal End r = refl
then_normal (Refused zero) r = refl
then_normal (Refused (suc n)) r = refl

-- an item is six numbers before what follows
pub item_then : (a : Answer) (r : Reply) → is_item a ≡ true → and_then a r ≡ numbers_before (answer_reply a).values r
item_then (Char c p) r h = refl
item_then (Ligature c p n a b) r h = refl
item_then (Kern k) r h = refl
item_then End r h = no h
item_then (Refused n) r h = no h

-- ---- what a reply tells

tells_count : (d₀ d done : List ℤ) (k : ℕ) → length done ≡ 6 * k → Appending done d₀ d → d₀ ≡ replicate (length d₀) (pos 0) →
    Tells (reply_of 0 done) d₀ (written.Count k) d
tells_count d₀ d done k m w z =
    let e : k ≡ length done / 6 = omega (arith, m) in
    record { answer = ap (λ (j : ℕ). reply_of 0 (pos j ∷ [])) e; list = appending_rest d₀ (pos 0) (length d₀) z w }

tells_refused : (d₀ d : List ℤ) (n : ℕ) → d ≡ replicate (length d₀) (pos 0) → Tells (reply_of (suc n) []) d₀ (written.Refused (suc n)) d
tells_refused d₀ d n e = record { answer = refl; list = e }

-- the same reply, and a list as long
tells_same : (r q : Reply) → r ≡ q → (d d₀ : List ℤ) → length d ≡ length d₀ → (x : Written) (d' : List ℤ) → Tells r d x d' → Tells q d₀ x d'
tells_same r q e d d₀ l x d' h =
    record {
      answer = h.answer ∙ ap (λ (r : Reply). reply_of r.number (pos (length r.values / 6) ∷ [])) e;
      list = h.list ∙ (λ j. list_of (e j).number (pos 0) (l j) (e j).values);
    }

-- ---- the items from a state on, by the step from it

module _ (step : State → Step) where
  from_normal : (n : ℕ) (s : State) → numbers_before [] (items_by step n s) ≡ items_by step n s
  unfolding items_by
  from_normal zero s = then_normal (step s).answer (reply_of 15 [])
  from_normal (suc n) s = then_normal (step s).answer (items_by step n (step s).state)

  module _ (s : State) (t : Step) (e : t ≡ step s) where
    from_zero : items_by step 0 s ≡ and_then t.answer (reply_of 15 [])
    unfolding items_by
    from_zero = ap (λ (u : Step). and_then u.answer (reply_of 15 [])) (sym e)

    pub from_suc : (n : ℕ) → items_by step (suc n) s ≡ and_then t.answer (items_by step n t.state)
    unfolding items_by
    from_suc n = ap (λ (u : Step). and_then u.answer (items_by step n u.state)) (sym e)

    -- a step that gives no item
    pub from_stops : (n : ℕ) (a : Answer) (q : Reply) → t.answer ≡ a → ((r : Reply) → and_then a r ≡ q) → items_by step n s ≡ q
    from_stops zero a q h f = from_zero ∙ ap (λ (x : Answer). and_then x (reply_of 15 [])) h ∙ f (reply_of 15 [])
    from_stops (suc n) a q h f = from_suc n ∙ ap (λ (x : Answer). and_then x (items_by step n t.state)) h ∙ f (items_by step n t.state)

  -- ---- k items of the run from s₀ are written over d₀, and the run stands at s

  pub record Standing (s₀ : State) (d₀ d : List ℤ) (s : State) (k : ℕ) : Type 0 where
    pub done : List ℤ
    pub many : length done ≡ 6 * k
    pub stored : Appending done d₀ d
    pub few : k ≤ length d₀ / 6
    pub rest : items_by step (length d₀ / 6) s₀ ≡ numbers_before done (items_by step (length d₀ / 6 - k) s)

  pub standing_none : (s : State) (d : List ℤ) → Standing s d d s 0
  standing_none s d =
      let e : length d / 6 - 0 ≡ length d / 6 = omega arith in
      record {
        done = [];
        many = refl;
        stored = appending_none d;
        few = omega arith;
        rest = sym (ap (λ (n : ℕ). numbers_before [] (items_by step n s)) e ∙ from_normal (length d / 6) s);
      }

  module _ (s₀ : State) (d₀ d : List ℤ) (s : State) (k : ℕ) (i : Standing s₀ d₀ d s k) (t : Step) (e : t ≡ step s) where
    -- one item more
    module _ (h : is_item t.answer ≡ true) where
      pub standing_more : k < length d / 6 → (d' : List ℤ) → d' ≡ sets d (6 * k) (answer_reply t.answer).values → Standing s₀ d₀ d' t.state (k + 1)
      standing_more l d' w =
          let v = (answer_reply t.answer).values in
          let six : length v ≡ 6 = item_six t.answer h in
          let same : length d ≡ length d₀ = appending_length d₀ i.stored in
          let fits : length i.done + length v ≤ length d = omega (arith, i.many, six, l) in
          let w' : d' ≡ sets d (length i.done) v = w ∙ ap (λ (j : ℕ). sets d j v) (sym i.many) in
          let n = length d₀ / 6 - (k + 1) in
          let less : length d₀ / 6 - k ≡ suc n = omega (arith, l, same) in
          let sum : length (i.done ++ v) ≡ length i.done + length v = length-append i.done v in
          record {
            done = i.done ++ v;
            many = omega (arith, sum, six, i.many);
            stored = subst (λ (x : List ℤ). Appending (i.done ++ v) d₀ x) (sym w') (appending_more d₀ v i.stored fits);
            few = omega (arith, l, same);
            rest =
                i.rest
                ∙ ap (λ (m : ℕ). numbers_before i.done (items_by step m s)) less
                ∙ ap (numbers_before i.done) (from_suc s t e n ∙ item_then t.answer (items_by step n t.state) h)
                ∙ before_more i.done v (items_by step n t.state).number (items_by step n t.state).values;
          }

      -- no room for it
      pub standing_full : length d / 6 ≤ k → (x : Written) (d' : List ℤ) → Stops (Refused 15) k d x d' → Tells (items_by step (length d₀ / 6) s₀) d₀ x d'
      standing_full l x d' w =
          let same : length d ≡ length d₀ = appending_length d₀ i.stored in
          let zero_left : length d₀ / 6 - k ≡ 0 = omega (arith, l, same) in
          subst (λ (r : Reply). Tells r d₀ x d')
          (sym
          (i.rest ∙ ap (λ (m : ℕ). numbers_before i.done (items_by step m s)) zero_left
          ∙ ap (numbers_before i.done) (from_zero s t e ∙ item_then t.answer (reply_of 15 []) h)))
          (rw w.0 (tells_refused d₀ d' 14 (w.1 ∙ ap (λ (j : ℕ). replicate j (pos 0)) same)))

    -- the end, or a refusal
    stop-by : (a : Answer) → t.answer ≡ a → Small a → is_item a ≡ false → (x : Written) (d' : List ℤ) → Stops a k d x d' → d₀ ≡ replicate (length d₀) (pos 0) →
        Tells (items_by step (length d₀ / 6) s₀) d₀ x d'
    stop-by (Char c p) q m h x d' w z = no (sym h)
    stop-by (Ligature c p n a b) q m h x d' w z = no (sym h)
    stop-by (Kern v) q m h x d' w z = no (sym h)
    stop-by End q m h x d' w z =
        subst (λ (r : Reply). Tells r d₀ x d')
        (sym
        (i.rest ∙ ap (numbers_before i.done) (from_stops s t e (length d₀ / 6 - k) End (reply_of 0 []) q (λ r. refl))
        ∙ ap (reply_of 0) (append-nil i.done)))
        (rw (w.0, w.1) (tells_count d₀ d i.done k i.many i.stored z))
    stop-by (Refused zero) q m h x d' w z = absurd (omega (arith, m))
    stop-by (Refused (suc n)) q m h x d' w z =
        subst (λ (r : Reply). Tells r d₀ x d')
        (sym (i.rest ∙ ap (numbers_before i.done) (from_stops s t e (length d₀ / 6 - k) (Refused (suc n)) (reply_of (suc n) []) q (λ r. refl))))
        (rw w.0 (tells_refused d₀ d' n (w.1 ∙ ap (λ (j : ℕ). replicate j (pos 0)) (appending_length d₀ i.stored))))

    pub standing_stop : Small t.answer → is_item t.answer ≡ false → (x : Written) (d' : List ℤ) → Stops t.answer k d x d' →
        d₀ ≡ replicate (length d₀) (pos 0) → Tells (items_by step (length d₀ / 6) s₀) d₀ x d'
    standing_stop m h x d' w z = stop-by t.answer refl m h x d' w z

  -- items in a list that was zeroed, from a state that is this one
  pub tells_zeroed : (d₀ d : List ℤ) (s t : State) → s ≡ t → length d ≡ length d₀ → (x : Written) (d' : List ℤ) → Tells (items_by step (length d / 6) s) d x d' →
      Tells (items_by step (length d₀ / 6) t) d₀ x d'
  tells_zeroed d₀ d s t e l = tells_same (items_by step (length d / 6) s) (items_by step (length d₀ / 6) t) (λ j. items_by step (l j / 6) (e j)) d d₀ l

-- ---- from begin on

begun_run : (m : ℕ) (f s : State) → begun.Run s ≡ begun_by m f → (m ≡ 0) × (f ≡ s)
begun_run zero f s e = let q : f ≡ s = cc in (refl, q)
begun_run (suc m) f s e = absurd (let z : ◌≡◌ {A = ℕ} 0 1 = cc in omega arith)

begun_refused : (m n : ℕ) (f : State) → begun.Refused n ≡ begun_by m f → (m ≡ n) × (n ≡ 0 → ⊥)
begun_refused zero n f e = absurd (let z : ◌≡◌ {A = ℕ} 0 1 = cc in omega arith)
begun_refused (suc m) n f e = let q : suc m ≡ n = cc in (q, λ z. omega (arith, q, z))

refusal_is : (m n : ℕ) (r : Reply) → m ≡ n → (n ≡ 0 → ⊥) → (after_begin m r).number ≡ n
refusal_is zero n r e h = absurd (h (sym e))
refusal_is (suc m) n r e h = e

module _ (step : State → Step) (pairs ops : List ℤ) (boundary : ℤ) (word : List ℕ) (options : RunOptions) where
  -- begin's numbers, and then the items
  abbrev reply_by : ℕ → Reply
  reply_by room = after_begin (begin_refusal pairs ops boundary word options) (items_by step (room / 6) (fresh_state word options))

  -- a run that begins
  pub run_items_lem : (s : State) → begun.Run s ≡ begin_of pairs ops boundary word options → (room : ℕ) → reply_by room ≡ items_by step (room / 6) s
  run_items_lem s e room =
      let m = begun_run (begin_refusal pairs ops boundary word options) (fresh_state word options) s e in
      λ j. after_begin (m.0 j) (items_by step (room / 6) (m.1 j))

  pub tells_run : (d₀ d : List ℤ) (s : State) → begun.Run s ≡ begin_of pairs ops boundary word options → length d ≡ length d₀ → (x : Written) (d' : List ℤ) →
      Tells (items_by step (length d / 6) s) d x d' → Tells (reply_by (length d₀)) d₀ x d'
  tells_run d₀ d s e l =
      tells_same (items_by step (length d / 6) s) (reply_by (length d₀)) (ap (λ (n : ℕ). items_by step (n / 6) s) l ∙ sym (run_items_lem s e (length d₀))) d d₀ l

  -- a begin that is refused
  pub tells_no_run : (d₀ d : List ℤ) (n : ℕ) → begun.Refused n ≡ begin_of pairs ops boundary word options → d ≡ replicate (length d₀) (pos 0) →
      Tells (reply_by (length d₀)) d₀ (written.Refused n) d
  tells_no_run d₀ d n e z =
      let m = begun_refused (begin_refusal pairs ops boundary word options) n (fresh_state word options) e in
      let r = reply_by (length d₀) in
      let q : n ≡ r.number =
      sym (refusal_is (begin_refusal pairs ops boundary word options) n (items_by step (length d₀ / 6) (fresh_state word options)) m.0 m.1) in
      record { answer = refused_answer (length r.values / 6) q m.1; list = refused_list (pos 0) (length d₀) r.values q m.1 z }
