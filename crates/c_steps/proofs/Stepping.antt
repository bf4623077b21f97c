-- One step of a run whose state stands in a list: refused by the step, refused by 15, or taken. And an item's numbers, as they are stored.
-- Assumes nothing.
use mathlib.Core.Path.{◌≡◌, refl, sym, ap, subst, ◌∙◌}
use mathlib.Core.Bool.{Bool, true, false, cond}
use mathlib.Core.List.{List, ◌∷◌, ◌++◌}
use mathlib.Core.Option.{Option, none, some}
use Prim.Native.Nat.{ℕ, zero, suc, ◌+◌, ◌≤◌, ◌<◌}
use native.Mathlib.Omega.{arith}
use lib.IntN.{ℤ, pos}
use lib.Dec.{leb}
use lib.ListN.{length, set, drop, replicate, length-set}
use lib.Seq.{sets}
use borrow.Author.Tests.{leb-true, lt-leb}
use Rattle.lang.specs.Checks.{or_else, lower}
use Rattle.lang.specs.Answers.{room_refusal, list_of}
use Rattle.lang.proofs.Refusals.{room_is, or_else_none, unless_none, lower_some}
use Rattle.lang.proofs.Filled.{refused_list}
use Rattle.captions.specs.declared.RunOptions.{RunOptions}
use Rattle.captions.specs.declared.State.{State}
use Rattle.captions.specs.declared.Answer.{Answer}
use Rattle.captions.specs.declared.Answer.TheVariants.{Char, Ligature, Kern, End, Refused}
use Rattle.captions.specs.declared.Step.{Step}
use Rattle.captions.specs.Replies.{answer_reply}
use Rattle.captions.specs.Begin.{edges_refusal, word_refusal}
use Rattle.captions.specs.Steps.{refused, ran_from, right_item, step_refusal, hand_back, stepped_by, step_of}
use Rattle.word_items.specs.ItemLists.{is_item, Small, item_at}
use Rattle.word_items.proofs.Laws.{no, item_there}
use Rattle.word_set.proofs.Bounds.{step_small}
use Rattle.c_states.specs.States.{numbers_of, is_state, state_at, state_read, outside, or_outside, moved_to, PutsState}
use Rattle.c_steps.specs.Step.{step_run_from, step_in, given_number, item_numbers, told_item, StepsBy}
use Rattle.c_states.proofs.Writing.{zeroed_length, written_front_lem, with_room, without_room}
use Rattle.c_states.proofs.ReadBack.{read_back, state_long}

-- ---- an item's numbers

item_told : (a : Answer) → is_item a ≡ true → item_numbers a ≡ pos 1 ∷ (answer_reply a).values
item_told (Char c p) h = refl
item_told (Ligature c p n a b) h = refl
item_told (Kern k) h = refl
item_told End h = no h
item_told (Refused n) h = no h

-- stored after a 1, where there is room for both
pub stored_told : (d d₁ d₂ : List ℤ) (a : Answer) → is_item a ≡ true → 7 ≤ length d → d₁ ≡ set d 0 (pos 1) →
    (1 + 6 ≤ length d₁ → d₂ ≡ sets d₁ 1 (answer_reply a).values) → d₂ ≡ sets d 0 (item_numbers a)
stored_told d d₁ d₂ a h r e f =
    let l : length d₁ ≡ length d = ap length e ∙ length-set d 0 (pos 1) in
    f (omega (arith, l, r)) ∙ ap (λ (t : List ℤ). sets t 1 (answer_reply a).values) e ∙ ap (sets d 0) (sym (item_told a h))

-- nothing is stored of what is no item
pub none_told : (d : List ℤ) (a : Answer) → is_item a ≡ false → d ≡ sets d 0 (item_numbers a)
none_told d (Char c p) h = no (sym h)
none_told d (Ligature c p n a b) h = no (sym h)
none_told d (Kern k) h = no (sym h)
none_told d End h = refl
none_told d (Refused n) h = refl

told_by : (d : List ℤ) (a : Answer) → Small a → 7 ≤ length d → (b : Bool) → is_item a ≡ b →
    cond b (item_at (set d 0 (pos 1)) 1 a) d ≡ sets d 0 (item_numbers a)
told_by d a s r true h =
    stored_told d (set d 0 (pos 1)) (item_at (set d 0 (pos 1)) 1 a) a h r refl
    (λ q. item_there (set d 0 (pos 1)) (item_at (set d 0 (pos 1)) 1 a) 1 a q s refl)
told_by d a s r false h = none_told d a h

-- both
pub told_sets : (d d' : List ℤ) (a : Answer) → Small a → 7 ≤ length d → d' ≡ told_item d a → d' ≡ sets d 0 (item_numbers a)
told_sets d d' a s r e = e ∙ told_by d a s r (is_item a) refl

item_few : (a : Answer) → length (item_numbers a) ≤ 7
item_few (Char c p) = omega arith
item_few (Ligature c p n a b) = omega arith
item_few (Kern k) = omega arith
item_few End = omega arith
item_few (Refused n) = omega arith

-- ---- a step that was taken, by whatever it gives

module _ (state : List ℕ) (item zeros : List ℤ) (blank : zeros ≡ replicate (length item) (pos 0)) (given t : Step) (e : t ≡ given) where
  abbrev number : ℕ
  number = given_number given (length item)

  known : (n : ℕ) → n ≡ (answer_reply t.answer).number → n ≡ (answer_reply given.answer).number
  known n q = q ∙ ap (λ (u : Step). (answer_reply u.answer).number) e

  none_taken : {A : Type 0} {n : ℕ} → (n ≡ 0 → ⊥) → n ≡ 0 → A
  none_taken h z = absurd (h z)

  stays : (n : ℕ) (s : State) → (n ≡ 0 → ⊥) → state ≡ moved_to n state s
  stays zero s h = absurd (h refl)
  stays (suc n) s h = refl

  left : (n : ℕ) → n ≡ number → (n ≡ 0 → ⊥) → StepsBy given state item n state zeros
  left n k h =
      record {
        number = k;
        moved = stays number given.state (λ z. h (k ∙ z));
        told = refused_list (pos 0) (length item) (item_numbers given.answer) k h blank;
        again = none_taken h;
      }

  pub steps_refused : (n : ℕ) → n ≡ (answer_reply t.answer).number → (n ≡ 0 → ⊥) → (r : ℕ) → r ≡ lower n (room_refusal 7 (length zeros)) →
      StepsBy given state item r state zeros
  steps_refused n q h r g =
      let l : length zeros ≡ length item = zeroed_length (pos 0) (length item) blank in
      left r (g ∙ (λ i. lower (known n q i) (room_refusal 7 (l i)))) (λ z. omega (arith, lower_some n (room_refusal 7 (length zeros)) h, sym g ∙ z))

  module _ (n : ℕ) (q : n ≡ (answer_reply t.answer).number) (z : n ≡ 0) where
    pub steps_short : length zeros < 7 → StepsBy given state item 15 state zeros
    steps_short h =
        let l : length zeros ≡ length item = zeroed_length (pos 0) (length item) blank in
        left 15 (sym (without_room 7 (length item) (sym (known n q) ∙ z) (omega (arith, l, h)))) (λ o. omega (arith, o))

    pub steps_taken : ((answer_reply given.answer).number ≡ 0 → 9 ≤ length state) → 7 ≤ length zeros → (item' : List ℤ) →
        item' ≡ sets zeros 0 (item_numbers t.answer) → (r : ℕ) (state' : List ℕ) → PutsState t.state state r state' →
        StepsBy given state item r state' item'
    steps_taken long h item' i r state' p =
        let l : length zeros ≡ length item = zeroed_length (pos 0) (length item) blank in
        let k : number ≡ 0 = with_room 7 (length item) (sym (known n q) ∙ z) (omega (arith, l, h)) in
        let y : room_refusal 9 (length state) ≡ 0 = room_is 9 (length state) (long (sym (known n q) ∙ z)) in
        let w : state' ≡ numbers_of t.state ++ drop 9 state = p.stored ∙ ap (λ (m : ℕ). moved_to m state t.state) y in
        let f : item' ≡ list_of number (pos 0) (length item) (item_numbers t.answer) = written_front_lem (pos 0) (length item) (item_numbers t.answer) k blank
        (omega (arith, l, h, item_few t.answer)) i in
        record {
          number = p.number ∙ y ∙ sym k;
          moved = rw k (w ∙ ap (λ (u : Step). numbers_of u.state ++ drop 9 state) e);
          told = f ∙ ap (λ (u : Step). list_of number (pos 0) (length item) (item_numbers u.answer)) e;
          again = λ o. ap state_read w ∙ read_back t.state (drop 9 state) (p.code o) ∙ ap (λ (u : Step). some u.state) e;
        }

module _ (pairs ops : List ℤ) (boundary : ℤ) (word : List ℕ) (options : RunOptions) where
  -- ---- numbers that are no state: a step from outside every word

  abbrev ran : Step
  ran = ran_from pairs ops (right_item boundary options.right_boundary_override) word outside

  short : step_refusal boundary word options ≡ 0 → length word ≤ 65535
  short z = leb-true (length word) 65535 (unless_none 5 (leb (length word) 65535) (or_else_none (edges_refusal boundary options) (word_refusal word) z).1)

  ran_refused : length word ≤ 65535 → ran ≡ refused 7 outside
  ran_refused h = let e : leb 18446744073709551615 (length word) ≡ false = lt-leb 18446744073709551615 (length word) (omega (arith, h)) in rw e

  outside_by : (m : ℕ) → step_refusal boundary word options ≡ m → stepped_by m outside ran ≡ refused (or_else m 7) outside
  outside_by zero e = ap (λ (t : Step). hand_back outside t.state t.answer) (ran_refused (short e))
  outside_by (suc m) e = refl

  pub from_is : (o : Option State) → step_of pairs ops boundary word options (or_outside o) ≡ step_run_from pairs ops boundary word options o
  from_is none = outside_by (step_refusal boundary word options) refl
  from_is (some s) = refl

  later_some : (m n : ℕ) → or_else m (suc n) ≡ 0 → ⊥
  later_some zero n e = omega arith
  later_some (suc m) n e = omega arith

  taken_by : (state : List ℕ) (b : Bool) → is_state state ≡ b →
      (answer_reply (step_run_from pairs ops boundary word options (cond b (some (state_at state)) none)).answer).number ≡ 0 → 9 ≤ length state
  taken_by state true e h = state_long state e
  taken_by state false e h = absurd (later_some (step_refusal boundary word options) 6 h)

  -- what is taken has room for a state, and its answer is small
  pub given_long : (state : List ℕ) → (answer_reply (step_in pairs ops boundary word options state).answer).number ≡ 0 → 9 ≤ length state
  given_long state = taken_by state (is_state state) refl

  pub given_small : (state : List ℕ) (t : Step) → t ≡ step_in pairs ops boundary word options state → Small t.answer
  given_small state t e =
      subst (λ (u : Step). Small u.answer) (from_is (state_read state) ∙ sym e)
      (step_small pairs ops boundary word options (or_outside (state_read state)))
