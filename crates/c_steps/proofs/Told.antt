-- A quick step, or a last kern, whose item has exactly its seven places: what is told into them is what would be told over zeros.
-- Assumes nothing.
use mathlib.Core.Path.{◌≡◌, refl, sym, ap, ap₂, ◌∙◌}
use mathlib.Core.Bool.{Bool, true, false, cond}
use mathlib.Core.List.{List, ◌++◌}
use Prim.Native.Nat.{ℕ, suc, ◌≤◌}
use native.Mathlib.Omega.{arith}
use lib.IntN.{ℤ, pos}
use lib.Dec.{ltb, eqb}
use lib.ListN.{length, replicate, length-replicate, drop_of_length-le}
use lib.Seq.{sets}
use borrow.Author.Tests.{lt-ltb, eqb-true}
use Rattle.words.specs.Words.{word_of}
use Rattle.words.proofs.Lists.{sets_front}
use Rattle.lang.specs.Every.{both}
use Rattle.lang.proofs.Every.{both_left, both_right}
use Rattle.captions.specs.declared.RunOptions.{RunOptions}
use Rattle.captions.specs.declared.State.{State}
use Rattle.captions.specs.declared.Answer.{Answer}
use Rattle.captions.specs.declared.Answer.TheVariants.{Char, Ligature, Kern, End, Refused}
use Rattle.captions.specs.declared.Step.{Step}
use Rattle.captions.specs.Replies.{answer_reply}
use Rattle.captions.specs.Tables.{pair_count, op_count, op_kind, op_value}
use Rattle.captions.specs.Steps.{refused, after_op, step_of}
use Rattle.step_quick.specs.Quick.{plain_code, next_letter, has_letter, is_plain, is_quick, quick_left, is_kern, found_place, is_ready}
use Rattle.step_quick.specs.Quick.{given_plain, given_first, quick_step, given_kern}
use Rattle.step_quick.proofs.Theorems.{calm_is, placed_among, left_quick, quick_is, quick_steps, quick_kerns}
use Rattle.word_items.specs.ItemLists.{is_item, Small}
use Rattle.word_items.proofs.Laws.{no}
use Rattle.c_states.specs.States.{state_read, or_outside, PutsState}
use Rattle.c_steps.specs.Step.{step_in, item_numbers, is_char_item, StepsBy, StepsRun}
use Rattle.c_steps.proofs.Stepping.{from_is, given_long, given_small, steps_taken}

-- ---- an item

item_number : (a : Answer) → is_item a ≡ true → (answer_reply a).number ≡ 0
item_number (Char c p) h = refl
item_number (Ligature c p n a b) h = refl
item_number (Kern k) h = refl
item_number End h = no h
item_number (Refused n) h = no h

item_seven : (a : Answer) → is_item a ≡ true → length (item_numbers a) ≡ 7
item_seven (Char c p) h = refl
item_seven (Ligature c p n a b) h = refl
item_seven (Kern k) h = refl
item_seven End h = no h
item_seven (Refused n) h = no h

char_item : (a : Answer) → is_char_item a ≡ true → is_item a ≡ true
char_item (Char c p) h = refl
char_item (Ligature c p n a b) h = refl
char_item (Kern k) h = refl
char_item End h = no h
char_item (Refused n) h = no h

-- what was there does not matter where all of it is written
all_set : (xs l m : List ℤ) → length l ≡ length xs → length m ≡ length xs → sets l 0 xs ≡ sets m 0 xs
all_set xs l m p q =
    sets_front xs l (omega (arith, p))
    ∙ ap (λ (t : List ℤ). xs ++ t) (drop_of_length-le l {i = length xs} (omega (arith, p)) ∙ sym (drop_of_length-le m {i = length xs} (omega (arith, q))))
    ∙ sym (sets_front xs m (omega (arith, q)))

-- told into seven places, and the state moved on: by whatever step gives the item
pub told_at_once : (state : List ℕ) (item : List ℤ) (given t : Step) → t ≡ given → is_item t.answer ≡ true →
    ((answer_reply given.answer).number ≡ 0 → 9 ≤ length state) → length item ≡ 7 → (item' : List ℤ) → item' ≡ sets item 0 (item_numbers t.answer) →
    (r : ℕ) (state' : List ℕ) → PutsState t.state state r state' → StepsBy given state item r state' item'
told_at_once state item given t e i long h item' told r state' put =
    let zeros = replicate (length item) (pos 0) in
    let s = item_seven t.answer i in
    let z : length zeros ≡ length item = length-replicate (length item) (pos 0) in
    steps_taken state item zeros refl given t e (answer_reply t.answer).number refl (item_number t.answer i) long (omega (arith, z, h)) item'
    (told ∙ all_set (item_numbers t.answer) item zeros (omega (arith, h, s)) (omega (arith, z, h, s))) r state' put

-- ---- a last kern

module _ (ops : List ℤ) (boundary : ℤ) (word : List ℕ) (options : RunOptions) (from : State) {b : Bool} (is : b ≡ is_kern ops boundary word options from)
    (yes : b ≡ true) {t : Step} (given : t ≡ given_kern ops from) where
  inside : ltb from.op (op_count ops) ≡ true
  inside =
      let h = sym is ∙ yes in
      let one : from.ops ≡ 1 = eqb-true from.ops 1 (both_left (eqb from.ops 1) _ h) in
      let plain = both_left (is_plain ops boundary word options from) (eqb (word_of (op_kind ops from.op)) 2)
      (both_right (eqb from.ops 1) (both (is_plain ops boundary word options from) (eqb (word_of (op_kind ops from.op)) 2)) h) in
      lt-ltb from.op (op_count ops) (omega (arith, one, placed_among ops boundary word options from (calm_is ops boundary word options from plain)))

  item_kern : (c : Bool) → c ≡ true →
      is_item (cond c (record { answer = Kern (op_value ops from.op); state = after_op from }) (refused 7 from)).answer ≡ true
  item_kern true e = refl
  item_kern false e = no e

  pub kern_item_lem : is_item t.answer ≡ true
  kern_item_lem = ap (λ (u : Step). is_item u.answer) given ∙ item_kern (ltb from.op (op_count ops)) inside

  pub kern_given : (pairs : List ℤ) (state : List ℕ) → from ≡ or_outside (state_read state) → t ≡ step_in pairs ops boundary word options state
  kern_given pairs state read =
      given ∙ sym (quick_kerns pairs ops boundary word options from (sym is ∙ yes)) ∙ ap (step_of pairs ops boundary word options) read
      ∙ from_is pairs ops boundary word options (state_read state)

-- ---- a quick step

module _ (pairs ops : List ℤ) (boundary : ℤ) (word : List ℕ) (options : RunOptions) (state : List ℕ) {from : State} (read : from ≡ or_outside (state_read state))
    {l y k : ℕ}
    (left : l ≡ quick_left ops boundary word options from) (some : l ≡ 0 → ⊥) (letter : y ≡ next_letter word from) (place : k ≡ found_place pairs l y)
    (ready : is_ready pairs ops k ≡ true) {t : Step} (given : t ≡ quick_step pairs ops word k from) where
  quick : (is_quick ops boundary word options from ≡ true) × (l ≡ suc (plain_code from.next_left))
  quick = left_quick ops boundary word options from l left some

  given_step : t ≡ step_in pairs ops boundary word options state
  given_step =
      given ∙ sym (quick_steps pairs ops boundary word options from k quick.0 (place ∙ ap₂ (found_place pairs) quick.1 letter) ready)
      ∙ ap (step_of pairs ops boundary word options) read ∙ from_is pairs ops boundary word options (state_read state)

  has_letter_lem : has_letter word from ≡ true
  has_letter_lem =
      let q = quick_is ops boundary word options from quick.0 in
      rw (lt-ltb from.read (length word) q.there, lt-ltb from.given from.read q.waits)

  by_place : (b : Bool) → is_char_item (cond b (given_first pairs ops k from) (given_plain word from)).answer ≡ true
  by_place true = refl
  by_place false = refl

  given_char : is_char_item t.answer ≡ true
  given_char =
      ap (λ (u : Step). is_char_item u.answer)
      (given ∙ ap (λ (b : Bool). cond b (cond (ltb k (pair_count pairs)) (given_first pairs ops k from) (given_plain word from)) (refused 7 from)) has_letter_lem)
      ∙ by_place (ltb k (pair_count pairs))

  module _ (item : List ℤ) where
    -- what tell_character asks
    pub told_asks : length item ≡ 7 → Small t.answer × (7 ≤ length item) × (is_char_item t.answer ≡ true)
    told_asks h = (given_small pairs ops boundary word options state t given_step, omega (arith, h), given_char)

    pub steps_told : length item ≡ 7 → (item' : List ℤ) → item' ≡ sets item 0 (item_numbers t.answer) → (r : ℕ) (state' : List ℕ) →
        PutsState t.state state r state' → StepsRun pairs ops boundary word options state item r state' item'
    steps_told =
        told_at_once state item (step_in pairs ops boundary word options state) t given_step (char_item t.answer given_char)
        (given_long pairs ops boundary word options state)
