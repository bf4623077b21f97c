-- The numbers that refuse the next word with its items. Not 6 or 20: the next word is short, its letters are letters, as the right item is, and there is no
-- override; so begin asks for the table alone, and a step is refused by 7 alone. Assumes nothing.
use mathlib.Core.Path.{◌≡◌, refl, sym, ap, ap₂, ◌∙◌}
use mathlib.Core.Bool.{Bool, true, false, cond}
use mathlib.Core.List.Memᴰ
use mathlib.Core.List.{List, [], ◌∷◌, ◌++◌, Memᴰ}
use mathlib.Core.Option.{Option, none, some}
use Prim.Native.Nat.{ℕ, zero, suc, ◌+◌, ◌-◌, ◌/◌, ◌<◌, ◌≤◌}
use native.Mathlib.Omega.{arith}
use lib.IntN.{ℤ, negsuc}
use lib.Dec.{leb, ltb, eqb}
use lib.ListN.{length, get_or}
use borrow.Author.Tests.{ltb-true, le-leb}
use Rattle.words.specs.Words.{word_of}
use Rattle.lang.specs.Every.{every}
use Rattle.lang.specs.Records.{absent_or}
use Rattle.lang.specs.Checks.{unless, or_else, absent_refusal, is_letter}
use Rattle.lang.specs.Answers.{Reply, reply_of}
use Rattle.lang.proofs.Every.{every_at}
use Rattle.lang.proofs.Refusals.{or_else_none, unless_none}
use Rattle.reading.specs.Items.{plain}
use Rattle.captions.specs.declared.NextLeft.{NextLeft}
use Rattle.captions.specs.declared.NextLeft.TheVariants as next
use Rattle.captions.specs.declared.State.{State}
use Rattle.captions.specs.declared.Answer.{Answer}
use Rattle.captions.specs.declared.Answer.TheVariants.{Char, Ligature, Kern, End, Refused}
use Rattle.captions.specs.declared.Step.{Step}
use Rattle.captions.specs.declared.Turned.{Turned}
use Rattle.captions.specs.declared.Turned.TheVariants.{Gives, Goes}
use Rattle.captions.specs.Replies.{answer_reply}
use Rattle.captions.specs.Tables.{op_kind, op_value}
use Rattle.captions.specs.Form.{table_form}
use Rattle.captions.specs.Begin.{edges_refusal, word_refusal, begin_refusal, fresh_state, plain_options}
use Rattle.captions.specs.Steps.{refused, taken, takes_boundary, give_item, give_character, give_ligature, after_op, ends_word, ops_fit, read_op, gathered}
use Rattle.captions.specs.Steps.{after_right, read_on, with_next, give_left, entry_reads, find_within, turn_by, turn_at_end, turn, goes_on, with_nothing_next, by_next}
use Rattle.captions.specs.Steps.{left_place_of, step_by, run_on, placed, right_item_fits, right_item, ran_from, step_refusal, hand_back, stepped_by, step_of}
use Rattle.captions.proofs.Running.{right_item_lem}
use Rattle.word_set.specs.Setting.{and_then, items_by, items_from, after_begin}
use Rattle.short_words.specs.ShortWords.{is_short_word}
use Rattle.short_words.specs.NextWords.{next_short_word, short_refusal}
use Rattle.short_word_items.specs.NextItems.{next_word_items}
use Rattle.short_word_set.specs.SetNext.{items_of_next}
use Rattle.short_word_settings.specs.Purpose.{SetNextNumbers}
use Rattle.short_word_settings.proofs.Theorems.{few, all_letters}

-- ---- 0, or one of the numbers

abbrev Told : ℕ → Type 0
Told n = Memᴰ n (0 ∷ 4 ∷ 7 ∷ 15 ∷ 27 ∷ [])

told_0 : Told 0
told_0 = Memᴰ.head refl

told_4 : Told 4
told_4 = Memᴰ.tail (Memᴰ.head refl)

told_7 : Told 7
told_7 = Memᴰ.tail (Memᴰ.tail (Memᴰ.head refl))

told_15 : Told 15
told_15 = Memᴰ.tail (Memᴰ.tail (Memᴰ.tail (Memᴰ.head refl)))

told_27 : Told 27
told_27 = Memᴰ.tail (Memᴰ.tail (Memᴰ.tail (Memᴰ.tail (Memᴰ.head refl))))

unless_told : {n : ℕ} (b : Bool) → Told n → Told (unless n b)
unless_told true h = told_0
unless_told false h = h

or_told : {m n : ℕ} → Told m → Told n → Told (or_else m n)
or_told {m = zero} h k = k
or_told {m = suc m} h k = h

-- ---- a step of a word of letters

-- its number, 0 where it is not refused
record StepTold (t : Step) : Type 0 where
  step : Told (answer_reply t.answer).number

data TurnTold : Turned → Type 0 where
  gives : {t : Step} → StepTold t → TurnTold (Gives t)
  goes : {s : State} → TurnTold (Goes s)

either : (b : Bool) {t u : Step} → StepTold t → (b ≡ false → StepTold u) → StepTold (cond b t u)
either true p q = p
either false p q = q refl

either_turn : (b : Bool) {x y : Turned} → (b ≡ true → TurnTold x) → (b ≡ false → TurnTold y) → TurnTold (cond b x y)
either_turn true p q = p refl
either_turn false p q = q refl

never : {A : Type 0} {b : Bool} → b ≡ true → b ≡ false → A
never {b = b} e n = absurd (let z : ◌≡◌ {A = Bool} true false = sym e ∙ n in let o : ◌≡◌ {A = ℕ} 0 1 = cc in omega arith)

item_told : (a : Answer) (n : ℕ) (s : State) → Told (answer_reply a).number → StepTold (give_item a n s)
item_told a n s h = either (leb (s.given + n) s.read) (record { step = h }) (λ _. record { step = told_7 })

character_told : (c : ℕ) (s : State) → StepTold (give_character c s)
character_told c s =
    either (eqb s.pending 0) (item_told (Char c s.given) 1 s told_0)
    (λ _. item_told (Ligature c s.given s.pending s.pending_boundary false) s.pending s told_0)

ligature_told : (c : ℕ) (right : Bool) (s : State) → StepTold (give_ligature c right s)
ligature_told c right s = item_told (Ligature c s.given (taken s) (takes_boundary s) right) (taken s) s told_0

op_told : (ops : List ℤ) (s : State) → StepTold (read_op ops s)
op_told ops s =
    let k = word_of (op_kind ops s.op) in
    let c = word_of (op_value ops s.op) in
    either (ops_fit ops s)
    (either (eqb k 0) (character_told c (after_op s))
    (λ _. either (eqb k 1) (ligature_told c (ends_word ops (after_op s)) (after_op s)) (λ _. record { step = told_0 })))
    (λ _. record { step = told_7 })

left_told : (x : NextLeft) (s : State) → TurnTold (give_left x s)
left_told next.Boundary s = goes
left_told (next.Char c) s = gives (character_told c s)
left_told (next.Lig c) s = gives (character_told c s)
left_told (next.FinalLig c) s = goes
left_told next.None s = goes

module _ (pairs ops : List ℤ) where
  with_told : (x : NextLeft) (letter : Bool) (y : ℕ) (s : State) (k : Option ℕ) → TurnTold (turn_by pairs ops x letter y s k)
  with_told x letter y s none = left_told x (with_next (after_right letter (plain y)) (read_on letter s.read) s)
  with_told x letter y s (some k) = either_turn (entry_reads pairs ops x k) (λ _. goes) (λ _. gives (record { step = told_7 }))

  end_told : (q : Option ℕ) (x : NextLeft) (s : State) → TurnTold (turn_at_end pairs ops q x s)
  end_told q next.Boundary s = gives (record { step = told_0 })
  end_told none (next.Char c) s = left_told (next.Char c) (with_next next.None s.read s)
  end_told (some y) (next.Char c) s = with_told (next.Char c) false y s (find_within pairs (suc c) y)
  end_told none (next.Lig c) s = left_told (next.Lig c) (with_next next.None s.read s)
  end_told (some y) (next.Lig c) s = with_told (next.Lig c) false y s (find_within pairs (suc c) y)
  end_told q (next.FinalLig c) s = gives (record { step = told_0 })
  end_told q next.None s = gives (record { step = told_0 })

  -- every letter that is read is one
  module _ (q : Option ℕ) (word : List ℕ) (all : (i : ℕ) → i < length word → is_letter (get_or word i 0) ≡ true) where
    turn_told : (x : NextLeft) (s : State) → TurnTold (turn pairs ops q word x s)
    turn_told x s =
        let y = get_or word s.read 0 in
        either_turn (ltb s.read (length word))
        (λ e. either_turn (is_letter y) (λ _. with_told x true y (gathered x s) (find_within pairs (left_place_of x) y))
        (λ n. never (all s.read (ltb-true s.read (length word) e)) n))
        (λ _. end_told q x (gathered x s))

    module _ (go : State → Step) (onward : (s : State) → StepTold (go s)) where
      goes-told : {x : Turned} → TurnTold x → StepTold (goes_on go x)
      goes-told (gives h) = h
      goes-told (goes {s = s}) = onward s

      next-told : (s : State) (x : NextLeft) → StepTold (by_next (turn pairs ops q word) go s x)
      next-told s next.Boundary = goes-told (turn_told next.Boundary s)
      next-told s (next.Char c) = goes-told (turn_told (next.Char c) s)
      next-told s (next.Lig c) = goes-told (turn_told (next.Lig c) s)
      next-told s (next.FinalLig c) = ligature_told c true (with_nothing_next s)
      next-told s next.None = record { step = told_0 }

      by-told : (s : State) → StepTold (step_by ops (turn pairs ops q word) go s)
      by-told s = either (eqb s.ops 0) (next-told s s.next_left) (λ _. op_told ops s)

    run-told : (n : ℕ) (s : State) → StepTold (run_on ops (turn pairs ops q word) n s)
    unfolding run_on
    run-told zero s = by-told (refused 7) (λ t. record { step = told_7 }) s
    run-told (suc n) s = by-told (run_on ops (turn pairs ops q word) n) (run-told n) s

    ran-told : right_item_fits q ≡ true → (s : State) → StepTold (ran_from pairs ops q word s)
    ran-told f s =
        either (placed ops word s) (either (right_item_fits q) (run-told (suc (length word - s.read)) s) (λ n. never f n)) (λ _. record { step = told_7 })

handed_told : (s t : State) (a : Answer) → Told (answer_reply a).number → Told (answer_reply (hand_back s t a).answer).number
handed_told s t (Char c p) h = h
handed_told s t (Ligature c p n a b) h = h
handed_told s t (Kern k) h = h
handed_told s t End h = h
handed_told s t (Refused n) h = h

stepped_told : (n : ℕ) (s : State) (t : Step) → n ≡ 0 → StepTold t → Told (answer_reply (stepped_by n s t).answer).number
stepped_told zero s t z h = handed_told s t.state t.answer h.step
stepped_told (suc n) s t z h = absurd (omega (arith, z))

-- ---- all items of a short word of letters, set plainly

before_told : (n : ℕ) (vs : List ℤ) → Told n → Told (reply_of n vs).number
before_told zero vs h = h
before_told (suc n) vs h = h

then_told : (a : Answer) (r : Reply) → Told (answer_reply a).number → Told r.number → Told (and_then a r).number
then_told (Char c p) r h k = before_told r.number ((answer_reply (Char c p)).values ++ r.values) k
then_told (Ligature c p n x y) r h k = before_told r.number ((answer_reply (Ligature c p n x y)).values ++ r.values) k
then_told (Kern v) r h k = before_told r.number ((answer_reply (Kern v)).values ++ r.values) k
then_told End r h k = told_0
then_told (Refused n) r h k = h

after_told : (n : ℕ) (r : Reply) → Told n → (n ≡ 0 → Told r.number) → Told (after_begin n r).number
after_told zero r h k = k refl
after_told (suc n) r h k = h

module _ (pairs ops : List ℤ) (boundary : ℤ) (word : List ℕ) (edge : absent_refusal 255 boundary ≡ 0) (short : length word ≤ 65535)
    (lettered : every (length word) (λ i. is_letter (get_or word i 0)) ≡ true) where
  edges : edges_refusal boundary plain_options ≡ 0
  edges = ap (λ (n : ℕ). or_else n 0) edge

  in_length : word_refusal word ≡ 0
  in_length = ap (unless 6) (le-leb (length word) 65535 short)

  step_told : (s : State) → Told (answer_reply (step_of pairs ops boundary word plain_options s).answer).number
  step_told s =
      let q = right_item boundary (negsuc 0) in
      stepped_told (step_refusal boundary word plain_options) s (ran_from pairs ops q word s) (ap₂ or_else edges in_length)
      (ran-told pairs ops q word (λ i l. every_at (length word) i (λ j. is_letter (get_or word j 0)) lettered l)
      (right_item_lem boundary (negsuc 0) (unless_none 3 (absent_or 255 boundary) edge) refl) s)

  items_told : (n : ℕ) (s : State) → Told (items_from pairs ops boundary word plain_options n s).number
  unfolding items_by
  items_told zero s = then_told (step_of pairs ops boundary word plain_options s).answer (reply_of 15 []) (step_told s) told_15
  items_told (suc n) s =
      let t = step_of pairs ops boundary word plain_options s in
      then_told t.answer (items_from pairs ops boundary word plain_options n t.state) (step_told s) (items_told n t.state)

  begin_told : Told (begin_refusal pairs ops boundary word plain_options)
  begin_told =
      or_told (Memᴰ.cast edges told_0)
      (or_told (Memᴰ.cast in_length told_0)
      (or_told (unless_told (table_form pairs ops) told_7) (or_told (Memᴰ.cast (ap (unless 20) lettered) told_0) told_0)))

  word_told : (first : Bool) (room : ℕ) → Told (next_word_items first pairs ops boundary word room).number
  word_told true room =
      after_told (begin_refusal pairs ops boundary word plain_options) (items_from pairs ops boundary word plain_options (room / 6) (fresh_state word plain_options))
      begin_told (λ _. items_told (room / 6) (fresh_state word plain_options))
  word_told false room = items_told (room / 6) (fresh_state word plain_options)

-- ---- the next word

pub set_next_numbers : SetNextNumbers
set_next_numbers letters pairs ops boundary word room =
    let first = eqb (length word) 0 in
    after_told (or_else (absent_refusal 255 boundary) (short_refusal letters word)) (items_of_next (next_short_word letters word) first pairs ops boundary room)
    (or_told (unless_told (absent_or 255 boundary) told_4) (unless_told (is_short_word letters word) told_27))
    (λ z. let n = or_else_none (absent_refusal 255 boundary) (short_refusal letters word) z in by first n.0 n.1 (next_short_word letters word) refl)
  where
    by : (first : Bool) → absent_refusal 255 boundary ≡ 0 → short_refusal letters word ≡ 0 → (o : Option (List ℕ)) → next_short_word letters word ≡ o →
        Told (items_of_next o first pairs ops boundary room).number
    by first edge taken none is = told_0
    by first edge taken (some next) is =
        word_told pairs ops boundary next edge (omega (arith, few letters word next taken is)) (all_letters letters word next taken is) first room
