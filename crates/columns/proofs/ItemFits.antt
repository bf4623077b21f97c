-- The numbers of a word that is set are i32, six an item, where the ops are: what a step answers is small, and its kern is that of an op.
-- Assumes nothing.
use mathlib.Core.Path.{◌≡◌, refl}
use mathlib.Core.Bool.{Bool, true, false, cond}
use mathlib.Core.List.{List, [], ◌++◌}
use mathlib.Core.Option.{Option, none, some}
use Prim.Native.Nat.{ℕ, zero, suc, ◌+◌, ◌-◌, ◌*◌, ◌/◌, ◌%◌}
use native.Mathlib.Omega.{arith}
use lib.IntN.{ℤ}
use lib.Dec.{ltb, leb, eqb}
use lib.ListN.{length, get_or, length-append}
use borrow.Author.Tests.{le-leb}
use Rattle.words.specs.Words.{word_of}
use Rattle.lang.specs.Checks.{is_letter}
use Rattle.lang.specs.Answers.{Reply, reply_of}
use Rattle.reading.specs.Items.{plain}
use Rattle.captions.specs.declared.RunOptions.{RunOptions}
use Rattle.captions.specs.declared.NextLeft.{NextLeft}
use Rattle.captions.specs.declared.NextLeft.TheVariants as next
use Rattle.captions.specs.declared.State.{State}
use Rattle.captions.specs.declared.Answer.{Answer}
use Rattle.captions.specs.declared.Answer.TheVariants.{Char, Ligature, Kern, End, Refused}
use Rattle.captions.specs.declared.Step.{Step}
use Rattle.captions.specs.declared.Turned.{Turned}
use Rattle.captions.specs.declared.Turned.TheVariants.{Gives, Goes}
use Rattle.captions.specs.Tables.{op_kind, op_value}
use Rattle.captions.specs.Replies.{bit_number, answer_reply}
use Rattle.captions.specs.Begin.{begin_refusal, fresh_state}
use Rattle.captions.specs.Steps.{refused, taken, give_character, give_ligature, after_op, ends_word, ops_fit, read_op, gathered, left_place_of, after_right, read_on}
use Rattle.captions.specs.Steps.{with_next, give_left, entry_reads, find_within, turn_by, turn_at_end, turn, goes_on, with_nothing_next, by_next, step_by, run_on, placed}
use Rattle.captions.specs.Steps.{right_item_fits, right_item, ran_from, step_refusal, hand_back, stepped_by, step_of}
use Rattle.word_set.specs.Setting.{and_then, items_by, items_from, after_begin, set_reply}
use Rattle.word_items.specs.ItemLists.{Small}
use Rattle.word_set.proofs.Bounds.{step_small}
use Rattle.columns.specs.Purpose.{is_i32, all_i32}
use Rattle.columns.proofs.Fitting.{Fits, all_both}

-- ---- a kern is that of an op

abbrev kern_fits : Answer → Bool
kern_fits (Char c p) = true
kern_fits (Ligature c p n a b) = true
kern_fits (Kern k) = is_i32 k
kern_fits End = true
kern_fits (Refused n) = true

record StepFits (t : Step) : Type 0 where
  step : kern_fits t.answer ≡ true

either : (b : Bool) {t u : Step} → StepFits t → StepFits u → StepFits (cond b t u)
either true p q = p
either false p q = q

abbrev turn_fits : Turned → Bool
turn_fits (Gives t) = kern_fits t.answer
turn_fits (Goes s) = true

record TurnFits (x : Turned) : Type 0 where
  turn : turn_fits x ≡ true

either_turn : (b : Bool) {x y : Turned} → TurnFits x → TurnFits y → TurnFits (cond b x y)
either_turn true p q = p
either_turn false p q = q

gives : {t : Step} → StepFits t → TurnFits (Gives t)
gives h = record { turn = h.step }

character_fits : (c : ℕ) (s : State) → StepFits (give_character c s)
character_fits c s =
    either (eqb s.pending 0) (either (leb (s.given + 1) s.read) (record { step = refl }) (record { step = refl }))
    (either (leb (s.given + s.pending) s.read) (record { step = refl }) (record { step = refl }))

ligature_fits : (c : ℕ) (right : Bool) (s : State) → StepFits (give_ligature c right s)
ligature_fits c right s = either (leb (s.given + taken s) s.read) (record { step = refl }) (record { step = refl })

left_fits : (x : NextLeft) (s : State) → TurnFits (give_left x s)
left_fits next.Boundary s = record { turn = refl }
left_fits (next.Char c) s = gives (character_fits c s)
left_fits (next.Lig c) s = gives (character_fits c s)
left_fits (next.FinalLig c) s = record { turn = refl }
left_fits next.None s = record { turn = refl }

module _ (pairs ops : List ℤ) (fits : Fits ops) where
  op_fits : (s : State) → StepFits (read_op ops s)
  op_fits s =
      let v = op_value ops s.op in
      let k = word_of (op_kind ops s.op) in
      either (ops_fit ops s)
      (either (eqb k 0) (character_fits (word_of v) (after_op s))
      (either (eqb k 1) (ligature_fits (word_of v) (ends_word ops (after_op s)) (after_op s)) (record { step = fits (2 * s.op + 1) })))
      (record { step = refl })

  with_fits : (x : NextLeft) (letter : Bool) (y : ℕ) (s : State) (k : Option ℕ) → TurnFits (turn_by pairs ops x letter y s k)
  with_fits x letter y s none = left_fits x (with_next (after_right letter (plain y)) (read_on letter s.read) s)
  with_fits x letter y s (some k) = either_turn (entry_reads pairs ops x k) (record { turn = refl }) (record { turn = refl })

  end_fits : (q : Option ℕ) (x : NextLeft) (s : State) → TurnFits (turn_at_end pairs ops q x s)
  end_fits q next.Boundary s = record { turn = refl }
  end_fits none (next.Char c) s = left_fits (next.Char c) (with_next next.None s.read s)
  end_fits (some y) (next.Char c) s = with_fits (next.Char c) false y s (find_within pairs (suc c) y)
  end_fits none (next.Lig c) s = left_fits (next.Lig c) (with_next next.None s.read s)
  end_fits (some y) (next.Lig c) s = with_fits (next.Lig c) false y s (find_within pairs (suc c) y)
  end_fits q (next.FinalLig c) s = record { turn = refl }
  end_fits q next.None s = record { turn = refl }

  -- a turn, and all turns
  module _ (q : Option ℕ) (word : List ℕ) where
    turn-fits : (x : NextLeft) (s : State) → TurnFits (turn pairs ops q word x s)
    turn-fits x s =
        let g = gathered x s in
        let y = get_or word s.read 0 in
        either_turn (ltb s.read (length word))
        (either_turn (is_letter y) (with_fits x true y g (find_within pairs (left_place_of x) y)) (record { turn = refl }))
        (end_fits q x g)

    goes-fit : (go : State → Step) → ((s : State) → StepFits (go s)) → (x : Turned) → TurnFits x → StepFits (goes_on go x)
    goes-fit go h (Gives t) g = record { step = g.turn }
    goes-fit go h (Goes s) g = h s

    next_fits : (go : State → Step) → ((s : State) → StepFits (go s)) → (s : State) (x : NextLeft) → StepFits (by_next (turn pairs ops q word) go s x)
    next_fits go h s next.Boundary = goes-fit go h (turn pairs ops q word next.Boundary s) (turn-fits next.Boundary s)
    next_fits go h s (next.Char c) = goes-fit go h (turn pairs ops q word (next.Char c) s) (turn-fits (next.Char c) s)
    next_fits go h s (next.Lig c) = goes-fit go h (turn pairs ops q word (next.Lig c) s) (turn-fits (next.Lig c) s)
    next_fits go h s (next.FinalLig c) = ligature_fits c true (with_nothing_next s)
    next_fits go h s next.None = record { step = refl }

    by_fits : (go : State → Step) → ((s : State) → StepFits (go s)) → (s : State) → StepFits (step_by ops (turn pairs ops q word) go s)
    by_fits go h s = either (eqb s.ops 0) (next_fits go h s s.next_left) (op_fits s)

    run_fits : (n : ℕ) (s : State) → StepFits (run_on ops (turn pairs ops q word) n s)
    unfolding run_on
    run_fits zero s = by_fits (refused 7) (λ t. record { step = refl }) s
    run_fits (suc n) s = by_fits (run_on ops (turn pairs ops q word) n) (run_fits n) s

    ran_fits : (s : State) → StepFits (ran_from pairs ops q word s)
    ran_fits s =
        either (placed ops word s) (either (right_item_fits q) (run_fits (suc (length word - s.read)) s) (record { step = refl })) (record { step = refl })

  handed_fits : (s t : State) (a : Answer) → kern_fits a ≡ true → kern_fits (hand_back s t a).answer ≡ true
  handed_fits s t (Char c p) e = e
  handed_fits s t (Ligature c p n a b) e = e
  handed_fits s t (Kern k) e = e
  handed_fits s t End e = e
  handed_fits s t (Refused n) e = e

  stepped_fits : (n : ℕ) (s : State) (t : Step) → StepFits t → kern_fits (stepped_by n s t).answer ≡ true
  stepped_fits zero s t h = handed_fits s t.state t.answer h.step
  stepped_fits (suc n) s t h = refl

  module _ (boundary : ℤ) (word : List ℕ) (options : RunOptions) where
    step_fits : (s : State) → kern_fits (step_of pairs ops boundary word options s).answer ≡ true
    step_fits s =
        let q = right_item boundary options.right_boundary_override in
        stepped_fits (step_refusal boundary word options) s (ran_from pairs ops q word s) (ran_fits q word s)

-- ---- the items

-- numbers in sixes, all i32
pub record Sixes (zs : List ℤ) : Type 0 where
  pub whole : length zs % 6 ≡ 0
  pub fits : all_i32 zs ≡ true

no_sixes : Sixes []
unfolding all_i32
no_sixes = record { whole = refl; fits = refl }

bit_fits : (b : Bool) → is_i32 (bit_number b) ≡ true
bit_fits true = refl
bit_fits false = refl

-- an item's numbers before those of the others, by the number of these
before_sixes : (n : ℕ) (ys zs : List ℤ) → length ys ≡ 6 → all_i32 ys ≡ true → Sixes zs → Sixes (reply_of n (ys ++ zs)).values
before_sixes zero ys zs l e h = record { whole = omega (arith, length-append ys zs, l, h.whole); fits = all_both ys zs e h.fits }
before_sixes (suc n) ys zs l e h = no_sixes

then_sixes : (a : Answer) (r : Reply) → Small a → kern_fits a ≡ true → Sixes r.values → Sixes (and_then a r).values
unfolding all_i32
then_sixes (Char c p) r m k h =
    before_sixes r.number (answer_reply (Char c p)).values r.values refl
    (rw (le-leb c 2147483647 (omega (arith, m.0)), le-leb p 2147483647 (omega (arith, m.1)))) h
then_sixes (Ligature c p n a b) r m k h =
    before_sixes r.number (answer_reply (Ligature c p n a b)).values r.values refl
    (rw (
      le-leb c 2147483647 (omega (arith, m.0)),
      le-leb p 2147483647 (omega (arith, m.1)),
      le-leb n 2147483647 (omega (arith, m.2)),
      bit_fits a,
      bit_fits b,
    )) h
then_sixes (Kern v) r m k h = before_sixes r.number (answer_reply (Kern v)).values r.values refl (rw k) h
then_sixes End r m k h = no_sixes
then_sixes (Refused n) r m k h = no_sixes

module _ (pairs ops : List ℤ) (fits : Fits ops) (boundary : ℤ) (word : List ℕ) (options : RunOptions) where
  from_sixes : (n : ℕ) (s : State) → Sixes (items_from pairs ops boundary word options n s).values
  unfolding items_by
  from_sixes zero s =
      then_sixes (step_of pairs ops boundary word options s).answer (reply_of 15 []) (step_small pairs ops boundary word options s)
      (step_fits pairs ops fits boundary word options s) no_sixes
  from_sixes (suc n) s =
      let t = step_of pairs ops boundary word options s in
      then_sixes t.answer (items_from pairs ops boundary word options n t.state) (step_small pairs ops boundary word options s)
      (step_fits pairs ops fits boundary word options s) (from_sixes n t.state)

  begun_sixes : (n : ℕ) (r : Reply) → Sixes r.values → Sixes (after_begin n r).values
  begun_sixes zero r h = h
  begun_sixes (suc n) r h = no_sixes

  -- what is set
  pub set_sixes : (room : ℕ) → Sixes (set_reply pairs ops boundary word options room).values
  set_sixes room =
      begun_sixes (begin_refusal pairs ops boundary word options) (items_from pairs ops boundary word options (room / 6) (fresh_state word options))
      (from_sixes (room / 6) (fresh_state word options))
