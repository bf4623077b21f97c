-- A run over the rest of a word is a run over the word, with the letters before it counted as read and given: turn by turn, over any table.
-- Assumes nothing.
use mathlib.Core.Path.{◌≡◌, refl, sym, ap, ◌∙◌}
use mathlib.Core.Bool.{Bool, true, false, cond}
use mathlib.Core.List.{List}
use mathlib.Core.Logic.{◌⊎◌, inl, inr}
use mathlib.Core.Option.{Option, none, some, map}
use Prim.Native.Nat.{ℕ, zero, suc, ◌+◌, ◌-◌, ◌<◌, ◌≤◌}
use native.Mathlib.Omega.{arith}
use lib.IntN.{ℤ}
use lib.Dec.{ltb, leb, eqb}
use lib.ListN.{length, get_or, drop, length-drop}
use lib.Seq.{get_or-drop}
use borrow.Author.Tests.{le-leb, lt-leb, lt-ltb, le-ltb}
use Rattle.words.specs.Words.{word_of}
use Rattle.words.proofs.Tests.{less_or_not}
use Rattle.lang.specs.Every.{both}
use Rattle.lang.specs.Checks.{is_letter}
use Rattle.reading.specs.Items.{Item, plain}
use Rattle.captions.specs.declared.NextLeft.{NextLeft}
use Rattle.captions.specs.declared.NextLeft.TheVariants as next
use Rattle.captions.specs.declared.State.{State}
use Rattle.captions.specs.declared.Answer.{Answer}
use Rattle.captions.specs.declared.Answer.TheVariants.{Char, Ligature, Kern, End, Refused}
use Rattle.captions.specs.declared.Step.{Step}
use Rattle.captions.specs.declared.Turned.{Turned}
use Rattle.captions.specs.declared.Turned.TheVariants.{Gives, Goes}
use Rattle.captions.specs.Tables.{op_kind, op_value}
use Rattle.captions.specs.Steps.{refused, taken, takes_boundary, settled, give_item, give_character, give_ligature, after_op, ends_word, give_op, ops_fit, read_op}
use Rattle.captions.specs.Steps.{gathered, left_place_of, after_right, read_on, with_next, give_left, entered_at, entry_reads, turn_by, find_within, turn_with}
use Rattle.captions.specs.Steps.{turn_at_end, turn_at_letter, turn, goes_on, with_nothing_next, by_next, step_by, run_on}
use Rattle.step_turns.specs.Turns.{turn_next, turn_once}
use Rattle.font_runs.specs.Changes.{pairless, following, left_free, free_state, on_ahead, free_ahead}
use Rattle.font_runs.specs.Shift.{later_state, later_answer, later_step}

-- ---- numbers

leb_moved : (g a b : ℕ) → leb (g + a) (g + b) ≡ leb a b
leb_moved g a b = by (less_or_not b a)
  where
    by : (b < a) ⊎ (a ≤ b) → leb (g + a) (g + b) ≡ leb a b
    by (inl h) = rw (lt-leb (g + a) (g + b) (omega (arith, h)), lt-leb a b h)
    by (inr h) = rw (le-leb (g + a) (g + b) (omega (arith, h)), le-leb a b h)

module _ (g : ℕ) where
  abbrev later_turn : Turned → Turned
  later_turn (Gives t) = Gives (later_step g t)
  later_turn (Goes s) = Goes (later_state g s)

  cond_turn : (b : Bool) (t u : Turned) → later_turn (cond b t u) ≡ cond b (later_turn t) (later_turn u)
  cond_turn true t u = refl
  cond_turn false t u = refl

  cond_step : (b : Bool) (t u : Step) → later_step g (cond b t u) ≡ cond b (later_step g t) (later_step g u)
  cond_step true t u = refl
  cond_step false t u = refl

  -- ---- an item

  item_moved : (a : Answer) (n : ℕ) (s : State) → give_item (later_answer g a) n (later_state g s) ≡ later_step g (give_item a n s)
  item_moved a n s =
      let e : g + s.given + n ≡ g + (s.given + n) = omega arith in
      rw (e, leb_moved g (s.given + n) s.read) (sym (cond_step (leb (s.given + n) s.read) (record { answer = a; state = settled n s }) (refused 7 s)))

  character_moved : (c : ℕ) (s : State) → give_character c (later_state g s) ≡ later_step g (give_character c s)
  character_moved c s =
      (λ j. cond (eqb s.pending 0) (item_moved (Char c s.given) 1 s j)
      (item_moved (Ligature c s.given s.pending s.pending_boundary false) s.pending s j))
      ∙ sym (cond_step (eqb s.pending 0) _ _)

  ligature_moved : (c : ℕ) (right : Bool) (s : State) → give_ligature c right (later_state g s) ≡ later_step g (give_ligature c right s)
  ligature_moved c right s = item_moved (Ligature c s.given (taken s) (takes_boundary s) right) (taken s) s

  module _ (ops : List ℤ) where
    op-moved : (s : State) → read_op ops (later_state g s) ≡ later_step g (read_op ops s)
    op-moved s =
        let k = word_of (op_kind ops s.op) in
        let v = word_of (op_value ops s.op) in
        let e : give_op ops (later_state g s) ≡ later_step g (give_op ops s) =
        (λ j. cond (eqb k 0) (character_moved v (after_op s) j)
        (cond (eqb k 1) (ligature_moved v (ends_word ops (after_op s)) (after_op s) j)
        (record { answer = Kern (op_value ops s.op); state = later_state g (after_op s) })))
        ∙ sym (cond_step (eqb k 0) _ _ ∙ ap (cond (eqb k 0) _) (cond_step (eqb k 1) _ _)) in
        ap (λ (t : Step). cond (ops_fit ops s) t (refused 7 (later_state g s))) e ∙ sym (cond_step (ops_fit ops s) _ _)

  -- ---- a turn

  -- one more letter read, or none
  read_moved : (letter : Bool) (r : ℕ) → read_on letter (g + r) ≡ g + read_on letter r
  read_moved true r = omega arith
  read_moved false r = refl

  left_moved : (x : NextLeft) (s : State) → give_left x (later_state g s) ≡ later_turn (give_left x s)
  left_moved next.Boundary s = refl
  left_moved (next.Char c) s = ap Gives (character_moved c s)
  left_moved (next.Lig c) s = ap Gives (character_moved c s)
  left_moved (next.FinalLig c) s = refl
  left_moved next.None s = refl

  module _ (pairs ops : List ℤ) where
    by-moved : (x : NextLeft) (letter : Bool) (y : ℕ) (s : State) (o : Option ℕ) →
        turn_by pairs ops x letter y (later_state g s) o ≡ later_turn (turn_by pairs ops x letter y s o)
    by-moved x letter y s none =
        ap (λ (r : ℕ). give_left x (with_next (after_right letter (plain y)) r (later_state g s))) (read_moved letter s.read)
        ∙ left_moved x (with_next (after_right letter (plain y)) (read_on letter s.read) s)
    by-moved x letter y s (some k) =
        (λ j. cond (entry_reads pairs ops x k) (Goes (withRead (read_moved letter s.read j))) (Gives (refused 7 (later_state g s))))
        ∙ sym (cond_turn (entry_reads pairs ops x k) _ _)
      where
        withRead : ℕ → State
        withRead r =
            record {
              next_left = (entered_at pairs x letter s k).next_left;
              op = (entered_at pairs x letter s k).op;
              ops = (entered_at pairs x letter s k).ops;
              read = r;
              given = g + s.given;
              pending = s.pending;
              pending_boundary = s.pending_boundary;
              consumes_left = (entered_at pairs x letter s k).consumes_left;
            }

    with-moved : (x : NextLeft) (letter : Bool) (y : ℕ) (s : State) →
        turn_with pairs ops x letter y (later_state g s) ≡ later_turn (turn_with pairs ops x letter y s)
    with-moved x letter y s = by-moved x letter y s (find_within pairs (left_place_of x) y)

    end_moved : (right : Option ℕ) (x : NextLeft) (s : State) → turn_at_end pairs ops right x (later_state g s) ≡ later_turn (turn_at_end pairs ops right x s)
    end_moved right next.Boundary s = refl
    end_moved none (next.Char c) s = ap Gives (character_moved c (with_next next.None s.read s))
    end_moved (some r) (next.Char c) s = with-moved (next.Char c) false r s
    end_moved none (next.Lig c) s = ap Gives (character_moved c (with_next next.None s.read s))
    end_moved (some r) (next.Lig c) s = with-moved (next.Lig c) false r s
    end_moved right (next.FinalLig c) s = refl
    end_moved right next.None s = refl

    letter-moved : (x : NextLeft) (y : ℕ) (s : State) → turn_at_letter pairs ops x y (later_state g s) ≡ later_turn (turn_at_letter pairs ops x y s)
    letter-moved x y s =
        ap (λ (t : Turned). cond (is_letter y) t (Gives (refused 20 (later_state g s)))) (with-moved x true y s) ∙ sym (cond_turn (is_letter y) _ _)

  gathered_moved : (x : NextLeft) (s : State) → gathered x (later_state g s) ≡ later_state g (gathered x s)
  gathered_moved next.Boundary s = refl
  gathered_moved (next.Char c) s = refl
  gathered_moved (next.Lig c) s = refl
  gathered_moved (next.FinalLig c) s = refl
  gathered_moved next.None s = refl

  gathered_read : (x : NextLeft) (s : State) → (gathered x s).read ≡ s.read
  gathered_read next.Boundary s = refl
  gathered_read (next.Char c) s = refl
  gathered_read (next.Lig c) s = refl
  gathered_read (next.FinalLig c) s = refl
  gathered_read next.None s = refl

  -- ---- over a word and its rest

  module _ (word : List ℕ) (inside : g ≤ length word) where
    there-moved : (r : ℕ) → ltb (g + r) (length word) ≡ ltb r (length (drop g word))
    there-moved r = by (less_or_not r (length (drop g word)))
      where
        by : (r < length (drop g word)) ⊎ (length (drop g word) ≤ r) → ltb (g + r) (length word) ≡ ltb r (length (drop g word))
        by (inl h) = rw (lt-ltb r (length (drop g word)) h) (lt-ltb (g + r) (length word) (omega (arith, h, length-drop g word)))
        by (inr h) = rw (le-ltb r (length (drop g word)) h) (le-ltb (g + r) (length word) (omega (arith, h, length-drop g word)))

    letter_at : (r : ℕ) → get_or word (g + r) 0 ≡ get_or (drop g word) r 0
    letter_at r = sym (get_or-drop g word r 0)

    module _ (pairs ops : List ℤ) (right : Option ℕ) where
      turn_moved : (x : NextLeft) (s : State) → turn pairs ops right word x (later_state g s) ≡ later_turn (turn pairs ops right (drop g word) x s)
      turn_moved x s =
          (λ j. cond (there-moved s.read j) (turn_at_letter pairs ops x (letter_at s.read j) (gathered_moved x s j))
          (turn_at_end pairs ops right x (gathered_moved x s j)))
          ∙ (λ j. cond (ltb s.read (length (drop g word))) (letter-moved pairs ops x (get_or (drop g word) s.read 0) (gathered x s) j)
          (end_moved pairs ops right x (gathered x s) j))
          ∙ sym (cond_turn (ltb s.read (length (drop g word))) _ _)

      abbrev look : NextLeft → State → Turned
      look = turn pairs ops right word

      abbrev lookRest : NextLeft → State → Turned
      lookRest = turn pairs ops right (drop g word)

      -- a step by its turns
      on-moved : (go go' : State → Step) → ((s : State) → go (later_state g s) ≡ later_step g (go' s)) → (t : Turned) →
          goes_on go (later_turn t) ≡ later_step g (goes_on go' t)
      on-moved go go' h (Gives t) = refl
      on-moved go go' h (Goes s) = h s

      next-moved : (go go' : State → Step) → ((s : State) → go (later_state g s) ≡ later_step g (go' s)) → (s : State) (x : NextLeft) →
          by_next look go (later_state g s) x ≡ later_step g (by_next lookRest go' s x)
      next-moved go go' h s next.Boundary = ap (goes_on go) (turn_moved next.Boundary s) ∙ on-moved go go' h (lookRest next.Boundary s)
      next-moved go go' h s (next.Char c) = ap (goes_on go) (turn_moved (next.Char c) s) ∙ on-moved go go' h (lookRest (next.Char c) s)
      next-moved go go' h s (next.Lig c) = ap (goes_on go) (turn_moved (next.Lig c) s) ∙ on-moved go go' h (lookRest (next.Lig c) s)
      next-moved go go' h s (next.FinalLig c) = ligature_moved c true (with_nothing_next s)
      next-moved go go' h s next.None = refl

      step-by-moved : (go go' : State → Step) → ((s : State) → go (later_state g s) ≡ later_step g (go' s)) → (s : State) →
          step_by ops look go (later_state g s) ≡ later_step g (step_by ops lookRest go' s)
      step-by-moved go go' h s =
          (λ j. cond (eqb s.ops 0) (next-moved go go' h s s.next_left j) (op-moved ops s j)) ∙ sym (cond_step (eqb s.ops 0) _ _)

      pub run_moved : (n : ℕ) (s : State) → run_on ops look n (later_state g s) ≡ later_step g (run_on ops lookRest n s)
      unfolding run_on
      run_moved zero s = step-by-moved (refused 7) (refused 7) (λ _. refl) s
      run_moved (suc n) s = step-by-moved (run_on ops look n) (run_on ops lookRest n) (run_moved n) s

      -- ---- the first free state

      left-free-moved : (r : ℕ) (x : NextLeft) → left_free pairs right word (g + r) x ≡ left_free pairs right (drop g word) r x
      left-free-moved r next.Boundary = λ j. both (there-moved r j) (pairless pairs 0 (some (letter_at r j)))
      left-free-moved r (next.Char c) = λ j. pairless pairs (suc c) (cond (there-moved r j) (some (letter_at r j)) right)
      left-free-moved r (next.Lig c) = refl
      left-free-moved r (next.FinalLig c) = refl
      left-free-moved r next.None = refl

      free_moved : (s : State) → free_state pairs right word (later_state g s) ≡ free_state pairs right (drop g word) s
      free_moved s = ap (λ (b : Bool). both (eqb s.ops 0) (both (eqb s.pending 0) b)) (left-free-moved s.read s.next_left)

      turn-next-moved : (s : State) (x : NextLeft) → turn_next look (later_state g s) x ≡ later_turn (turn_next lookRest s x)
      turn-next-moved s next.Boundary = turn_moved next.Boundary s
      turn-next-moved s (next.Char c) = turn_moved (next.Char c) s
      turn-next-moved s (next.Lig c) = turn_moved (next.Lig c) s
      turn-next-moved s (next.FinalLig c) = ap Gives (ligature_moved c true (with_nothing_next s))
      turn-next-moved s next.None = refl

      once-moved : (s : State) → turn_once ops look (later_state g s) ≡ later_turn (turn_once ops lookRest s)
      once-moved s =
          (λ j. cond (eqb s.ops 0) (turn-next-moved s s.next_left j) (Gives (op-moved ops s j))) ∙ sym (cond_turn (eqb s.ops 0) _ _)

      abbrev later : Option State → Option State
      later = map (later_state g)

      cond-later : (b : Bool) (o p : Option State) → later (cond b o p) ≡ cond b (later o) (later p)
      cond-later true o p = refl
      cond-later false o p = refl

      ahead-on : (go go' : State → Option State) → ((s : State) → go (later_state g s) ≡ later (go' s)) → (t : Turned) →
          on_ahead go (later_turn t) ≡ later (on_ahead go' t)
      ahead-on go go' h (Gives t) = refl
      ahead-on go go' h (Goes s) = h s

      pub ahead_moved : (n : ℕ) (s : State) →
          free_ahead (free_state pairs right word) (turn_once ops look) n (later_state g s)
          ≡ later (free_ahead (free_state pairs right (drop g word)) (turn_once ops lookRest) n s)
      unfolding free_ahead
      ahead_moved zero s =
          ap (λ (b : Bool). cond b (some (later_state g s)) none) (free_moved s) ∙ sym (cond-later (free_state pairs right (drop g word) s) (some s) none)
      ahead_moved (suc n) s =
          (λ j. cond (free_moved s j) (some (later_state g s)) (on_ahead (free_ahead (free_state pairs right word) (turn_once ops look) n) (once-moved s j)))
          ∙ ap (cond (free_state pairs right (drop g word) s) (some (later_state g s)))
          (ahead-on (free_ahead (free_state pairs right word) (turn_once ops look) n)
          (free_ahead (free_state pairs right (drop g word)) (turn_once ops lookRest) n) (ahead_moved n) (turn_once ops lookRest s))
          ∙ sym (cond-later (free_state pairs right (drop g word) s) (some s) _)
