-- A run whose next left is the left boundary is as it began: nothing is pending, and no place among the ops is kept. Of any table and word.
-- Assumes nothing.
use mathlib.Core.Path.{◌≡◌, refl, sym, ap, subst}
use mathlib.Core.Bool.{Bool, true, false, cond}
use mathlib.Core.List.{List, [], ◌∷◌}
use mathlib.Core.Option.{Option, none, some}
use Prim.Native.Nat.{ℕ, zero, suc, ◌+◌, ◌-◌}
use native.Mathlib.Omega.{arith}
use lib.IntN.{ℤ}
use lib.Dec.{ltb, leb, eqb}
use lib.ListN.{length, get_or}
use Rattle.words.specs.Words.{word_of}
use Rattle.lang.specs.Checks.{is_letter}
use Rattle.reading.specs.Items.{item, plain}
use Rattle.captions.specs.declared.RunOptions.{RunOptions}
use Rattle.captions.specs.declared.NextLeft.{NextLeft}
use Rattle.captions.specs.declared.NextLeft.TheVariants as next
use Rattle.captions.specs.declared.State.{State}
use Rattle.captions.specs.declared.Answer.{Answer}
use Rattle.captions.specs.declared.Answer.TheVariants.{Char, Ligature, Kern, End, Refused}
use Rattle.captions.specs.declared.Step.{Step}
use Rattle.captions.specs.declared.Turned.{Turned}
use Rattle.captions.specs.declared.Turned.TheVariants.{Gives, Goes}
use Rattle.captions.specs.Tables.{op_kind, last_code, last_flag}
use Rattle.captions.specs.Begin.{fresh, without_boundary, fresh_state}
use Rattle.captions.specs.Steps.{refused, give_item, give_character, give_ligature, after_op, ops_fit, read_op}
use Rattle.captions.specs.Steps.{left_place_of, after_right, read_on, with_next, entered_at, entry_reads, turn_by, find_within, gathered}
use Rattle.captions.specs.Steps.{turn_at_end, turn, goes_on, with_nothing_next, by_next, run_on, right_item_fits, placed, ran_from, right_item}
use Rattle.captions.specs.Steps.{hand_back, stepped_by, step_refusal, step_of}
use Rattle.captions.specs.Letters.{state_after}
use Rattle.font_runs.specs.Changes.{restarted}
use Rattle.font_runs.specs.Shift.{later_state}

abbrev pub BeganAt : NextLeft → State → Type 0
BeganAt next.Boundary s = s ≡ restarted s
BeganAt (next.Char c) s = Unit {0}
BeganAt (next.Lig c) s = Unit {0}
BeganAt (next.FinalLig c) s = Unit {0}
BeganAt next.None s = Unit {0}

abbrev pub Began : State → Type 0
Began s = BeganAt s.next_left s

-- ---- past the left boundary

abbrev Past : NextLeft → Type 0
Past next.Boundary = ⊥
Past (next.Char c) = Unit {0}
Past (next.Lig c) = Unit {0}
Past (next.FinalLig c) = Unit {0}
Past next.None = Unit {0}

past_began : (x : NextLeft) (s : State) → Past x → BeganAt x s
past_began next.Boundary s h = absurd h
past_began (next.Char c) s h = tt
past_began (next.Lig c) s h = tt
past_began (next.FinalLig c) s h = tt
past_began next.None s h = tt

right_past : (letter f : Bool) (c : ℕ) → Past (after_right letter (item f c))
right_past true true c = tt
right_past true false c = tt
right_past false true c = tt
right_past false false c = tt

abbrev PastTurn : Turned → Type 0
PastTurn (Gives t) = Past t.state.next_left
PastTurn (Goes s) = Past s.next_left

abbrev BeganTurn : Turned → Type 0
BeganTurn (Gives t) = Began t.state
BeganTurn (Goes s) = Began s

past_turn : (t : Turned) → PastTurn t → BeganTurn t
past_turn (Gives t) h = past_began t.state.next_left t.state h
past_turn (Goes s) h = past_began s.next_left s h

-- of one of two
either_of : {A : Type 0} (P : A → Type 0) (b : Bool) (t u : A) → P t → P u → P (cond b t u)
either_of P true t u p q = p
either_of P false t u p q = q

abbrev PastStep : Step → Type 0
PastStep t = Past t.state.next_left

abbrev BeganStep : Step → Type 0
BeganStep t = Began t.state

item_past : (a : Answer) (n : ℕ) (s : State) → Past s.next_left → PastStep (give_item a n s)
item_past a n s h = either_of PastStep (leb (s.given + n) s.read) _ _ h h

character_past : (c : ℕ) (s : State) → Past s.next_left → PastStep (give_character c s)
character_past c s h = either_of PastStep (eqb s.pending 0) _ _ (item_past _ 1 s h) (item_past _ s.pending s h)

op_past : (ops : List ℤ) (s : State) → Past s.next_left → PastStep (read_op ops s)
op_past ops s h =
    either_of PastStep (ops_fit ops s) _ _
    (either_of PastStep (eqb (word_of (op_kind ops s.op)) 0) _ _ (character_past _ (after_op s) h)
    (either_of PastStep (eqb (word_of (op_kind ops s.op)) 1) _ _ (item_past _ _ (after_op s) h) h)) h

module _ (pairs ops : List ℤ) where
  by_past : (x : NextLeft) → Past x → (letter : Bool) (y : ℕ) (s : State) → Past s.next_left → (f : Option ℕ) → PastTurn (turn_by pairs ops x letter y s f)
  by_past next.Boundary q letter y s h none = absurd q
  by_past (next.Char c) q letter y s h none =
      character_past c (with_next (after_right letter (plain y)) (read_on letter s.read) s) (right_past letter false y)
  by_past (next.Lig c) q letter y s h none =
      character_past c (with_next (after_right letter (plain y)) (read_on letter s.read) s) (right_past letter false y)
  by_past (next.FinalLig c) q letter y s h none = right_past letter false y
  by_past next.None q letter y s h none = right_past letter false y
  by_past x q letter y s h (some k) =
      either_of PastTurn (entry_reads pairs ops x k) _ _ (right_past letter (last_flag pairs k) (last_code pairs k)) h

  end_past : (right : Option ℕ) (x : NextLeft) → Past x → (s : State) → Past s.next_left → PastTurn (turn_at_end pairs ops right x s)
  end_past right next.Boundary q s h = absurd q
  end_past none (next.Char c) q s h = character_past c (with_next next.None s.read s) tt
  end_past (some y) (next.Char c) q s h = by_past (next.Char c) tt false y s h (find_within pairs (suc c) y)
  end_past none (next.Lig c) q s h = character_past c (with_next next.None s.read s) tt
  end_past (some y) (next.Lig c) q s h = by_past (next.Lig c) tt false y s h (find_within pairs (suc c) y)
  end_past right (next.FinalLig c) q s h = h
  end_past right next.None q s h = h

  module _ (right : Option ℕ) (word : List ℕ) where
    abbrev look : NextLeft → State → Turned
    look = turn pairs ops right word

    gathered-past : (x : NextLeft) (s : State) → Past s.next_left → Past (gathered x s).next_left
    gathered-past next.Boundary s h = h
    gathered-past (next.Char c) s h = h
    gathered-past (next.Lig c) s h = h
    gathered-past (next.FinalLig c) s h = h
    gathered-past next.None s h = h

    turn-past : (x : NextLeft) → Past x → (s : State) → Past s.next_left → PastTurn (look x s)
    turn-past x q s h =
        let t = gathered x s in
        let i = gathered-past x s h in
        let y = get_or word s.read 0 in
        either_of PastTurn (ltb s.read (length word)) _ _
        (either_of PastTurn (is_letter y) _ _ (by_past x q true y t i (find_within pairs (left_place_of x) y)) i)
        (end_past right x q t i)

    -- at the left boundary
    by-began : (y : ℕ) (s : State) → Began s → (f : Option ℕ) → BeganTurn (turn_by pairs ops next.Boundary true y s f)
    by-began y s h none = tt
    by-began y s h (some k) =
        let t = entered_at pairs next.Boundary true s k in
        either_of BeganTurn (entry_reads pairs ops next.Boundary k) _ _
        (past_began t.next_left t (right_past true (last_flag pairs k) (last_code pairs k))) h

    boundary-began : (s : State) → Began s → BeganTurn (look next.Boundary s)
    boundary-began s h =
        let y = get_or word s.read 0 in
        either_of BeganTurn (ltb s.read (length word)) _ _
        (either_of BeganTurn (is_letter y) _ _ (by-began y s h (find_within pairs 0 y)) h) h

    -- ---- a step

    goes_on_lem : (go : State → Step) → ((s : State) → Began s → BeganStep (go s)) → (t : Turned) → BeganTurn t → BeganStep (goes_on go t)
    goes_on_lem go h (Gives t) e = e
    goes_on_lem go h (Goes s) e = h s e

    next-began : (go : State → Step) → ((s : State) → Began s → BeganStep (go s)) → (s : State) → Began s → (x : NextLeft) → s.next_left ≡ x →
        BeganStep (by_next look go s x)
    next-began go h s e next.Boundary q = goes_on_lem go h (look next.Boundary s) (boundary-began s e)
    next-began go h s e (next.Char c) q =
        goes_on_lem go h (look (next.Char c) s) (past_turn (look (next.Char c) s) (turn-past (next.Char c) tt s (subst Past (sym q) tt)))
    next-began go h s e (next.Lig c) q =
        goes_on_lem go h (look (next.Lig c) s) (past_turn (look (next.Lig c) s) (turn-past (next.Lig c) tt s (subst Past (sym q) tt)))
    next-began go h s e (next.FinalLig c) q =
        let t = give_ligature c true (with_nothing_next s) in
        past_began t.state.next_left t.state (item_past _ _ (with_nothing_next s) tt)
    next-began go h s e next.None q = e

    op-later : (s : State) {x : NextLeft} → s.next_left ≡ x → Past x → BeganStep (read_op ops s)
    op-later s q h = past_began (read_op ops s).state.next_left (read_op ops s).state (op_past ops s (subst Past (sym q) h))

    op-began : (s : State) → eqb s.ops 0 ≡ false → (x : NextLeft) → s.next_left ≡ x → BeganAt x s → BeganStep (read_op ops s)
    op-began s z next.Boundary q e =
        absurd (let a : eqb s.ops 0 ≡ true = ap (λ (t : State). eqb t.ops 0) e in
        let b : ◌≡◌ {A = ℕ} 0 1 = cc in omega arith)
    op-began s z (next.Char c) q e = op-later s q tt
    op-began s z (next.Lig c) q e = op-later s q tt
    op-began s z (next.FinalLig c) q e = op-later s q tt
    op-began s z next.None q e = op-later s q tt

    by_ops : (go : State → Step) → ((s : State) → Began s → BeganStep (go s)) → (s : State) → Began s → (b : Bool) → eqb s.ops 0 ≡ b →
        BeganStep (cond b (by_next look go s s.next_left) (read_op ops s))
    by_ops go h s e true z = next-began go h s e s.next_left refl
    by_ops go h s e false z = op-began s z s.next_left refl e

    run-began : (n : ℕ) (s : State) → Began s → BeganStep (run_on ops look n s)
    unfolding run_on
    run-began zero s e = by_ops (refused 7) (λ s h. h) s e (eqb s.ops 0) refl
    run-began (suc n) s e = by_ops (run_on ops look n) (run-began n) s e (eqb s.ops 0) refl

    ran-began : (s : State) → Began s → BeganStep (ran_from pairs ops right word s)
    ran-began s e =
        either_of BeganStep (placed ops word s) _ _
        (either_of BeganStep (right_item_fits right) _ _ (run-began (suc (length word - s.read)) s e) e) e

handed : (s t : State) (a : Answer) → Began s → Began t → BeganStep (hand_back s t a)
handed s t (Char c p) h i = i
handed s t (Ligature c p n a b) h i = i
handed s t (Kern k) h i = i
handed s t End h i = i
handed s t (Refused n) h i = h

stepped : (m : ℕ) (s : State) (t : Step) → Began s → BeganStep t → BeganStep (stepped_by m s t)
stepped zero s t h i = handed s t.state t.answer h i
stepped (suc m) s t h i = h

module _ (pairs ops : List ℤ) (boundary : ℤ) (word : List ℕ) (options : RunOptions) where
  step_began : (s : State) → Began s → BeganStep (step_of pairs ops boundary word options s)
  step_began s h =
      let right = right_item boundary options.right_boundary_override in
      stepped (step_refusal boundary word options) s (ran_from pairs ops right word s) h (ran-began pairs ops right word s h)

  steps_began : (n : ℕ) (s : State) → Began s → Began (state_after pairs ops boundary word options n s)
  unfolding state_after
  steps_began zero s h = h
  steps_began (suc n) s h = steps_began n (step_of pairs ops boundary word options s).state (step_began s h)

  fresh_by : (cs : List ℕ) (d : Bool) → Began (cond d (without_boundary cs) (fresh next.Boundary 0))
  fresh_by cs false = refl
  fresh_by [] true = tt
  fresh_by (c ∷ cs) true = tt

  -- any number of steps from a fresh state, also over the rest of a word
  pub run_of_began : (n g : ℕ) → Began (later_state g (state_after pairs ops boundary word options n (fresh_state word options)))
  run_of_began n g =
      let s = state_after pairs ops boundary word options n (fresh_state word options) in
      later-began s.next_left s (steps_began n (fresh_state word options) (fresh_by word options.disable_left_boundary))
    where
      later-began : (x : NextLeft) (s : State) → BeganAt x s → BeganAt x (later_state g s)
      later-began next.Boundary s h = ap (later_state g) h
      later-began (next.Char c) s h = tt
      later-began (next.Lig c) s h = tt
      later-began (next.FinalLig c) s h = tt
      later-began next.None s h = tt
