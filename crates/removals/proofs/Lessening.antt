-- A step that gives an item leaves fewer items to be given, whatever the table and the state; so a run gives at most `mostItems`, and any greater room gives
-- the same list.
-- Assumes nothing.
use mathlib.Core.Path.{◌≡◌, refl, sym, ap, subst, ◌∙◌}
use mathlib.Core.Bool.{Bool, true, false, cond}
use mathlib.Core.List.{List, []}
use mathlib.Core.Option.{Option, none, some}
use Prim.Native.Nat.{ℕ, zero, suc, ◌+◌, ◌-◌, ◌*◌, ◌<◌, ◌≤◌}
use native.Mathlib.Omega.{arith}
use native.Mathlib.Nat.{mul-le-mul}
use lib.IntN.{ℤ}
use lib.Dec.{ltb, leb, eqb}
use lib.ListN.{length, get_or}
use borrow.Author.Tests.{ltb-true, leb-true, eqb-true, eqb-false}
use Rattle.words.specs.Words.{word_of}
use Rattle.lang.specs.Checks.{is_letter}
use Rattle.lang.proofs.Refusals.{or_else_none, unless_none}
use Rattle.lang.specs.Answers.{Reply, reply_of}
use Rattle.reading.specs.Items.{plain}
use Rattle.captions.specs.declared.RunOptions.{RunOptions}
use Rattle.captions.specs.declared.NextLeft.{NextLeft}
use Rattle.captions.specs.declared.NextLeft.TheVariants as next
use Rattle.captions.specs.declared.State.{State}
use Rattle.captions.specs.declared.Answer.{Answer}
use Rattle.captions.specs.declared.Answer.TheVariants.{Char, Ligature, Kern, End, Refused}
use Rattle.captions.specs.declared.Step.{Step}
use Rattle.captions.specs.declared.Turned.{Turned}
use Rattle.captions.specs.declared.Turned.TheVariants.{Gives, Goes}
use Rattle.captions.specs.Tables.{op_count, op_kind, op_value}
use Rattle.captions.specs.Begin.{edges_refusal, word_refusal}
use Rattle.captions.specs.Steps.{taken, takes_boundary, give_item, give_character, give_ligature, after_op, ends_word, give_op, ops_fit, read_op, gathered}
use Rattle.captions.specs.Steps.{left_place_of, after_right, read_on, with_next, give_left, entry_reads, find_within, turn_by, turn_at_end, turn_at_letter, turn}
use Rattle.captions.specs.Steps.{with_nothing_next, run_on, placed, right_item_fits, right_item, ran_from, step_refusal, hand_back, stepped_by, step_of}
use Rattle.step_turns.specs.Turns.{lefts, turn_next, turn_once, turns_left, Within}
use Rattle.step_turns.proofs.Laws.{gathered_read}
use Rattle.step_turns.proofs.Turning.{Running, running_begin, running_less, running_more, running_end, placed_within}
use Rattle.word_items.specs.ItemLists.{is_item}
use Rattle.word_set.specs.Setting.{and_then, items_by, items_from}
use Rattle.removals.specs.Items.{lasts_left, most_items, run_items}

-- ---- the measure

lasts_few : (x : NextLeft) → lasts_left x ≤ 1
lasts_few next.Boundary = omega arith
lasts_few (next.Char c) = omega arith
lasts_few (next.Lig c) = omega arith
lasts_few (next.FinalLig c) = omega arith
lasts_few next.None = omega arith

-- a turn less counts for more than all ops
turn_less : (m t u o p : ℕ) → t < u → o ≤ m → t * suc m + o < u * suc m + p
turn_less m t u o p l h =
    let k : suc t * suc m ≤ u * suc m = mul-le-mul {n₁ = suc t} {m₁ = suc m} {n₂ = u} {m₂ = suc m} (omega arith) (omega arith) in omega arith

ops_less : (q o : ℕ) → (o ≡ 0 → ⊥) → q + (o - 1) < q + o
ops_less q zero h = absurd (h refl)
ops_less q (suc o) h = omega arith

-- ---- a step whose item leaves fewer than b to be given

module _ (m n : ℕ) where
  pub record Lessens (b : ℕ) (t : Step) : Type 0 where
    pub less : is_item t.answer ≡ true → most_items m n t.state < b

  fewer_turns : (s u : State) → turns_left n u + lasts_left u.next_left < turns_left n s + lasts_left s.next_left → u.ops ≤ m →
      most_items m n u < most_items m n s
  fewer_turns s u l h = turn_less m (turns_left n u + lasts_left u.next_left) (turns_left n s + lasts_left s.next_left) u.ops s.ops l h

  refusal_less : (b k : ℕ) (s : State) → Lessens b (record { answer = Refused k; state = s })
  refusal_less b k s = record { less = λ e. absurd (let z : ◌≡◌ {A = ℕ} 0 1 = cc in omega arith) }

  end_less : (b : ℕ) (s : State) → Lessens b (record { answer = End; state = s })
  end_less b s = record { less = λ e. absurd (let z : ◌≡◌ {A = ℕ} 0 1 = cc in omega arith) }

  either : (b : ℕ) (q : Bool) {t u : Step} → (q ≡ true → Lessens b t) → (q ≡ false → Lessens b u) → Lessens b (cond q t u)
  either b true p q = p refl
  either b false p q = q refl

  item_less : (b : ℕ) (a : Answer) (k : ℕ) (s : State) → most_items m n s < b → Lessens b (give_item a k s)
  item_less b a k s h = either b (leb (s.given + k) s.read) (λ _. record { less = λ _. h }) (λ _. refusal_less b 7 s)

  character_less : (b c : ℕ) (s : State) → most_items m n s < b → Lessens b (give_character c s)
  character_less b c s h =
      either b (eqb s.pending 0) (λ _. item_less b (Char c s.given) 1 s h)
      (λ _. item_less b (Ligature c s.given s.pending s.pending_boundary false) s.pending s h)

  ligature_less : (b c : ℕ) (right : Bool) (s : State) → most_items m n s < b → Lessens b (give_ligature c right s)
  ligature_less b c right s h = item_less b (Ligature c s.given (taken s) (takes_boundary s) right) (taken s) s h

  module _ (ops : List ℤ) (s : State) (h : most_items m n (after_op s) < most_items m n s) where
    op-less : Lessens (most_items m n s) (give_op ops s)
    op-less =
        let b = most_items m n s in
        let c = word_of (op_value ops s.op) in
        either b (eqb (word_of (op_kind ops s.op)) 0) (λ _. character_less b c (after_op s) h)
        (λ _. either b (eqb (word_of (op_kind ops s.op)) 1) (λ _. ligature_less b c (ends_word ops (after_op s)) (after_op s) h)
        (λ _. record { less = λ _. h }))

    read-less : Lessens (most_items m n s) (read_op ops s)
    read-less = either (most_items m n s) (ops_fit ops s) (λ _. op-less) (λ _. refusal_less (most_items m n s) 7 s)

  -- ---- a turn that answers

  pub data Given (b : ℕ) : Turned → Type 0 where
    gives : {t : Step} → Lessens b t → Given b (Gives t)
    goes : {s : State} → Given b (Goes s)

  given_step : (b : ℕ) {x : Turned} {a : Step} → Given b x → x ≡ Gives a → Lessens b a
  given_step b {a = a} (gives {t = t} h) e = let q : t ≡ a = cc in subst (Lessens b) q h
  given_step b goes e = absurd (let z : ◌≡◌ {A = ℕ} 0 1 = cc in omega arith)

  given_either : (b : ℕ) (q : Bool) {t u : Turned} → (q ≡ true → Given b t) → (q ≡ false → Given b u) → Given b (cond q t u)
  given_either b true p q = p refl
  given_either b false p q = q refl

  left_given : (b : ℕ) (x : NextLeft) (s : State) → most_items m n s < b → Given b (give_left x s)
  left_given b next.Boundary s h = goes
  left_given b (next.Char c) s h = gives (character_less b c s h)
  left_given b (next.Lig c) s h = gives (character_less b c s h)
  left_given b (next.FinalLig c) s h = goes
  left_given b next.None s h = goes

gathered_ops : (x : NextLeft) (s : State) → (gathered x s).ops ≡ s.ops
gathered_ops next.Boundary s = refl
gathered_ops (next.Char c) s = refl
gathered_ops (next.Lig c) s = refl
gathered_ops (next.FinalLig c) s = refl
gathered_ops next.None s = refl

module _ (pairs ops : List ℤ) (o : Option ℕ) (word : List ℕ) where
  abbrev most : State → ℕ
  most = most_items (op_count ops) (length word)

  module _ (s : State) (l : lefts s.next_left + lasts_left s.next_left ≡ 2) (w : s.ops ≤ op_count ops) (r : s.read ≤ length word) where
    -- after a left that was given as it stood, with a letter or at the word's end
    passed-less : (letter : Bool) (y : ℕ) (g : State) → g.read ≡ s.read → g.ops ≡ s.ops → (letter ≡ true → s.read < length word) →
        most (with_next (after_right letter (plain y)) (read_on letter g.read) g) < most s
    passed-less true y g e f h =
        fewer_turns (op_count ops) (length word) s (with_next (next.Char y) (suc g.read) g) (omega (arith, e, l, h refl)) (omega (arith, f))
    passed-less false y g e f h =
        fewer_turns (op_count ops) (length word) s (with_next next.None g.read g) (omega (arith, e, l)) (omega (arith, f))

    with_given : (x : NextLeft) (letter : Bool) (y : ℕ) (g : State) → g.read ≡ s.read → g.ops ≡ s.ops → (letter ≡ true → s.read < length word) →
        (k : Option ℕ) → Given (op_count ops) (length word) (most s) (turn_by pairs ops x letter y g k)
    with_given x letter y g e f h none =
        left_given (op_count ops) (length word) (most s) x (with_next (after_right letter (plain y)) (read_on letter g.read) g) (passed-less letter y g e f h)
    with_given x letter y g e f h (some k) =
        given_either (op_count ops) (length word) (most s) (entry_reads pairs ops x k) (λ _. goes)
        (λ _. gives (refusal_less (op_count ops) (length word) (most s) 7 g))

    letter_given : (x : NextLeft) (y : ℕ) (g : State) → g.read ≡ s.read → g.ops ≡ s.ops → s.read < length word →
        Given (op_count ops) (length word) (most s) (turn_at_letter pairs ops x y g)
    letter_given x y g e f h =
        given_either (op_count ops) (length word) (most s) (is_letter y) (λ _. with_given x true y g e f (λ _. h) (find_within pairs (left_place_of x) y))
        (λ _. gives (refusal_less (op_count ops) (length word) (most s) 20 g))

    no_letter : ◌≡◌ {A = Bool} false true → s.read < length word
    no_letter e = absurd (let z : ◌≡◌ {A = ℕ} 0 1 = cc in omega arith)

    end_given : (q : Option ℕ) (x : NextLeft) (g : State) → g.read ≡ s.read → g.ops ≡ s.ops →
        Given (op_count ops) (length word) (most s) (turn_at_end pairs ops q x g)
    end_given q next.Boundary g e f = gives (end_less (op_count ops) (length word) (most s) g)
    end_given none (next.Char c) g e f =
        left_given (op_count ops) (length word) (most s) (next.Char c) (with_next next.None g.read g) (passed-less false 0 g e f no_letter)
    end_given (some y) (next.Char c) g e f = with_given (next.Char c) false y g e f no_letter (find_within pairs (suc c) y)
    end_given none (next.Lig c) g e f =
        left_given (op_count ops) (length word) (most s) (next.Lig c) (with_next next.None g.read g) (passed-less false 0 g e f no_letter)
    end_given (some y) (next.Lig c) g e f = with_given (next.Lig c) false y g e f no_letter (find_within pairs (suc c) y)
    end_given q (next.FinalLig c) g e f = gives (end_less (op_count ops) (length word) (most s) g)
    end_given q next.None g e f = gives (end_less (op_count ops) (length word) (most s) g)

    turn_given : (x : NextLeft) → Given (op_count ops) (length word) (most s) (turn pairs ops o word x s)
    turn_given x =
        given_either (op_count ops) (length word) (most s) (ltb s.read (length word))
        (λ e. letter_given x (get_or word s.read 0) (gathered x s) (gathered_read x s) (gathered_ops x s) (ltb-true s.read (length word) e))
        (λ _. end_given o x (gathered x s) (gathered_read x s) (gathered_ops x s))

  -- of the next left x of a state
  module _ (s : State) (w : Within (length word) (op_count ops) s) where
    op-fewer : (s.ops ≡ 0 → ⊥) → most (after_op s) < most s
    op-fewer h = ops_less ((turns_left (length word) s + lasts_left s.next_left) * suc (op_count ops)) s.ops h

    nothing-fewer : (c : ℕ) → s.next_left ≡ next.FinalLig c → most (with_nothing_next s) < most s
    nothing-fewer c e =
        let l : lefts s.next_left + lasts_left s.next_left ≡ 1 = rw e in
        fewer_turns (op_count ops) (length word) s (with_nothing_next s) (omega (arith, l)) (omega (arith, w.ops))

    next_given : (x : NextLeft) → s.next_left ≡ x → Given (op_count ops) (length word) (most s) (turn_next (turn pairs ops o word) s x)
    next_given next.Boundary e = turn_given s (rw e) (omega (arith, w.ops)) w.read next.Boundary
    next_given (next.Char c) e = turn_given s (rw e) (omega (arith, w.ops)) w.read (next.Char c)
    next_given (next.Lig c) e = turn_given s (rw e) (omega (arith, w.ops)) w.read (next.Lig c)
    next_given (next.FinalLig c) e =
        gives (ligature_less (op_count ops) (length word) (most s) c true (with_nothing_next s) (nothing-fewer c e))
    next_given next.None e = gives (end_less (op_count ops) (length word) (most s) s)

    once_given : Given (op_count ops) (length word) (most s) (turn_once ops (turn pairs ops o word) s)
    once_given =
        given_either (op_count ops) (length word) (most s) (eqb s.ops 0) (λ _. next_given s.next_left refl)
        (λ e. gives (read-less (op_count ops) (length word) ops s (op-fewer (eqb-false s.ops 0 e))))

    -- a turn that goes on is one with a left
    next_goes : (x : NextLeft) (u : State) → turn_next (turn pairs ops o word) s x ≡ Goes u → lasts_left x ≡ 1
    next_goes next.Boundary u e = refl
    next_goes (next.Char c) u e = refl
    next_goes (next.Lig c) u e = refl
    next_goes (next.FinalLig c) u e = refl
    next_goes next.None u e = absurd (let z : ◌≡◌ {A = ℕ} 0 1 = cc in omega arith)

    goes_by : (b : Bool) (u : State) → cond b (turn_next (turn pairs ops o word) s s.next_left) (Gives (read_op ops s)) ≡ Goes u →
        lasts_left s.next_left ≡ 1
    goes_by true u e = next_goes s.next_left u e
    goes_by false u e = absurd (let z : ◌≡◌ {A = ℕ} 0 1 = cc in omega arith)

  -- ---- all turns

  module _ (s : State) where
    abbrev run : ℕ → State → Step
    run = run_on ops (turn pairs ops o word)

    abbrev Ran : Type 0
    Ran = Lessens (op_count ops) (length word) (most s) (run (suc (length word - s.read)) s)

    weaker : {b c : ℕ} {t : Step} → b ≤ c → Lessens (op_count ops) (length word) b t → Lessens (op_count ops) (length word) c t
    weaker l h = record { less = λ e. omega (arith, h.less e) }

    ran_by : (t : State) → most t ≤ most s → Running (length word) (op_count ops) run s t →
        ((u : State) → turns_left (length word) u < turns_left (length word) t → most u ≤ most s → Running (length word) (op_count ops) run s u → Ran) →
        (x : Turned) → x ≡ turn_once ops (turn pairs ops o word) t → Ran
    ran_by t l r onward (Gives a) e =
        subst (Lessens (op_count ops) (length word) (most s)) (running_end pairs ops o word s t r (Gives a) e a refl)
        (weaker l (given_step (op_count ops) (length word) (most t) (once_given t r.inside) (sym e)))
    ran_by t l r onward (Goes u) e =
        let d = running_less pairs ops o word s t r (Goes u) e u refl in
        let q = running_more pairs ops o word s t r (Goes u) e u refl in
        let k = goes_by t r.inside (eqb t.ops 0) u (sym e) in
        let f : most u < most t = fewer_turns (op_count ops) (length word) t u (omega (arith, d, k, lasts_few u.next_left)) (omega
        (arith, q.inside.ops)) in
        onward u d (omega (arith, f, l)) q

    ran-in : (k : ℕ) (t : State) → turns_left (length word) t < k → most t ≤ most s → Running (length word) (op_count ops) run s t → Ran
    ran-in zero t h l r = absurd (omega arith)
    ran-in (suc k) t h l r = ran_by t l r (λ u d f q. ran-in k u (omega (arith, d, h)) f q) (turn_once ops (turn pairs ops o word) t) refl

    ran-less : length word ≤ 65535 → Lessens (op_count ops) (length word) (most s) (ran_from pairs ops o word s)
    ran-less few =
        let m = op_count ops in
        let n = length word in
        either m n (most s) (placed ops word s)
        (λ e. either m n (most s) (right_item_fits o)
        (λ _. ran-in (suc (turns_left n s)) s (omega arith) (omega arith) (running_begin n m run s (placed_within ops word s (omega (arith, few)) e)))
        (λ _. refusal_less m n (most s) 20 s))
        (λ _. refusal_less m n (most s) 7 s)

-- ---- the step

module _ (m n b : ℕ) where
  handed : (s t : State) (a : Answer) → Lessens m n b (record { answer = a; state = t }) → Lessens m n b (hand_back s t a)
  handed s t (Char c p) h = h
  handed s t (Ligature c p k x y) h = h
  handed s t (Kern k) h = h
  handed s t End h = h
  handed s t (Refused k) h = refusal_less m n b k s

  stepped : (k : ℕ) (s : State) (t : Step) → (k ≡ 0 → Lessens m n b t) → Lessens m n b (stepped_by k s t)
  stepped zero s t h = handed s t.state t.answer (record { less = (h refl).less })
  stepped (suc k) s t h = refusal_less m n b (suc k) s

module _ (pairs ops : List ℤ) (boundary : ℤ) (word : List ℕ) (options : RunOptions) where
  abbrev step : State → Step
  step = step_of pairs ops boundary word options

  abbrev μ : State → ℕ
  μ = most_items (op_count ops) (length word)

  few_letters : step_refusal boundary word options ≡ 0 → length word ≤ 65535
  few_letters z = leb-true (length word) 65535 (unless_none 5 (leb (length word) 65535) (or_else_none (edges_refusal boundary options) (word_refusal word) z).1)

  pub step_lessens : (s : State) → is_item (step s).answer ≡ true → μ (step s).state < μ s
  step_lessens s =
      (stepped (op_count ops) (length word) (μ s) (step_refusal boundary word options) s
      (ran_from pairs ops (right_item boundary options.right_boundary_override) word s)
      (λ z. ran-less pairs ops (right_item boundary options.right_boundary_override) word s (few_letters z))).less

  -- ---- any greater room gives the same list

  stops : (a : Answer) (q r : Reply) → is_item a ≡ false → and_then a q ≡ and_then a r
  stops (Char c p) q r e = absurd (let z : ◌≡◌ {A = ℕ} 0 1 = cc in omega arith)
  stops (Ligature c p n x y) q r e = absurd (let z : ◌≡◌ {A = ℕ} 0 1 = cc in omega arith)
  stops (Kern k) q r e = absurd (let z : ◌≡◌ {A = ℕ} 0 1 = cc in omega arith)
  stops End q r e = refl
  stops (Refused k) q r e = refl

  then_as : (s : State) (q r : Reply) → (is_item (step s).answer ≡ true → q ≡ r) → (b : Bool) → is_item (step s).answer ≡ b →
      and_then (step s).answer q ≡ and_then (step s).answer r
  then_as s q r h true e = ap (and_then (step s).answer) (h e)
  then_as s q r h false e = stops (step s).answer q r e

  same_room : (j k : ℕ) (s : State) → μ s ≤ j → μ s ≤ k → items_by step j s ≡ items_by step k s
  unfolding items_by
  same_room zero zero s h l = refl
  same_room zero (suc k) s h l =
      then_as s (reply_of 15 []) (items_by step k (step s).state) (λ e. absurd (omega (arith, step_lessens s e))) (is_item (step s).answer) refl
  same_room (suc j) zero s h l =
      then_as s (items_by step j (step s).state) (reply_of 15 []) (λ e. absurd (omega (arith, step_lessens s e))) (is_item (step s).answer) refl
  same_room (suc j) (suc k) s h l =
      then_as s (items_by step j (step s).state) (items_by step k (step s).state)
      (λ e. same_room j k (step s).state (omega (arith, step_lessens s e)) (omega (arith, step_lessens s e))) (is_item (step s).answer) refl

  pub room_for_all : (k : ℕ) (s : State) → μ s ≤ k → items_from pairs ops boundary word options k s ≡ run_items pairs ops boundary word options s
  room_for_all k s h = same_room k (μ s) s h (omega arith)

  -- the first step of a run, and then the run from where that left it
  pub run_step : (s : State) →
      run_items pairs ops boundary word options s ≡ and_then (step s).answer (run_items pairs ops boundary word options (step s).state)
  unfolding items_by
  run_step s =
      same_room (μ s) (suc (μ s + μ (step s).state)) s (omega arith) (omega arith)
      ∙ ap (and_then (step s).answer) (same_room (μ s + μ (step s).state) (μ (step s).state) (step s).state (omega arith) (omega arith))
