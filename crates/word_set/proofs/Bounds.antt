-- The numbers of a step's answer are small, whatever the table and the state: a code is at most the greatest letter, since a step checks what it reads; a start
-- and a length are within the letters that were read; and a refusal is not 0, and at most 20.
-- Assumes nothing.
use mathlib.Core.Path.{◌≡◌, refl, sym, subst}
use mathlib.Core.Bool.{Bool, true, false, cond}
use mathlib.Core.List.{List}
use mathlib.Core.Option.{Option, none, some}
use Prim.Native.Nat.{ℕ, zero, suc, ◌+◌, ◌-◌, ◌<◌, ◌≤◌}
use native.Mathlib.Omega.{arith}
use lib.IntN.{ℤ}
use lib.Dec.{ltb, leb, eqb}
use lib.ListN.{length, get_or}
use borrow.Author.Tests.{ltb-true, leb-true, eqb-true}
use Rattle.words.specs.Words.{word_of}
use Rattle.lang.specs.Records.{within, absent_or}
use Rattle.lang.specs.Checks.{unless, or_else, absent_refusal, is_letter}
use Rattle.lang.proofs.Every.{both_left, both_right}
use Rattle.lang.proofs.Records.{within_bound}
use Rattle.lang.proofs.Refusals.{or_else_none, unless_none}
use Rattle.lang.proofs.Checks.{letter_bound}
use Rattle.reading.specs.Items.{plain}
use Rattle.captions.specs.declared.RunOptions.{RunOptions}
use Rattle.captions.specs.declared.NextLeft.{NextLeft}
use Rattle.captions.specs.declared.NextLeft.TheVariants as next
use Rattle.captions.specs.declared.State.{State}
use Rattle.captions.specs.declared.Answer.{Answer}
use Rattle.captions.specs.declared.Answer.TheVariants.{Char, Ligature, Kern, End, Refused}
use Rattle.captions.specs.declared.Step.{Step}
use Rattle.captions.specs.declared.Turned.{Turned}
use Rattle.captions.specs.declared.Turned.TheVariants.{Gives, Goes}
use Rattle.captions.specs.Tables.{op_count, op_kind, op_value, op_holds, op_fits}
use Rattle.captions.specs.Begin.{edges_refusal, word_refusal}
use Rattle.captions.specs.Steps.{taken, takes_boundary, settled, give_item, give_character, give_ligature, after_op, ends_word, give_op, ops_fit, read_op, gathered}
use Rattle.captions.specs.Steps.{left_place_of, after_right, read_on, with_next, give_left, entry_reads, find_within, turn_by, turn_at_end, turn_at_letter, turn}
use Rattle.captions.specs.Steps.{with_nothing_next, run_on, next_fits, placed, right_item_fits, right_item, ran_from, step_refusal, hand_back, stepped_by, step_of}
use Rattle.step_turns.specs.Turns.{turn_next, turn_once, turns_left, Within}
use Rattle.step_turns.proofs.Laws.{gathered_read}
use Rattle.step_turns.proofs.Turning.{Running, running_begin, running_less, running_more, running_end, placed_within}
use Rattle.word_items.specs.ItemLists.{Small}

-- ---- a step whose answer has small numbers

data Fit : Step → Type 0 where
  character : (c p : ℕ) {s : State} → c ≤ 1114111 → p ≤ 65535 → Fit (record { answer = Char c p; state = s })
  ligature : (c p n : ℕ) (a b : Bool) {s : State} → c ≤ 1114111 → p ≤ 65535 → n ≤ 65535 → Fit (record { answer = Ligature c p n a b; state = s })
  kern : (k : ℤ) {s : State} → Fit (record { answer = Kern k; state = s })
  over : {s : State} → Fit (record { answer = End; state = s })
  refusal : (n : ℕ) {s : State} → n ≤ 19 → Fit (record { answer = Refused (suc n); state = s })

small : {t : Step} → Fit t → Small t.answer
small (character c p l h) = (l, h)
small (ligature c p n a b l h k) = (l, h, k)
small (kern k) = tt
small over = tt
small (refusal n l) = (omega arith, omega (arith, l))

either : (b : Bool) {t u : Step} → (b ≡ true → Fit t) → (b ≡ false → Fit u) → Fit (cond b t u)
either true p q = p refl
either false p q = q refl

-- ---- giving an item, of at most n letters read

-- the code of an op that is a character or a ligature
holds_code : (b : Bool) (k : ℕ) (v : ℤ) → cond b (within 255 v) (eqb k 2) ≡ true → k < 2 → word_of v ≤ 255
holds_code true k v h l = within_bound 255 v h
holds_code false k v h l = absurd (omega (arith, eqb-true k 2 h))

module _ (n : ℕ) (few : n ≤ 65535) where
  item_fits : (a : Answer) (k : ℕ) (s : State) → s.read ≤ n → (s.given + k ≤ 65535 → Fit (record { answer = a; state = settled k s })) → Fit (give_item a k s)
  item_fits a k s r h =
      either (leb (s.given + k) s.read) (λ e. h (omega (arith, leb-true (s.given + k) s.read e, r, few))) (λ _. refusal 6 (omega arith))

  character_fits : (c : ℕ) (s : State) → c ≤ 1114111 → s.read ≤ n → Fit (give_character c s)
  character_fits c s l r =
      either (eqb s.pending 0) (λ _. item_fits (Char c s.given) 1 s r (λ h. character c s.given l (omega (arith, h))))
      (λ _. item_fits (Ligature c s.given s.pending s.pending_boundary false) s.pending s r
      (λ h. ligature c s.given s.pending s.pending_boundary false l (omega (arith, h)) (omega (arith, h))))

  ligature_fits : (c : ℕ) (right : Bool) (s : State) → c ≤ 1114111 → s.read ≤ n → Fit (give_ligature c right s)
  ligature_fits c right s l r =
      item_fits (Ligature c s.given (taken s) (takes_boundary s) right) (taken s) s r
      (λ h. ligature c s.given (taken s) (takes_boundary s) right l (omega (arith, h)) (omega (arith, h)))

  module _ (ops : List ℤ) (s : State) (r : s.read ≤ n) where
    op_fits_lem : ops_fit ops s ≡ true → Fit (give_op ops s)
    op_fits_lem h =
        let k = word_of (op_kind ops s.op) in
        let c = word_of (op_value ops s.op) in
        let o : op_holds ops s.op ≡ true = both_right (ltb s.op (op_count ops)) (op_holds ops s.op) (both_left (op_fits ops s.op) _ h) in
        let f : k < 2 → c ≤ 255 = holds_code (within 1 (op_kind ops s.op)) k (op_value ops s.op) o in
        either (eqb k 0) (λ e. character_fits c (after_op s) (omega (arith, f (omega (arith, eqb-true k 0 e)))) r)
        (λ _. either (eqb k 1) (λ e. ligature_fits c (ends_word ops (after_op s)) (after_op s) (omega (arith, f (omega (arith, eqb-true k 1 e)))) r)
        (λ _. kern (op_value ops s.op)))

    read_fits : Fit (read_op ops s)
    read_fits = either (ops_fit ops s) op_fits_lem (λ _. refusal 6 (omega arith))

-- ---- a turn that answers

data Given : Turned → Type 0 where
  gives : {t : Step} → Fit t → Given (Gives t)
  goes : {s : State} → Given (Goes s)

given_step : {x : Turned} {a : Step} → Given x → x ≡ Gives a → Fit a
given_step {a = a} (gives {t = t} h) e = let q : t ≡ a = cc in subst Fit q h
given_step goes e = absurd (let z : ◌≡◌ {A = ℕ} 0 1 = cc in omega arith)

given_either : (b : Bool) {t u : Turned} → (b ≡ true → Given t) → (b ≡ false → Given u) → Given (cond b t u)
given_either true p q = p refl
given_either false p q = q refl

module _ (pairs ops : List ℤ) (o : Option ℕ) (word : List ℕ) (few : length word ≤ 65535) where
  left_given : (x : NextLeft) (s : State) → next_fits x ≡ true → s.read ≤ length word → Given (give_left x s)
  left_given next.Boundary s f r = goes
  left_given (next.Char c) s f r = gives (character_fits (length word) few c s (letter_bound c f) r)
  left_given (next.Lig c) s f r = gives (character_fits (length word) few c s (omega (arith, leb-true c 255 f)) r)
  left_given (next.FinalLig c) s f r = goes
  left_given next.None s f r = goes

  with_given : (x : NextLeft) (letter : Bool) (y : ℕ) (s : State) → next_fits x ≡ true → read_on letter s.read ≤ length word → (k : Option ℕ) →
      Given (turn_by pairs ops x letter y s k)
  with_given x letter y s f r none = left_given x (with_next (after_right letter (plain y)) (read_on letter s.read) s) f r
  with_given x letter y s f r (some k) = given_either (entry_reads pairs ops x k) (λ _. goes) (λ _. gives (refusal 6 (omega arith)))

  letter_given : (x : NextLeft) (y : ℕ) (s : State) → next_fits x ≡ true → suc s.read ≤ length word → Given (turn_at_letter pairs ops x y s)
  letter_given x y s f r =
      given_either (is_letter y) (λ _. with_given x true y s f r (find_within pairs (left_place_of x) y)) (λ _. gives (refusal 19 (omega arith)))

  end_given : (q : Option ℕ) (x : NextLeft) (s : State) → next_fits x ≡ true → s.read ≤ length word → Given (turn_at_end pairs ops q x s)
  end_given q next.Boundary s f r = gives over
  end_given none (next.Char c) s f r = left_given (next.Char c) (with_next next.None s.read s) f r
  end_given (some y) (next.Char c) s f r = with_given (next.Char c) false y s f r (find_within pairs (suc c) y)
  end_given none (next.Lig c) s f r = left_given (next.Lig c) (with_next next.None s.read s) f r
  end_given (some y) (next.Lig c) s f r = with_given (next.Lig c) false y s f r (find_within pairs (suc c) y)
  end_given q (next.FinalLig c) s f r = gives over
  end_given q next.None s f r = gives over

  turn_given : (x : NextLeft) (s : State) → next_fits x ≡ true → s.read ≤ length word → Given (turn pairs ops o word x s)
  turn_given x s f r =
      given_either (ltb s.read (length word))
      (λ e. letter_given x (get_or word s.read 0) (gathered x s) f (omega (arith, gathered_read x s, ltb-true s.read (length word) e)))
      (λ _. end_given o x (gathered x s) f (omega (arith, gathered_read x s, r)))

  next_given : (s : State) (x : NextLeft) → next_fits x ≡ true → s.read ≤ length word → Given (turn_next (turn pairs ops o word) s x)
  next_given s next.Boundary f r = turn_given next.Boundary s f r
  next_given s (next.Char c) f r = turn_given (next.Char c) s f r
  next_given s (next.Lig c) f r = turn_given (next.Lig c) s f r
  next_given s (next.FinalLig c) f r = gives (ligature_fits (length word) few c true (with_nothing_next s) (omega (arith, leb-true c 255 f)) r)
  next_given s next.None f r = gives over

  once_given : (s : State) → Within (length word) (op_count ops) s → Given (turn_once ops (turn pairs ops o word) s)
  once_given s w =
      given_either (eqb s.ops 0) (λ _. next_given s s.next_left w.next w.read) (λ _. gives (read_fits (length word) few ops s w.read))

  -- ---- all turns

  module _ (s : State) where
    abbrev run : ℕ → State → Step
    run = run_on ops (turn pairs ops o word)

    abbrev Ran : Type 0
    Ran = Fit (run (suc (length word - s.read)) s)

    ran_by : (t : State) → Running (length word) (op_count ops) run s t →
        ((u : State) → turns_left (length word) u < turns_left (length word) t → Running (length word) (op_count ops) run s u → Ran) →
        (x : Turned) → x ≡ turn_once ops (turn pairs ops o word) t → Ran
    ran_by t r onward (Gives a) e = subst Fit (running_end pairs ops o word s t r (Gives a) e a refl) (given_step (once_given t r.inside) (sym e))
    ran_by t r onward (Goes u) e = onward u (running_less pairs ops o word s t r (Goes u) e u refl) (running_more pairs ops o word s t r (Goes u) e u refl)

    ran-in : (m : ℕ) (t : State) → turns_left (length word) t < m → Running (length word) (op_count ops) run s t → Ran
    ran-in zero t h r = absurd (omega arith)
    ran-in (suc m) t h r = ran_by t r (λ u l q. ran-in m u (omega (arith, l, h)) q) (turn_once ops (turn pairs ops o word) t) refl

    ran_fits : Fit (ran_from pairs ops o word s)
    ran_fits =
        either (placed ops word s)
        (λ e. either (right_item_fits o)
        (λ _. ran-in (suc (turns_left (length word) s)) s (omega arith)
        (running_begin (length word) (op_count ops) run s (placed_within ops word s (omega (arith, few)) e)))
        (λ _. refusal 19 (omega arith)))
        (λ _. refusal 6 (omega arith))

-- ---- the step

handed : (s : State) {t : Step} → Fit t → Fit (hand_back s t.state t.answer)
handed s (character c p l h) = character c p l h
handed s (ligature c p n a b l h k) = ligature c p n a b l h k
handed s (kern k) = kern k
handed s over = over
handed s (refusal n l) = refusal n l

stepped : (n : ℕ) (s : State) (t : Step) → n ≤ 20 → (n ≡ 0 → Fit t) → Fit (stepped_by n s t)
stepped zero s t l h = handed s (h refl)
stepped (suc n) s t l h = refusal n (omega (arith, l))

-- the lowest of numbers that are all small
pub unless_few : (m n : ℕ) (t : Bool) → n ≤ m → unless n t ≤ m
unless_few m n true l = omega arith
unless_few m n false l = l

pub or_else_few : (m a b : ℕ) → a ≤ m → b ≤ m → or_else a b ≤ m
or_else_few m zero b la lb = lb
or_else_few m (suc a) b la lb = la

module _ (pairs ops : List ℤ) (boundary : ℤ) (word : List ℕ) (options : RunOptions) (s : State) where
  short : step_refusal boundary word options ≡ 0 → length word ≤ 65535
  short z = leb-true (length word) 65535 (unless_none 5 (leb (length word) 65535) (or_else_none (edges_refusal boundary options) (word_refusal word) z).1)

  few : step_refusal boundary word options ≤ 20
  few =
      let over = options.right_boundary_override in
      or_else_few 20 (edges_refusal boundary options) (word_refusal word)
      (or_else_few 20 (absent_refusal 255 boundary) (absent_refusal 2147483647 over) (unless_few 20 4 (absent_or 255 boundary) (omega arith))
      (unless_few 20 4 (absent_or 2147483647 over) (omega arith)))
      (unless_few 20 6 (leb (length word) 65535) (omega arith))

  pub step_small : Small (step_of pairs ops boundary word options s).answer
  step_small =
      small
      (stepped (step_refusal boundary word options) s (ran_from pairs ops (right_item boundary options.right_boundary_override) word s)
      few
      (λ z. ran_fits pairs ops (right_item boundary options.right_boundary_override) word (short z) s))
