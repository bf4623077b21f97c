-- After the end comes only the end. A turn that goes on leaves ops to be given or a left character to be looked up, since an entry that gives nothing
-- is not followed from a left character; so the end is answered from the state that the step was handed, or not at all.
-- Assumes nothing.
use mathlib.Core.Path.{◌≡◌, refl}
use mathlib.Core.Bool.{Bool, true, false, cond, not}
use mathlib.Core.List.{List}
use mathlib.Core.Option.{Option, none, some}
use Prim.Native.Nat.{ℕ, zero, suc, ◌+◌, ◌-◌}
use native.Mathlib.Omega.{arith}
use lib.IntN.{ℤ}
use lib.Dec.{ltb, leb, eqb}
use lib.ListN.{length, get_or, replicate}
use Rattle.words.specs.Words.{word_of}
use Rattle.lang.specs.Every.{both}
use Rattle.lang.specs.Checks.{is_letter}
use Rattle.lang.proofs.Every.{both_right}
use Rattle.reading.specs.Items.{Item, item, plain}
use Rattle.captions.specs.declared.RunOptions.{RunOptions}
use Rattle.captions.specs.declared.NextLeft.{NextLeft}
use Rattle.captions.specs.declared.NextLeft.TheVariants as next
use Rattle.captions.specs.declared.State.{State}
use Rattle.captions.specs.declared.Answer.{Answer}
use Rattle.captions.specs.declared.Answer.TheVariants.{Char, Ligature, Kern, End, Refused}
use Rattle.captions.specs.declared.Step.{Step}
use Rattle.captions.specs.declared.Turned.{Turned}
use Rattle.captions.specs.declared.Turned.TheVariants.{Gives, Goes}
use Rattle.captions.specs.Tables.{op_kind, op_value, count_of, last_code, last_flag, record_fits}
use Rattle.captions.specs.Steps.{refused, taken, takes_boundary, give_character, give_ligature, ends_word, give_op, ops_fit, read_op, longer, after_right, read_on}
use Rattle.captions.specs.Steps.{with_next, entered_at, entry_reads, gives_nothing, find_within, turn_by, turn_with, turn_at_end, turn_at_letter, turn, goes_on}
use Rattle.captions.specs.Steps.{by_next, run_on, after_op, with_nothing_next, placed, right_item_fits, right_item, ran_from, step_refusal, hand_back, stepped_by, step_of}
use Rattle.captions.specs.Runs.{answers}
use Rattle.captions.specs.Ending.{EndStays}

no : {A : Type 0} → ◌≡◌ {A = Bool} false true → A
no e = absurd (let z : ◌≡◌ {A = ℕ} 0 1 = cc in omega arith)

-- ---- what is given is no end

-- a step whose answer is an item or a refusal
data Tells : Step → Type 0 where
  character : (c p : ℕ) {s : State} → Tells (record { answer = Char c p; state = s })
  ligature : (c p n : ℕ) (a b : Bool) {s : State} → Tells (record { answer = Ligature c p n a b; state = s })
  kern : (k : ℤ) {s : State} → Tells (record { answer = Kern k; state = s })
  refusal : (n : ℕ) {s : State} → Tells (record { answer = Refused n; state = s })

-- .. is no end
no_end : {t : Step} → Tells t → t.answer ≡ End → ⊥
no_end (character c p) e = let z : ◌≡◌ {A = ℕ} 0 1 = cc in omega arith
no_end (ligature c p n a b) e = let z : ◌≡◌ {A = ℕ} 0 1 = cc in omega arith
no_end (kern k) e = let z : ◌≡◌ {A = ℕ} 0 1 = cc in omega arith
no_end (refusal n) e = let z : ◌≡◌ {A = ℕ} 0 1 = cc in omega arith

either : (b : Bool) {t u : Step} → Tells t → Tells u → Tells (cond b t u)
either true p q = p
either false p q = q

character_given : (c : ℕ) (s : State) → Tells (give_character c s)
character_given c s =
    either (eqb s.pending 0) (either (leb (s.given + 1) s.read) (character c s.given) (refusal 7))
    (either (leb (s.given + s.pending) s.read) (ligature c s.given s.pending s.pending_boundary false) (refusal 7))

ligature_given : (c : ℕ) (right : Bool) (s : State) → Tells (give_ligature c right s)
ligature_given c right s = either (leb (s.given + taken s) s.read) (ligature c s.given (taken s) (takes_boundary s) right) (refusal 7)

op_given : (ops : List ℤ) (s : State) → Tells (give_op ops s)
op_given ops s =
    either (eqb (word_of (op_kind ops s.op)) 0) (character_given (word_of (op_value ops s.op)) (after_op s))
    (either (eqb (word_of (op_kind ops s.op)) 1) (ligature_given (word_of (op_value ops s.op)) (ends_word ops (after_op s)) (after_op s))
    (kern (op_value ops s.op)))

op_read : (ops : List ℤ) (s : State) → Tells (read_op ops s)
op_read ops s = either (ops_fit ops s) (op_given ops s) (refusal 7)

-- ---- a turn that goes on

-- something is still to be given: a left character, or a last ligature
abbrev to_give : NextLeft → Bool
to_give next.Boundary = false
to_give (next.Char c) = true
to_give (next.Lig c) = true
to_give (next.FinalLig c) = true
to_give next.None = false

abbrev Later : State → Type 0
Later t = eqb t.ops 0 ≡ true → to_give t.next_left ≡ true

-- a turn that answers no end, or goes on to give something
data Quiet : Turned → Type 0 where
  gives : {t : Step} → Tells t → Quiet (Gives t)
  goes : {t : State} → Later t → Quiet (Goes t)

quiet_either : (b : Bool) {t u : Turned} → Quiet t → Quiet u → Quiet (cond b t u)
quiet_either true p q = p
quiet_either false p q = q

letter_next : (i : Item) → to_give (after_right true i) ≡ true
letter_next (item false c) = refl
letter_next (item true c) = refl

-- an entry that gives something
kept_next : (letter e f : Bool) (c : ℕ) → not (both e (not f)) ≡ true → e ≡ true → to_give (after_right letter (item f c)) ≡ true
kept_next true e f c h z = letter_next (item f c)
kept_next false e true c h z = refl
kept_next false true false c h z = no h
kept_next false false false c h z = no z

module _ (pairs ops : List ℤ) where
  by_entry : (x : NextLeft) (letter : Bool) (s : State) (k : ℕ) (b : Bool) → (b ≡ true → Later (entered_at pairs x letter s k)) →
      Quiet (cond b (Goes (entered_at pairs x letter s k)) (Gives (refused 7 s)))
  by_entry x letter s k true l = goes (l refl)
  by_entry x letter s k false l = gives (refusal 7)

  kept : (x : NextLeft) (letter : Bool) (s : State) (k : ℕ) → both (record_fits pairs ops k) (not (gives_nothing pairs k)) ≡ true →
      Later (entered_at pairs x letter s k)
  kept x letter s k h z =
      kept_next letter (eqb (count_of pairs k) 0) (last_flag pairs k) (last_code pairs k) (both_right (record_fits pairs ops k) (not (gives_nothing pairs k)) h) z

  -- a left character
  character_quiet : (c : ℕ) (letter : Bool) (y : ℕ) (s : State) (o : Option ℕ) → Quiet (turn_by pairs ops (next.Char c) letter y s o)
  character_quiet c letter y s none = gives (character_given c (with_next (after_right letter (plain y)) (read_on letter s.read) s))
  character_quiet c letter y s (some k) = by_entry (next.Char c) letter s k (entry_reads pairs ops (next.Char c) k) (kept (next.Char c) letter s k)

  ligature_quiet : (c : ℕ) (letter : Bool) (y : ℕ) (s : State) (o : Option ℕ) → Quiet (turn_by pairs ops (next.Lig c) letter y s o)
  ligature_quiet c letter y s none = gives (character_given c (with_next (after_right letter (plain y)) (read_on letter s.read) s))
  ligature_quiet c letter y s (some k) = by_entry (next.Lig c) letter s k (entry_reads pairs ops (next.Lig c) k) (kept (next.Lig c) letter s k)

  boundary_quiet : (y : ℕ) (s : State) (o : Option ℕ) → Quiet (turn_by pairs ops next.Boundary true y s o)
  boundary_quiet y s none = goes (λ _. refl)
  boundary_quiet y s (some k) =
      by_entry next.Boundary true s k (entry_reads pairs ops next.Boundary k) (λ _ _. letter_next (item (last_flag pairs k) (last_code pairs k)))

  letter_quiet : (x : NextLeft) (y : ℕ) (s : State) → Quiet (turn_with pairs ops x true y s) → Quiet (turn_at_letter pairs ops x y s)
  letter_quiet x y s q = quiet_either (is_letter y) q (gives (refusal 20))

  end_character : (c : ℕ) (s : State) (o : Option ℕ) → Quiet (turn_at_end pairs ops o (next.Char c) s)
  end_character c s none = gives (character_given c (with_next next.None s.read s))
  end_character c s (some r) = character_quiet c false r s (find_within pairs (suc c) r)

  end_ligature : (c : ℕ) (s : State) (o : Option ℕ) → Quiet (turn_at_end pairs ops o (next.Lig c) s)
  end_ligature c s none = gives (character_given c (with_next next.None s.read s))
  end_ligature c s (some r) = ligature_quiet c false r s (find_within pairs (suc c) r)

-- ---- all turns

-- a step that answers the end leaves the state s
abbrev Unmoved : State → Step → Type 0
Unmoved s t = t.answer ≡ End → t.state ≡ s

tells : {s : State} {t : Step} → Tells t → Unmoved s t
tells h e = absurd (no_end h e)

module _ (pairs ops : List ℤ) (right : Option ℕ) (word : List ℕ) where
  abbrev look : NextLeft → State → Turned
  look = turn pairs ops right word

  look_character : (c : ℕ) (s : State) → Quiet (look (next.Char c) s)
  look_character c s =
      let y = get_or word s.read 0 in
      quiet_either (ltb s.read (length word))
      (letter_quiet pairs ops (next.Char c) y s (character_quiet pairs ops c true y s (find_within pairs (suc c) y))) (end_character pairs ops c s right)

  look_ligature : (c : ℕ) (s : State) → Quiet (look (next.Lig c) s)
  look_ligature c s =
      let y = get_or word s.read 0 in
      let g = longer s in
      quiet_either (ltb s.read (length word)) (letter_quiet pairs ops (next.Lig c) y g (ligature_quiet pairs ops c true y g (find_within pairs (suc c) y)))
      (end_ligature pairs ops c g right)

  module _ (go : State → Step) (later : (t : State) → Later t → Tells (go t)) where
    onward-quiet : {t : Turned} → Quiet t → Tells (goes_on go t)
    onward-quiet (gives h) = h
    onward-quiet (goes {t = t} l) = later t l

    next-later : (s : State) (b : Bool) (x : NextLeft) → (b ≡ true → to_give x ≡ true) → Tells (cond b (by_next look go s x) (read_op ops s))
    next-later s false x l = op_read ops s
    next-later s true next.Boundary l = no (l refl)
    next-later s true (next.Char c) l = onward-quiet (look_character c s)
    next-later s true (next.Lig c) l = onward-quiet (look_ligature c s)
    next-later s true (next.FinalLig c) l = ligature_given c true (with_nothing_next s)
    next-later s true next.None l = no (l refl)

    boundary-unmoved : (s : State) (b : Bool) →
        Unmoved s (goes_on go (cond b (turn_at_letter pairs ops next.Boundary (get_or word s.read 0) s) (turn_at_end pairs ops right next.Boundary s)))
    boundary-unmoved s true =
        let y = get_or word s.read 0 in
        tells (onward-quiet (letter_quiet pairs ops next.Boundary y s (boundary_quiet pairs ops y s (find_within pairs 0 y))))
    boundary-unmoved s false = λ _. refl

    next-unmoved : (s : State) (b : Bool) (x : NextLeft) → Unmoved s (cond b (by_next look go s x) (read_op ops s))
    next-unmoved s false x = tells (op_read ops s)
    next-unmoved s true next.Boundary = boundary-unmoved s (ltb s.read (length word))
    next-unmoved s true (next.Char c) = tells (onward-quiet (look_character c s))
    next-unmoved s true (next.Lig c) = tells (onward-quiet (look_ligature c s))
    next-unmoved s true (next.FinalLig c) = tells (ligature_given c true (with_nothing_next s))
    next-unmoved s true next.None = λ _. refl

  run_later : (n : ℕ) (s : State) → Later s → Tells (run_on ops look n s)
  unfolding run_on
  run_later zero s l = next-later (refused 7) (λ _ _. refusal 7) s (eqb s.ops 0) s.next_left l
  run_later (suc n) s l = next-later (run_on ops look n) (run_later n) s (eqb s.ops 0) s.next_left l

  run_unmoved : (n : ℕ) (s : State) → Unmoved s (run_on ops look n s)
  unfolding run_on
  run_unmoved zero s = next-unmoved (refused 7) (λ _ _. refusal 7) s (eqb s.ops 0) s.next_left
  run_unmoved (suc n) s = next-unmoved (run_on ops look n) (run_later n) s (eqb s.ops 0) s.next_left

  ran_by : (b t : Bool) (s : State) → Unmoved s (cond b (cond t (run_on ops look (suc (length word - s.read)) s) (refused 20 s)) (refused 7 s))
  ran_by true true s = run_unmoved (suc (length word - s.read)) s
  ran_by true false s = tells (refusal 20)
  ran_by false t s = tells (refusal 7)

-- ---- the step

handed : (s t : State) (a : Answer) → (a ≡ End → t ≡ s) → Unmoved s (hand_back s t a)
handed s t (Char c p) h = tells (character c p)
handed s t (Ligature c p n a b) h = tells (ligature c p n a b)
handed s t (Kern k) h = tells (kern k)
handed s t End h = h
handed s t (Refused n) h = tells (refusal n)

stepped : (n : ℕ) (s : State) (t : Step) → Unmoved s t → Unmoved s (stepped_by n s t)
stepped zero s t h = handed s t.state t.answer h
stepped (suc n) s t h = tells (refusal (suc n))

module _ (pairs ops : List ℤ) (boundary : ℤ) (word : List ℕ) (options : RunOptions) (s : State) where
  abbrev right : Option ℕ
  right = right_item boundary options.right_boundary_override

  unmoves : Unmoved s (step_of pairs ops boundary word options s)
  unmoves =
      stepped (step_refusal boundary word options) s (ran_from pairs ops right word s) (ran_by pairs ops right word (placed ops word s) (right_item_fits right) s)

  module _ (e : (step_of pairs ops boundary word options s).answer ≡ End) where
    ends-for-ever : (n : ℕ) → answers pairs ops boundary word options n s ≡ replicate n End
    unfolding answers
    ends-for-ever zero = refl
    ends-for-ever (suc n) = rw (e, unmoves e, ends-for-ever n) refl

pub end_stays : EndStays
end_stays pairs ops boundary word options s e =
    let u = unmoves pairs ops boundary word options s e in
    (u, λ n. rw u (ends-for-ever pairs ops boundary word options s e n))
