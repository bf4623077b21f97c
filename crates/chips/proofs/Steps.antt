-- What any step answers, whatever the table and the state: no ligature's original is longer than the word, and no refusal is 0.
-- Assumes nothing.
use mathlib.Core.Path.{◌≡◌, refl}
use mathlib.Core.Bool.{Bool, true, false, cond}
use mathlib.Core.List.{List}
use mathlib.Core.Option.{Option, none, some}
use Prim.Native.Nat.{ℕ, zero, suc, ◌+◌, ◌-◌, ◌≤◌}
use native.Mathlib.Omega.{arith}
use lib.IntN.{ℤ}
use lib.Dec.{ltb, leb, eqb}
use lib.ListN.{length, get_or}
use borrow.Author.Tests.{ltb-true, leb-true, le-leb}
use Rattle.words.specs.Words.{word_of}
use Rattle.lang.specs.Checks.{is_letter}
use Rattle.lang.proofs.Every.{both_left}
use Rattle.reading.specs.Items.{plain}
use Rattle.captions.specs.declared.RunOptions.{RunOptions}
use Rattle.captions.specs.declared.NextLeft.{NextLeft}
use Rattle.captions.specs.declared.NextLeft.TheVariants as next
use Rattle.captions.specs.declared.State.{State}
use Rattle.captions.specs.declared.Answer.{Answer}
use Rattle.captions.specs.declared.Answer.TheVariants.{Char, Ligature, Kern, End, Refused}
use Rattle.captions.specs.declared.Step.{Step}
use Rattle.captions.specs.declared.Turned.{Turned}
use Rattle.captions.specs.declared.Turned.TheVariants.{Gives, Goes}
use Rattle.captions.specs.Tables.{op_kind, op_value}
use Rattle.captions.specs.Steps.{refused, taken, takes_boundary, settled, give_item, give_character, give_ligature, after_op, ends_word, ops_fit, read_op}
use Rattle.captions.specs.Steps.{gathered, left_place_of, after_right, read_on, with_next, give_left, entry_reads, find_within, turn_by, turn_at_end, turn_at_letter, turn}
use Rattle.captions.specs.Steps.{goes_on, with_nothing_next, by_next, step_by, run_on}
use Rattle.captions.specs.Steps.{placed, right_item_fits, right_item, ran_from, step_refusal, hand_back, stepped_by, step_of}
use Rattle.chips.specs.Commands.{item_stands, answer_number}

-- an answer: an original of at most k letters, and a refusal that is not 0
pub data Fit (k : ℕ) : Step → Type 0 where
  character : (c p : ℕ) {s : State} → Fit k (record { answer = Char c p; state = s })
  ligature : (c p n : ℕ) (a b : Bool) {s : State} → n ≤ k → Fit k (record { answer = Ligature c p n a b; state = s })
  kern : (v : ℤ) {s : State} → Fit k (record { answer = Kern v; state = s })
  over : {s : State} → Fit k (record { answer = End; state = s })
  refusal : (n : ℕ) {s : State} → Fit k (record { answer = Refused (suc n); state = s })

-- a turn that answers so, or goes on within the word
data Sound (k : ℕ) : Turned → Type 0 where
  gives : {t : Step} → Fit k t → Sound k (Gives t)
  goes : {s : State} → s.read ≤ k → Sound k (Goes s)

gathered_read : (x : NextLeft) (s : State) → (gathered x s).read ≡ s.read
gathered_read next.Boundary s = refl
gathered_read (next.Char c) s = refl
gathered_read (next.Lig c) s = refl
gathered_read (next.FinalLig c) s = refl
gathered_read next.None s = refl

module _ (k : ℕ) where
  either : (b : Bool) {t u : Step} → (b ≡ true → Fit k t) → (b ≡ false → Fit k u) → Fit k (cond b t u)
  either true p q = p refl
  either false p q = q refl

  sound_either : (b : Bool) {t u : Turned} → (b ≡ true → Sound k t) → (b ≡ false → Sound k u) → Sound k (cond b t u)
  sound_either true p q = p refl
  sound_either false p q = q refl

  -- ---- giving an item

  item_fits : (a : Answer) (m : ℕ) (s : State) → s.read ≤ k → (m ≤ k → Fit k (record { answer = a; state = settled m s })) → Fit k (give_item a m s)
  item_fits a m s r h =
      either (leb (s.given + m) s.read) (λ e. h (omega (arith, leb-true (s.given + m) s.read e, r))) (λ _. refusal 6)

  character_fits : (c : ℕ) (s : State) → s.read ≤ k → Fit k (give_character c s)
  character_fits c s r =
      either (eqb s.pending 0) (λ _. item_fits (Char c s.given) 1 s r (λ _. character c s.given))
      (λ _. item_fits (Ligature c s.given s.pending s.pending_boundary false) s.pending s r
      (λ h. ligature c s.given s.pending s.pending_boundary false h))

  ligature_fits : (c : ℕ) (right : Bool) (s : State) → s.read ≤ k → Fit k (give_ligature c right s)
  ligature_fits c right s r =
      item_fits (Ligature c s.given (taken s) (takes_boundary s) right) (taken s) s r
      (λ h. ligature c s.given (taken s) (takes_boundary s) right h)

  op_fits : (ops : List ℤ) (s : State) → s.read ≤ k → Fit k (read_op ops s)
  op_fits ops s r =
      let n = word_of (op_kind ops s.op) in
      let c = word_of (op_value ops s.op) in
      either (ops_fit ops s)
      (λ _. either (eqb n 0) (λ _. character_fits c (after_op s) r)
      (λ _. either (eqb n 1) (λ _. ligature_fits c (ends_word ops (after_op s)) (after_op s) r) (λ _. kern (op_value ops s.op))))
      (λ _. refusal 6)

  -- ---- a turn

  left_sound : (x : NextLeft) (s : State) → s.read ≤ k → Sound k (give_left x s)
  left_sound next.Boundary s r = goes r
  left_sound (next.Char c) s r = gives (character_fits c s r)
  left_sound (next.Lig c) s r = gives (character_fits c s r)
  left_sound (next.FinalLig c) s r = goes r
  left_sound next.None s r = goes r

  module _ (pairs ops : List ℤ) where
    with-sound : (x : NextLeft) (letter : Bool) (y : ℕ) (s : State) → read_on letter s.read ≤ k → (p : Option ℕ) → Sound k (turn_by pairs ops x letter y s p)
    with-sound x letter y s r none = left_sound x (with_next (after_right letter (plain y)) (read_on letter s.read) s) r
    with-sound x letter y s r (some p) = sound_either (entry_reads pairs ops x p) (λ _. goes r) (λ _. gives (refusal 6))

    end-sound : (q : Option ℕ) (x : NextLeft) (s : State) → s.read ≤ k → Sound k (turn_at_end pairs ops q x s)
    end-sound q next.Boundary s r = gives over
    end-sound none (next.Char c) s r = left_sound (next.Char c) (with_next next.None s.read s) r
    end-sound (some y) (next.Char c) s r = with-sound (next.Char c) false y s r (find_within pairs (suc c) y)
    end-sound none (next.Lig c) s r = left_sound (next.Lig c) (with_next next.None s.read s) r
    end-sound (some y) (next.Lig c) s r = with-sound (next.Lig c) false y s r (find_within pairs (suc c) y)
    end-sound q (next.FinalLig c) s r = gives over
    end-sound q next.None s r = gives over

    letter-sound : (x : NextLeft) (y : ℕ) (s : State) → suc s.read ≤ k → Sound k (turn_at_letter pairs ops x y s)
    letter-sound x y s r = sound_either (is_letter y) (λ _. with-sound x true y s r (find_within pairs (left_place_of x) y)) (λ _. gives (refusal 19))

    turn-sound : (q : Option ℕ) (word : List ℕ) → length word ≡ k → (x : NextLeft) (s : State) → s.read ≤ k → Sound k (turn pairs ops q word x s)
    turn-sound q word l x s r =
        let g = gathered_read x s in
        sound_either (ltb s.read (length word))
        (λ e. letter-sound x (get_or word s.read 0) (gathered x s) (omega (arith, g, l, ltb-true s.read (length word) e)))
        (λ _. end-sound q x (gathered x s) (omega (arith, g, r)))

    -- ---- turns until one answers

    module _ (look : NextLeft → State → Turned) (sound : (x : NextLeft) (s : State) → s.read ≤ k → Sound k (look x s)) where
      on_fits : (go : State → Step) → ((s : State) → s.read ≤ k → Fit k (go s)) → {x : Turned} → Sound k x → Fit k (goes_on go x)
      on_fits go h (gives f) = f
      on_fits go h (goes {s = s} r) = h s r

      next_fits : (go : State → Step) → ((s : State) → s.read ≤ k → Fit k (go s)) → (s : State) → s.read ≤ k → (x : NextLeft) → Fit k (by_next look go s x)
      next_fits go h s r next.Boundary = on_fits go h (sound next.Boundary s r)
      next_fits go h s r (next.Char c) = on_fits go h (sound (next.Char c) s r)
      next_fits go h s r (next.Lig c) = on_fits go h (sound (next.Lig c) s r)
      next_fits go h s r (next.FinalLig c) = ligature_fits c true (with_nothing_next s) r
      next_fits go h s r next.None = over

      by_fits : (go : State → Step) → ((s : State) → s.read ≤ k → Fit k (go s)) → (s : State) → s.read ≤ k → Fit k (step_by ops look go s)
      by_fits go h s r = either (eqb s.ops 0) (λ _. next_fits go h s r s.next_left) (λ _. op_fits ops s r)

      run_fits : (n : ℕ) (s : State) → s.read ≤ k → Fit k (run_on ops look n s)
      unfolding run_on
      run_fits zero s r = by_fits (refused 7) (λ _ _. refusal 6) s r
      run_fits (suc n) s r = by_fits (run_on ops look n) (run_fits n) s r

-- ---- the step

handed : (k : ℕ) (s : State) {t : Step} → Fit k t → Fit k (hand_back s t.state t.answer)
handed k s (character c p) = character c p
handed k s (ligature c p n a b h) = ligature c p n a b h
handed k s (kern v) = kern v
handed k s over = over
handed k s (refusal n) = refusal n

stepped : (k n : ℕ) (s : State) {t : Step} → Fit k t → Fit k (stepped_by n s t)
stepped k zero s f = handed k s f
stepped k (suc n) s f = refusal n

module _ (pairs ops : List ℤ) (boundary : ℤ) (word : List ℕ) (options : RunOptions) (s : State) where
  abbrev right : Option ℕ
  right = right_item boundary options.right_boundary_override

  ran_fits : Fit (length word) (ran_from pairs ops right word s)
  ran_fits =
      either (length word) (placed ops word s)
      (λ e. either (length word) (right_item_fits right)
      (λ _. run_fits (length word) pairs ops (turn pairs ops right word) (turn-sound (length word) pairs ops right word refl)
      (suc (length word - s.read)) s (leb-true s.read (length word) (both_left (leb s.read (length word)) _ e)))
      (λ _. refusal 19))
      (λ _. refusal 6)

  pub step_fits : Fit (length word) (step_of pairs ops boundary word options s)
  step_fits = stepped (length word) (step_refusal boundary word options) s ran_fits

-- ---- what is known of a step that is not refused

pub stands : {k : ℕ} {t : Step} → Fit k t → k ≤ 64 → answer_number t.answer ≡ 0 → item_stands t.answer ≡ true
stands (character c p) l z = refl
stands (ligature c p n a b h) l z = le-leb n 64 (omega (arith, h, l))
stands (kern v) l z = refl
stands over l z = refl
stands (refusal n) l z = absurd (omega (arith, z))
