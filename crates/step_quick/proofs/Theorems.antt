-- The quick path gives what the step gives: specs/Purpose. Each is one unfolding of `step_of`, by the tests that hold.
-- Assumes nothing.
use mathlib.Core.Path.{◌≡◌, refl, sym, ap, ap₂, ◌∙◌}
use mathlib.Core.Bool.{Bool, true, false, cond}
use mathlib.Core.List.{List}
use mathlib.Core.Option.{Option, none, some}
use Prim.Native.Nat.{ℕ, zero, suc, ◌+◌, ◌-◌, ◌<◌, ◌≤◌}
use native.Mathlib.Omega.{arith}
use lib.IntN.{ℤ, pos, negsuc}
use lib.Dec.{ltb, leb, eqb}
use lib.ListN.{length, get_or}
use borrow.Author.Tests.{ltb-true, lt-ltb, leb-true, le-ltb, le-leb, eqb-true, eq-eqb, ne_eqb}
use Rattle.words.specs.Words.{word_of}
use Rattle.lang.specs.Every.{both}
use Rattle.lang.specs.Records.{within, absent_or}
use Rattle.lang.specs.Checks.{absent_refusal}
use Rattle.lang.proofs.Every.{both_left, both_right}
use Rattle.lang.proofs.Records.{within_bound}
use Rattle.lang.proofs.Refusals.{or_else_none, unless_none}
use Rattle.lang.proofs.Checks.{letter_low}
use Rattle.reading.specs.Items.{item}
use Rattle.captions.specs.declared.RunOptions.{RunOptions}
use Rattle.captions.specs.declared.NextLeft.{NextLeft}
use Rattle.captions.specs.declared.NextLeft.TheVariants as next
use Rattle.captions.specs.declared.Consumes.TheVariants as consumes
use Rattle.captions.specs.declared.State.{State}
use Rattle.captions.specs.declared.Answer.TheVariants.{Char, Kern}
use Rattle.captions.specs.declared.Step.{Step}
use Rattle.captions.specs.declared.Turned.{Turned}
use Rattle.captions.specs.declared.Turned.TheVariants.{Gives, Goes}
use Rattle.captions.specs.Tables.{pair_count, op_count, number, op_kind, op_value, key_by, find, first_op, count_of, last_code, last_flag, op_holds, record_fits}
use Rattle.captions.specs.Begin.{edges_refusal, word_refusal}
use Rattle.captions.specs.Demand3.{override_fits}
use Rattle.captions.specs.Steps.{refused, after_op, after_right, settled, give_character, ops_fit, read_op, with_next, entered_at, entry_reads, turn_by, right_item, turn}
use Rattle.captions.specs.Steps.{goes_on, by_next, run_on, ops_placed, next_fits, placed, right_item_fits, ran_from, step_refusal, hand_back, stepped_by, step_of}
use Rattle.captions.proofs.Finding.{find_inside}
use Rattle.captions.proofs.Beyond.{looks_up_within}
use Rattle.captions.proofs.Running.{right_item_lem}
use Rattle.step_items.proofs.Laws.{item_given, character_plain, op_character, op_kern, op_fit}
use Rattle.step_quick.specs.Quick.{plain_code, next_letter, is_calm, is_taken, is_plain, has_letter, is_quick, quick_left, is_kern, place_or, found_place}
use Rattle.step_quick.specs.Quick.{first_plain, is_entered, is_ready, given_plain, given_first, quick_step, given_kern}
use Rattle.step_quick.specs.Purpose.{QuickPasses, QuickEnters, QuickSteps, QuickKerns}

no : {A : Type 0} → ◌≡◌ {A = Bool} false true → A
no e = absurd (let z : ◌≡◌ {A = ℕ} 0 1 = cc in omega arith)

-- ---- what the tests say

pub plain_char : (x : NextLeft) → leb (plain_code x) 255 ≡ true → x ≡ next.Char (plain_code x)
plain_char next.Boundary h = no h
plain_char (next.Char c) h = refl
plain_char (next.Lig c) h = no h
plain_char (next.FinalLig c) h = no h
plain_char next.None h = no h

-- an override up to 255 is -1 or a letter
override_letter : (z : ℤ) → absent_or 255 z ≡ true → override_fits z ≡ true
override_letter (pos m) h = letter_low m (omega (arith, leb-true m 255 h))
override_letter (negsuc m) h = h

-- a step refuses nothing before it looks a left up or reads an op
pub record Calm (ops : List ℤ) (boundary : ℤ) (word : List ℕ) (options : RunOptions) (s : State) : Type 0 where
  pub nothing : s.pending ≡ 0
  pub code : plain_code s.next_left ≤ 255
  pub is : s.next_left ≡ next.Char (plain_code s.next_left)
  pub inside : placed ops word s ≡ true
  pub taken : step_refusal boundary word options ≡ 0
  pub override : absent_or 255 options.right_boundary_override ≡ true

pub record Quick (ops : List ℤ) (boundary : ℤ) (word : List ℕ) (options : RunOptions) (s : State) : Type 0 where
  pub none : s.ops ≡ 0
  pub there : s.read < length word
  pub waits : s.given < s.read
  pub letter : leb (next_letter word s) 255 ≡ true
  pub calm : Calm ops boundary word options s

module _ (ops : List ℤ) (boundary : ℤ) (word : List ℕ) (options : RunOptions) (s : State) where
  pub calm_is : is_plain ops boundary word options s ≡ true → Calm ops boundary word options s
  calm_is h =
      let over = absent_or 255 options.right_boundary_override in
      let none = eqb (step_refusal boundary word options) 0 in
      let a = both_left (is_calm ops word s) (is_taken boundary word options) h in
      let t = both_right (is_calm ops word s) (is_taken boundary word options) h in
      let b = both_right (eqb s.pending 0) (both (leb (plain_code s.next_left) 255) (placed ops word s)) a in
      let c = both_left (leb (plain_code s.next_left) 255) (placed ops word s) b in
      record {
        nothing = eqb-true s.pending 0 (both_left (eqb s.pending 0) (both (leb (plain_code s.next_left) 255) (placed ops word s)) a);
        code = leb-true (plain_code s.next_left) 255 c;
        is = plain_char s.next_left c;
        inside = both_right (leb (plain_code s.next_left) 255) (placed ops word s) b;
        taken = eqb-true (step_refusal boundary word options) 0 (both_right over none t);
        override = both_left over none t;
      }

  -- the ops that are to be given are among the ops
  pub placed_among : Calm ops boundary word options s → s.op + s.ops ≤ op_count ops
  placed_among d =
      leb-true (s.op + s.ops) (op_count ops)
      (both_right (leb (op_count ops) 2147483647) _
      (both_left (ops_placed ops s) (next_fits s.next_left)
      (both_right (leb s.pending s.read) _
      (both_right (leb s.given s.read) _ (both_right (leb s.read (length word)) _ d.inside)))))

  -- an i32 counts the ops
  pub placed_few : Calm ops boundary word options s → leb (op_count ops) 2147483647 ≡ true
  placed_few d =
      both_left (leb (op_count ops) 2147483647) _
      (both_left (ops_placed ops s) (next_fits s.next_left)
      (both_right (leb s.pending s.read) _
      (both_right (leb s.given s.read) _ (both_right (leb s.read (length word)) _ d.inside))))

  pub quick_is : is_quick ops boundary word options s ≡ true → Quick ops boundary word options s
  quick_is h =
      let p = is_plain ops boundary word options s in
      let l = leb (next_letter word s) 255 in
      let a = both_right (eqb s.ops 0) (both (has_letter word s) (both l p)) h in
      let b = both_left (has_letter word s) (both l p) a in
      let d = both_right (has_letter word s) (both l p) a in
      record {
        none = eqb-true s.ops 0 (both_left (eqb s.ops 0) (both (has_letter word s) (both l p)) h);
        there = ltb-true s.read (length word) (both_left (ltb s.read (length word)) (ltb s.given s.read) b);
        waits = ltb-true s.given s.read (both_right (ltb s.read (length word)) (ltb s.given s.read) b);
        letter = both_left l p d;
        calm = calm_is (both_right l p d);
      }

-- ---- the step, from the turns that it takes

module _ (pairs ops : List ℤ) (boundary : ℤ) (word : List ℕ) (options : RunOptions) (s : State) where
  abbrev look : NextLeft → State → Turned
  look = turn pairs ops (right_item boundary options.right_boundary_override) word

  -- the right item is a letter
  right_is : Calm ops boundary word options s → right_item_fits (right_item boundary options.right_boundary_override) ≡ true
  right_is h =
      let e = (or_else_none (edges_refusal boundary options) (word_refusal word) h.taken).0 in
      let b = (or_else_none (absent_refusal 255 boundary) (absent_refusal 2147483647 options.right_boundary_override) e).0 in
      right_item_lem boundary options.right_boundary_override (unless_none 3 (absent_or 255 boundary) b)
      (override_letter options.right_boundary_override h.override)

  stepped : Calm ops boundary word options s → (t : Step) → run_on ops look (suc (length word - s.read)) s ≡ t →
      step_of pairs ops boundary word options s ≡ hand_back s t.state t.answer
  stepped h t e =
      ap (λ (n : ℕ). stepped_by n s (ran_from pairs ops (right_item boundary options.right_boundary_override) word s)) h.taken
      ∙ ap (λ (u : Step). hand_back s u.state u.answer)
      (ap₂ (λ (b t : Bool). cond b (cond t (run_on ops look (suc (length word - s.read)) s) (refused 20 s)) (refused 7 s)) h.inside (right_is h) ∙ e)

  -- an op is given
  run_op : (n : ℕ) (u : State) → (u.ops ≡ 0 → ⊥) → run_on ops look n u ≡ read_op ops u
  unfolding run_on
  run_op zero u h = rw (ne_eqb u.ops 0 h)
  run_op (suc n) u h = rw (ne_eqb u.ops 0 h)

  -- a character is looked up with the letter right of it
  abbrev c : ℕ
  c = plain_code s.next_left

  abbrev y : ℕ
  y = next_letter word s

  run_next : (n : ℕ) → s.ops ≡ 0 → run_on ops look (suc n) s ≡ by_next look (run_on ops look n) s s.next_left
  unfolding run_on
  run_next n e = rw (eq-eqb s.ops 0 e)

  looks : Quick ops boundary word options s → look (next.Char c) s ≡ turn_by pairs ops (next.Char c) true y s (find pairs (key_by (suc c) y))
  looks q =
      let small = leb-true y 255 q.letter in
      rw (lt-ltb s.read (length word) q.there, letter_low y (omega (arith, small)))
      (ap (turn_by pairs ops (next.Char c) true y s) (looks_up_within pairs (suc c) y (omega (arith, q.calm.code)) small))

  run_look : Quick ops boundary word options s → (n : ℕ) (o : Option ℕ) → find pairs (key_by (suc c) y) ≡ o →
      run_on ops look (suc n) s ≡ goes_on (run_on ops look n) (turn_by pairs ops (next.Char c) true y s o)
  run_look q n o e =
      run_next n q.none
      ∙ ap (by_next look (run_on ops look n) s) q.calm.is
      ∙ ap (goes_on (run_on ops look n)) (looks q ∙ ap (turn_by pairs ops (next.Char c) true y s) e)

  -- a character that is given: nothing is pending, and its letter was read
  gives : (v : ℕ) (u : State) → u.pending ≡ 0 → u.given + 1 ≤ u.read → give_character v u ≡ record { answer = Char v u.given; state = settled 1 u }
  gives v u e h = character_plain v u e ∙ item_given (Char v u.given) 1 u h

  pub passes : is_quick ops boundary word options s ≡ true → find pairs (key_by (suc c) y) ≡ none → step_of pairs ops boundary word options s ≡ given_plain word s
  passes h e =
      let q = quick_is ops boundary word options s h in
      let u = with_next (next.Char y) (suc s.read) s in
      let g : s.given + 1 ≡ suc s.given = omega arith in
      let w : s.given + 1 ≤ suc s.read = omega (arith, q.waits) in
      stepped q.calm (record { answer = Char c s.given; state = settled 1 u })
      (run_look q (length word - s.read) none e ∙ gives c u q.calm.nothing w)
      ∙ (λ i. record {
        answer = Char c s.given;
        state = record {
          next_left = next.Char y;
          op = s.op;
          ops = q.none i;
          read = suc s.read;
          given = g i;
          pending = 0;
          pending_boundary = false;
          consumes_left = consumes.Nothing;
        };
      })

  -- ---- an entry whose first op is a character

  module _ (k : ℕ) (e : is_entered pairs ops k ≡ true) where
    abbrev first : ℕ
    first = first_op pairs k

    abbrev count : ℕ
    count = count_of pairs k

    fits : record_fits pairs ops k ≡ true
    fits = both_left (record_fits pairs ops k) (first_plain ops first count) e

    rest : both (eqb (word_of (op_kind ops first)) 0) (both (op_holds ops first) (cond (leb 2 count) (op_holds ops (suc first)) true)) ≡ true
    rest = both_right (ltb 0 count) _ (both_right (record_fits pairs ops k) (first_plain ops first count) e)

    some-ops : 0 < count
    some-ops = ltb-true 0 count (both_left (ltb 0 count) _ (both_right (record_fits pairs ops k) (first_plain ops first count) e))

    kind : word_of (op_kind ops first) ≡ 0
    kind = eqb-true (word_of (op_kind ops first)) 0 (both_left (eqb (word_of (op_kind ops first)) 0) _ rest)

    holds : both (op_holds ops first) (cond (leb 2 count) (op_holds ops (suc first)) true) ≡ true
    holds = both_right (eqb (word_of (op_kind ops first)) 0) _ rest

    among : first + count ≤ op_count ops
    among =
        leb-true (first + count) (op_count ops)
        (both_right (cond (last_flag pairs k) true (eqb (last_code pairs k) (word_of (number pairs k 1)))) _
        (both_right (within 1 (number pairs k 3)) _ (both_right (within 255 (number pairs k 2)) _ fits)))

    -- the op that is given and the one after it can be read
    read_by : (a b t : Bool) → leb 2 count ≡ t → both a (cond t b true) ≡ true →
        both (both (ltb first (op_count ops)) a) (cond t (both (ltb (suc first) (op_count ops)) b) true) ≡ true
    read_by true true true l h =
        rw (lt-ltb first (op_count ops) (omega (arith, some-ops, among)), lt-ltb (suc first) (op_count ops) (omega (arith, leb-true 2 count l, among)))
    read_by true false true l h = no h
    read_by true b false l h = rw (lt-ltb first (op_count ops) (omega (arith, some-ops, among)))
    read_by false b t l h = no h

    entry_reads_lem : entry_reads pairs ops (next.Char c) k ≡ true
    entry_reads_lem = rw (fits, ne_eqb count 0 (λ z. omega (arith, z, some-ops)))

    abbrev u : State
    u = entered_at pairs (next.Char c) true s k

    pub enters : is_quick ops boundary word options s ≡ true → find pairs (key_by (suc c) y) ≡ some k →
        step_of pairs ops boundary word options s ≡ given_first pairs ops k s
    enters h f =
        let q = quick_is ops boundary word options s h in
        let n = length word - s.read in
        let g : s.given + 1 ≡ suc s.given = omega arith in
        let w : s.given + 1 ≤ suc s.read = omega (arith, q.waits) in
        let v = word_of (op_value ops first) in
        stepped q.calm (record { answer = Char v s.given; state = settled 1 (after_op u) })
        (run_look q n (some k) f
        ∙ ap (λ (b : Bool). goes_on (run_on ops look n) (cond b (Goes u) (Gives (refused 7 s)))) entry_reads_lem
        ∙ run_op n u (λ z. omega (arith, z, some-ops))
        ∙ op_fit ops u (read_by (op_holds ops first) (op_holds ops (suc first)) (leb 2 count) refl holds)
        ∙ op_character ops u kind
        ∙ gives v (after_op u) q.calm.nothing w)
        ∙ (λ i. record {
          answer = Char v s.given;
          state = record {
            next_left = after_right true (item (last_flag pairs k) (last_code pairs k));
            op = suc first;
            ops = count - 1;
            read = suc s.read;
            given = g i;
            pending = 0;
            pending_boundary = false;
            consumes_left = consumes.Nothing;
          };
        })

  -- ---- by the place that was found

  has_letter_lem : Quick ops boundary word options s → has_letter word s ≡ true
  has_letter_lem q = rw (lt-ltb s.read (length word) q.there, lt-ltb s.given s.read q.waits)

  steps_by : (o : Option ℕ) → is_quick ops boundary word options s ≡ true → find pairs (key_by (suc c) y) ≡ o →
      is_ready pairs ops (place_or (pair_count pairs) o) ≡ true →
      step_of pairs ops boundary word options s ≡ quick_step pairs ops word (place_or (pair_count pairs) o) s
  steps_by none h f r = rw (has_letter_lem (quick_is ops boundary word options s h), le-ltb (pair_count pairs) (pair_count pairs) (omega arith)) (passes h f)
  steps_by (some k) h f r =
      let i = lt-ltb k (pair_count pairs) (find_inside pairs (key_by (suc c) y) k f).0 in
      rw (has_letter_lem (quick_is ops boundary word options s h), i) (enters k (rw i at r) h f)

  pub steps : (k : ℕ) → is_quick ops boundary word options s ≡ true → k ≡ found_place pairs (suc c) y → is_ready pairs ops k ≡ true →
      step_of pairs ops boundary word options s ≡ quick_step pairs ops word k s
  steps k h e r = steps_by (find pairs (key_by (suc c) y)) h refl (rw e at r) ∙ ap (λ (j : ℕ). quick_step pairs ops word j s) (sym e)

  -- ---- a last kern

  kern_holds : (z : ℤ) (t b : Bool) → word_of z ≡ 2 → within 1 z ≡ t → cond t b (eqb (word_of z) 2) ≡ true
  kern_holds z true b e h = absurd (omega (arith, within_bound 1 z h))
  kern_holds z false b e h = eq-eqb (word_of z) 2 e

  pub kern_gives : is_kern ops boundary word options s ≡ true → step_of pairs ops boundary word options s ≡ given_kern ops s
  kern_gives h =
      let o = op_kind ops s.op in
      let one : s.ops ≡ 1 = eqb-true s.ops 1 (both_left (eqb s.ops 1) _ h) in
      let p = both_right (eqb s.ops 1) (both (is_plain ops boundary word options s) (eqb (word_of o) 2)) h in
      let d = calm_is ops boundary word options s (both_left (is_plain ops boundary word options s) (eqb (word_of o) 2) p) in
      let two : word_of o ≡ 2 = eqb-true (word_of o) 2 (both_right (is_plain ops boundary word options s) (eqb (word_of o) 2) p) in
      let m : s.op < op_count ops = omega (arith, one, placed_among ops boundary word options s d) in
      let l = lt-ltb s.op (op_count ops) m in
      let f : ops_fit ops s ≡ true = rw (l, kern_holds o (within 1 o) (within 255 (op_value ops s.op)) two refl, one) in
      rw l
      (stepped d (record { answer = Kern (op_value ops s.op); state = after_op s })
      (run_op (suc (length word - s.read)) s (λ z. omega (arith, z, one))
      ∙ op_fit ops s f
      ∙ op_kern ops s (λ z. omega (arith, z, two)) (λ z. omega (arith, z, two))))

pub quick_passes : QuickPasses
quick_passes = passes

pub quick_enters : QuickEnters
quick_enters pairs ops boundary word options s k h f e = enters pairs ops boundary word options s k e h f

pub quick_steps : QuickSteps
quick_steps = steps

pub quick_kerns : QuickKerns
quick_kerns = kern_gives

-- a left that is not 0 is a quick state's
pub left_quick : (ops : List ℤ) (boundary : ℤ) (word : List ℕ) (options : RunOptions) (s : State) (l : ℕ) →
    l ≡ quick_left ops boundary word options s → (l ≡ 0 → ⊥) → (is_quick ops boundary word options s ≡ true) × (l ≡ suc (plain_code s.next_left))
left_quick ops boundary word options s l e h = go (is_quick ops boundary word options s) e
  where
    go : (b : Bool) → l ≡ cond b (suc (plain_code s.next_left)) 0 → (b ≡ true) × (l ≡ suc (plain_code s.next_left))
    go true f = (refl, f)
    go false f = absurd (h f)

-- a quick state that gives its character as it stands leaves a quick state, where another letter in range comes next
pub quick_moves : (ops : List ℤ) (boundary : ℤ) (word : List ℕ) (options : RunOptions) (s : State) →
    is_quick ops boundary word options s ≡ true → suc s.read < length word → leb (get_or word (suc s.read) 0) 255 ≡ true →
    is_quick ops boundary word options (given_plain word s).state ≡ true
quick_moves ops boundary word options s h l e =
    let q = quick_is ops boundary word options s h in
    let d = q.calm in
    rw (
      lt-ltb (suc s.read) (length word) l,
      lt-ltb (suc s.given) (suc s.read) (omega (arith, q.waits)),
      e,
      q.letter,
      letter_low (next_letter word s) (omega (arith, leb-true (next_letter word s) 255 q.letter)),
      le-leb (suc s.read) (length word) (omega arith),
      le-leb (suc s.given) (suc s.read) (omega (arith, q.waits)),
      le-leb 0 (suc s.read) (omega arith),
      placed_few ops boundary word options s d,
      le-leb (s.op + 0) (op_count ops) (omega (arith, placed_among ops boundary word options s d)),
      d.override,
      d.taken,
    )
