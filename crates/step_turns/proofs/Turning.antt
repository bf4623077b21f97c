-- The loop of a step: a turn that goes on keeps the state within the word and has fewer turns before it, and the loop's turns are those of `runOn`.
-- Assumes nothing.
use mathlib.Core.Path.{◌≡◌, refl, sym, ap, subst, ◌∙◌}
use mathlib.Core.Bool.{Bool, true, false, cond}
use mathlib.Core.List.{List}
use mathlib.Core.Option.{Option, none, some}
use Prim.Native.Nat.{ℕ, zero, suc, ◌+◌, ◌-◌, ◌<◌, ◌≤◌}
use native.Mathlib.Omega.{arith}
use lib.IntN.{ℤ}
use lib.Dec.{ltb, leb, eqb}
use lib.ListN.{length, get_or}
use borrow.Author.Tests.{ltb-true, ltb-false, leb-true, le-leb}
use Rattle.words.specs.Words.{word_of}
use Rattle.lang.specs.Checks.{is_letter}
use Rattle.lang.specs.Records.{within}
use Rattle.lang.proofs.Checks.{letter_low}
use Rattle.lang.proofs.Every.{both_left, both_right}
use Rattle.lang.proofs.Records.{within_bound}
use Rattle.reading.specs.Items.{Item, item, plain, code}
use Rattle.captions.specs.declared.NextLeft.{NextLeft}
use Rattle.captions.specs.declared.NextLeft.TheVariants as next
use Rattle.captions.specs.declared.State.{State}
use Rattle.captions.specs.declared.Step.{Step}
use Rattle.captions.specs.declared.Turned.{Turned}
use Rattle.captions.specs.declared.Turned.TheVariants.{Gives, Goes}
use Rattle.captions.specs.Tables.{op_count, number, first_op, count_of, last_code, last_flag, record_fits}
use Rattle.captions.specs.Steps.{refused, read_op, gathered, left_place_of, after_right, read_on, give_left, entered_at, entry_reads, find_within, turn_by, turn_with}
use Rattle.captions.specs.Steps.{turn_at_end, turn_at_letter, turn, goes_on, by_next, step_by, run_on, next_fits, ops_placed, placed}
use Rattle.step_turns.specs.Turns.{lefts, turns_left, turn_next, turn_once, Within}
use Rattle.step_turns.proofs.Laws.{letters_few}

-- ---- what a turn that goes on reaches, from a state that gathered its left

pub record Reached (m : ℕ) (letter : Bool) (g t : State) : Type 0 where
  pub read : t.read ≡ read_on letter g.read
  pub pending : t.pending ≡ g.pending
  pub ops : t.op + t.ops ≤ m
  pub next : next_fits t.next_left ≡ true
  pub left : lefts t.next_left ≡ cond letter 1 0

never : {a : Step} {t : State} → Gives a ≡ Goes t → ⊥
never h = let z : ◌≡◌ {A = ℕ} 0 1 = cc in omega arith

goes_is : {u t : State} → Goes u ≡ Goes t → u ≡ t
goes_is h = cc

after_fits : (letter : Bool) (i : Item) → code i ≤ 255 → next_fits (after_right letter i) ≡ true
after_fits true (item false c) h = letter_low c (omega (arith, h))
after_fits true (item true c) h = le-leb c 255 h
after_fits false (item false c) h = refl
after_fits false (item true c) h = le-leb c 255 h

after_plain : (letter : Bool) (y : ℕ) → (letter ≡ true → is_letter y ≡ true) → next_fits (after_right letter (plain y)) ≡ true
after_plain true y h = h refl
after_plain false y h = refl

after_left : (letter : Bool) (i : Item) → lefts (after_right letter i) ≡ cond letter 1 0
after_left true (item false c) = refl
after_left true (item true c) = refl
after_left false (item false c) = refl
after_left false (item true c) = refl

free_goes : (x : NextLeft) {u t : State} → give_left x u ≡ Goes t → u ≡ t
free_goes next.Boundary h = goes_is h
free_goes (next.Char c) h = absurd (never h)
free_goes (next.Lig c) h = absurd (never h)
free_goes (next.FinalLig c) h = goes_is h
free_goes next.None h = goes_is h

module _ (pairs ops : List ℤ) (g t : State) where
  fits_code : (k : ℕ) → record_fits pairs ops k ≡ true → last_code pairs k ≤ 255
  fits_code k h = within_bound 255 (number pairs k 2) (both_left (within 255 (number pairs k 2)) _ h)

  fits_ops : (k : ℕ) → record_fits pairs ops k ≡ true → first_op pairs k + count_of pairs k ≤ op_count ops
  fits_ops k h =
      leb-true (first_op pairs k + count_of pairs k) (op_count ops)
      (both_right (cond (last_flag pairs k) true (eqb (last_code pairs k) (word_of (number pairs k 1)))) _
      (both_right (within 1 (number pairs k 3)) _ (both_right (within 255 (number pairs k 2)) _ h)))

  entered_goes : (x : NextLeft) (letter : Bool) (k : ℕ) (b : Bool) → entry_reads pairs ops x k ≡ b →
      cond b (Goes (entered_at pairs x letter g k)) (Gives (refused 7 g)) ≡ Goes t → Reached (op_count ops) letter g t
  entered_goes x letter k true e h =
      let r = both_left (record_fits pairs ops k) _ e in
      subst (λ (u : State). Reached (op_count ops) letter g u) (goes_is h)
      (record {
        read = refl;
        pending = refl;
        ops = fits_ops k r;
        next = after_fits letter (item (last_flag pairs k) (last_code pairs k)) (fits_code k r);
        left = after_left letter (item (last_flag pairs k) (last_code pairs k));
      })
  entered_goes x letter k false e h = absurd (never h)

  with_goes : (x : NextLeft) (letter : Bool) (y : ℕ) → (letter ≡ true → is_letter y ≡ true) → g.op + g.ops ≤ op_count ops → (o : Option ℕ) →
      turn_by pairs ops x letter y g o ≡ Goes t → Reached (op_count ops) letter g t
  with_goes x letter y l p none h =
      subst (λ (u : State). Reached (op_count ops) letter g u) (free_goes x h)
      (record { read = refl; pending = refl; ops = p; next = after_plain letter y l; left = after_left letter (plain y) })
  with_goes x letter y l p (some k) h = entered_goes x letter k (entry_reads pairs ops x k) refl h

  end_goes : (x : NextLeft) (o : Option ℕ) → g.op + g.ops ≤ op_count ops → turn_at_end pairs ops o x g ≡ Goes t → Reached (op_count ops) false g t
  end_goes next.Boundary o p h = absurd (never h)
  end_goes (next.Char c) none p h = absurd (never h)
  end_goes (next.Char c) (some r) p h =
      with_goes (next.Char c) false r (λ e. absurd (let z : ◌≡◌ {A = ℕ} 0 1 = cc in omega arith)) p (find_within pairs (suc c) r) h
  end_goes (next.Lig c) none p h = absurd (never h)
  end_goes (next.Lig c) (some r) p h =
      with_goes (next.Lig c) false r (λ e. absurd (let z : ◌≡◌ {A = ℕ} 0 1 = cc in omega arith)) p (find_within pairs (suc c) r) h
  end_goes (next.FinalLig c) o p h = absurd (never h)
  end_goes next.None o p h = absurd (never h)

  letter_goes : (x : NextLeft) (y : ℕ) (b : Bool) → is_letter y ≡ b → g.op + g.ops ≤ op_count ops →
      cond b (turn_with pairs ops x true y g) (Gives (refused 20 g)) ≡ Goes t → Reached (op_count ops) true g t
  letter_goes x y true e p h = with_goes x true y (λ _. e) p (find_within pairs (left_place_of x) y) h
  letter_goes x y false e p h = absurd (never h)

-- ---- a turn that goes on

pub record Moved (n m : ℕ) (s t : State) : Type 0 where
  pub inside : Within n m t
  pub less : turns_left n t < turns_left n s

-- the left is gathered
pub record Gathered (s g : State) : Type 0 where
  pub read : g.read ≡ s.read
  pub pending : g.pending ≤ s.pending + 2
  pub ops : g.op + g.ops ≡ s.op + s.ops

gathered_is : (x : NextLeft) (s : State) → Gathered s (gathered x s)
gathered_is next.Boundary s = record { read = refl; pending = omega arith; ops = refl }
gathered_is (next.Char c) s = record { read = refl; pending = omega arith; ops = refl }
gathered_is (next.Lig c) s = record { read = refl; pending = omega (arith, letters_few s.consumes_left); ops = refl }
gathered_is (next.FinalLig c) s = record { read = refl; pending = omega arith; ops = refl }
gathered_is next.None s = record { read = refl; pending = omega arith; ops = refl }

module _ (n m : ℕ) (s g t : State) (w : Within n m s) (q : Gathered s g) (l : lefts s.next_left ≡ 1) where
  moved_letter : s.read < n → Reached m true g t → Moved n m s t
  moved_letter h r =
      record {
        inside = record {
          short = w.short;
          read = omega (arith, r.read, q.read);
          pending = omega (arith, w.pending, r.read, r.pending, r.left, q.read, q.pending);
          ops = r.ops;
          next = r.next;
        };
        less = omega (arith, r.read, r.left, q.read);
      }

  moved_end : n ≤ s.read → Reached m false g t → Moved n m s t
  moved_end h r =
      record {
        inside = record {
          short = w.short;
          read = omega (arith, w.read, r.read, q.read);
          pending = omega (arith, w.pending, r.read, r.pending, r.left, q.read, q.pending);
          ops = r.ops;
          next = r.next;
        };
        less = omega (arith, r.read, r.left, q.read);
      }

module _ (pairs ops : List ℤ) (o : Option ℕ) (word : List ℕ) (s t : State) (w : Within (length word) (op_count ops) s) where
  turn_goes : (x : NextLeft) → lefts s.next_left ≡ 1 → (b : Bool) → ltb s.read (length word) ≡ b →
      cond b (turn_at_letter pairs ops x (get_or word s.read 0) (gathered x s)) (turn_at_end pairs ops o x (gathered x s)) ≡ Goes t →
      Moved (length word) (op_count ops) s t
  turn_goes x l true e h =
      let q = gathered_is x s in
      moved_letter (length word) (op_count ops) s (gathered x s) t w q l (ltb-true s.read (length word) e)
      (letter_goes pairs ops (gathered x s) t x (get_or word s.read 0) (is_letter (get_or word s.read 0)) refl (omega (arith, q.ops, w.ops)) h)
  turn_goes x l false e h =
      let q = gathered_is x s in
      moved_end (length word) (op_count ops) s (gathered x s) t w q l (ltb-false s.read (length word) e)
      (end_goes pairs ops (gathered x s) t x o (omega (arith, q.ops, w.ops)) h)

  next_goes : (x : NextLeft) → s.next_left ≡ x → turn_next (turn pairs ops o word) s x ≡ Goes t → Moved (length word) (op_count ops) s t
  next_goes next.Boundary e h = turn_goes next.Boundary (ap lefts e) (ltb s.read (length word)) refl h
  next_goes (next.Char c) e h = turn_goes (next.Char c) (ap lefts e) (ltb s.read (length word)) refl h
  next_goes (next.Lig c) e h = turn_goes (next.Lig c) (ap lefts e) (ltb s.read (length word)) refl h
  next_goes (next.FinalLig c) e h = absurd (never h)
  next_goes next.None e h = absurd (never h)

  once_by : (b : Bool) → cond b (turn_next (turn pairs ops o word) s s.next_left) (Gives (read_op ops s)) ≡ Goes t → Moved (length word) (op_count ops) s t
  once_by true h = next_goes s.next_left refl h
  once_by false h = absurd (never h)

  once_goes : turn_once ops (turn pairs ops o word) s ≡ Goes t → Moved (length word) (op_count ops) s t
  once_goes h = once_by (eqb s.ops 0) h

-- ---- the turns of the loop are those of the definition

module _ (ops : List ℤ) (look : NextLeft → State → Turned) where
  step_by_lem : (go : State → Step) (s : State) (b : Bool) (x : NextLeft) →
      cond b (by_next look go s x) (read_op ops s) ≡ goes_on go (cond b (turn_next look s x) (Gives (read_op ops s)))
  step_by_lem go s true next.Boundary = refl
  step_by_lem go s true (next.Char c) = refl
  step_by_lem go s true (next.Lig c) = refl
  step_by_lem go s true (next.FinalLig c) = refl
  step_by_lem go s true next.None = refl
  step_by_lem go s false x = refl

  step_once : (go : State → Step) (s : State) (r : Turned) → turn_once ops look s ≡ r → step_by ops look go s ≡ goes_on go r
  step_once go s r h = step_by_lem go s (eqb s.ops 0) s.next_left ∙ ap (goes_on go) h

  run_gives : (n : ℕ) (s : State) (a : Step) → turn_once ops look s ≡ Gives a → run_on ops look n s ≡ a
  unfolding run_on
  run_gives zero s a h = step_once (refused 7) s (Gives a) h
  run_gives (suc n) s a h = step_once (run_on ops look n) s (Gives a) h

  run_goes : (n : ℕ) (s t : State) → turn_once ops look s ≡ Goes t → run_on ops look (suc n) s ≡ run_on ops look n t
  unfolding run_on
  run_goes n s t h = step_once (run_on ops look n) s (Goes t) h

-- the loop from s stands at t: turns enough are left, and they answer what those from s answer
pub record Running (n m : ℕ) (run : ℕ → State → Step) (s t : State) : Type 0 where
  pub inside : Within n m t
  pub fuel : ℕ
  pub enough : turns_left n t ≤ fuel
  pub same : run fuel t ≡ run (suc (n - s.read)) s

left_few : (x : NextLeft) → lefts x ≤ 1
left_few next.Boundary = omega arith
left_few (next.Char c) = omega arith
left_few (next.Lig c) = omega arith
left_few (next.FinalLig c) = omega arith
left_few next.None = omega arith

pub running_begin : (n m : ℕ) (run : ℕ → State → Step) (s : State) → Within n m s → Running n m run s s
running_begin n m run s w = record { inside = w; fuel = suc (n - s.read); enough = omega (arith, left_few s.next_left); same = refl }

module _ (pairs ops : List ℤ) (o : Option ℕ) (word : List ℕ) (s t : State) where
  running_by : (n : ℕ) (u : State) → Moved (length word) (op_count ops) t u → turns_left (length word) t ≤ n → turn_once ops (turn pairs ops o word) t ≡ Goes u →
      run_on ops (turn pairs ops o word) n t ≡ run_on ops (turn pairs ops o word) (suc (length word - s.read)) s →
      Running (length word) (op_count ops) (run_on ops (turn pairs ops o word)) s u
  running_by zero u v e h r = absurd (omega (arith, v.less))
  running_by (suc n) u v e h r =
      record { inside = v.inside; fuel = n; enough = omega (arith, v.less); same = sym (run_goes ops (turn pairs ops o word) n t u h) ∙ r }

  -- x is what the turn answered
  module _ (r : Running (length word) (op_count ops) (run_on ops (turn pairs ops o word)) s t) (x : Turned) (e : x ≡ turn_once ops (turn pairs ops o word) t) where
    pub running_less : (u : State) → x ≡ Goes u → turns_left (length word) u < turns_left (length word) t
    running_less u h = (once_goes pairs ops o word t u r.inside (sym e ∙ h)).less

    pub running_more : (u : State) → x ≡ Goes u → Running (length word) (op_count ops) (run_on ops (turn pairs ops o word)) s u
    running_more u h = running_by r.fuel u (once_goes pairs ops o word t u r.inside (sym e ∙ h)) r.enough (sym e ∙ h) r.same

    pub running_end : (a : Step) → x ≡ Gives a → a ≡ run_on ops (turn pairs ops o word) (suc (length word - s.read)) s
    running_end a h = sym (run_gives ops (turn pairs ops o word) r.fuel t a (sym e ∙ h)) ∙ r.same

-- ---- what is checked before the first turn

module _ (ops : List ℤ) (word : List ℕ) (s : State) where
  pub placed_within : length word < 4611686018427387904 → placed ops word s ≡ true → Within (length word) (op_count ops) s
  placed_within l h =
      let h1 = both_right (leb s.read (length word)) _ h in
      let h2 = both_right (leb s.given s.read) _ h1 in
      let h3 = both_right (leb s.pending s.read) _ h2 in
      let r = leb-true s.read (length word) (both_left (leb s.read (length word)) _ h) in
      let p = leb-true s.pending s.read (both_left (leb s.pending s.read) _ h2) in
      record {
        short = l;
        read = r;
        pending = omega (arith, r, p, left_few s.next_left);
        ops = leb-true (s.op + s.ops) (op_count ops)
            (both_right (leb (op_count ops) 2147483647) (leb (s.op + s.ops) (op_count ops)) (both_left (ops_placed ops s) (next_fits s.next_left) h3));
        next = both_right (ops_placed ops s) (next_fits s.next_left) h3;
      }
