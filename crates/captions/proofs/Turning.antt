-- A turn of a step, and all of them: from a sound state a step answers as the plain run over the decoded table does, and is not refused.
-- Assumes nothing.
use mathlib.Core.Path.{◌≡◌, refl, sym, ap, ◌∙◌}
use mathlib.Core.Bool.{Bool, true, false, cond, not}
use mathlib.Core.List.{List, [], ◌∷◌}
use mathlib.Core.Logic.{◌⊎◌, inl, inr}
use mathlib.Core.Option.{Option, none, some, map}
use Prim.Native.Nat.{ℕ, zero, suc, ◌+◌, ◌-◌, ◌<◌, ◌≤◌}
use native.Mathlib.Omega.{arith}
use lib.IntN.{ℤ}
use lib.Dec.{ltb, eqb}
use lib.ListN.{length, drop, get_or, drop_of_length-le}
use lib.Seq.{drop-cons}
use borrow.Author.Tests.{le-leb, ltb-true, ltb-false, ne_eqb}
use Rattle.words.specs.Words.{word_of}
use Rattle.lang.specs.Every.{both}
use Rattle.lang.specs.Checks.{is_letter}
use Rattle.lang.proofs.Checks.{letter_low}
use Rattle.reading.specs.Items.{chr, Item, item, plain, inserted, Head, edge, at, key, Out, glyph}
use Rattle.reading.specs.Depth.{Res, Finished, raise_left}
use Rattle.reading.specs.Form.{no_plain, ops_form}
use Rattle.reading.specs.Run as plainly
use Rattle.fonts.specs.Fonts.{left_of}
use Rattle.captions.specs.declared.NextLeft.{NextLeft}
use Rattle.captions.specs.declared.NextLeft.TheVariants as next
use Rattle.captions.specs.declared.Consumes.{Consumes}
use Rattle.captions.specs.declared.Consumes.TheVariants as consumes
use Rattle.captions.specs.declared.State.{State}
use Rattle.captions.specs.declared.Turned.{Turned}
use Rattle.captions.specs.Tables.{op_count, number, first_op, count_of, last_code, last_flag, entry_of_pair, entries, op_at, ops_from, record_fits}
use Rattle.captions.specs.Form.{table_form}
use Rattle.captions.specs.Steps.{refused, left_letters, takes_boundary, left_place_of, left_consumed, after_right, read_on, entered_at, find_within, turn_by}
use Rattle.captions.specs.Steps.{turn_with, turn_at_end, turn_at_letter, gives_nothing, entry_reads, turn, goes_on, run_on, next_fits}
use Rattle.captions.proofs.FontTable.{below}
use Rattle.captions.proofs.Raising.{raise_first, raise_outs, raise_last, raise_last_none, has_glyph, plain_first, form_ops, left_plain_first, left_carried}
use Rattle.captions.proofs.Raising.{boundary_no_plain}
use Rattle.captions.proofs.Sound.{state, is_pending, waiting, is_ligature, mode, next_of, Sound, Follows}
use Rattle.captions.proofs.Giving.{gives_letter, gives_pending}
use Rattle.captions.proofs.Beyond.{within_some, held_looked}
use Rattle.captions.proofs.Following.{Formed, found_formed, all_ops, is_now, gives_now, given_first_lem, given_final, given_stop}

no : {A : Type 0} → ◌≡◌ {A = Bool} false true → A
no e = absurd (let z : ◌≡◌ {A = ℕ} 0 1 = cc in omega arith)

-- a left that is looked up, with the letters of the ligature that it is
pub data Lefts : NextLeft → ℕ → Type 0 where
  boundary : Lefts next.Boundary 0
  character : (c : ℕ) → Lefts (next.Char c) 0
  ligature : (c p : ℕ) → Lefts (next.Lig c) (suc p)

abbrev head_of : NextLeft → Head
head_of next.Boundary = edge
head_of (next.Char c) = at (plain c)
head_of (next.Lig c) = at (inserted c)
head_of (next.FinalLig c) = edge
head_of next.None = edge

-- ---- an entry's ops and last

flagged_ligature : (letter f : Bool) (c : ℕ) → is_ligature (after_right letter (item f c)) ≡ f
flagged_ligature true true c = refl
flagged_ligature true false c = refl
flagged_ligature false true c = refl
flagged_ligature false false c = refl

code_fits : (letter f : Bool) (c : ℕ) → c ≤ 255 → next_fits (after_right letter (item f c)) ≡ true
code_fits true true c h = le-leb c 255 h
code_fits true false c h = letter_low c (omega (arith, h))
code_fits false true c h = le-leb c 255 h
code_fits false false c h = refl

one_waits : (letter f : Bool) (c g w r : ℕ) → g + w ≡ r → g + w + waiting (after_right letter (item f c)) ≡ read_on letter r
one_waits true true c g w r h = omega arith
one_waits true false c g w r h = omega arith
one_waits false true c g w r h = omega arith
one_waits false false c g w r h = omega arith

entry_mode : {x : NextLeft} {p : ℕ} → Lefts x p → (letter f : Bool) (c : ℕ) (os : List Out) → ops_form (left_of (left_place_of x)) os (item f c) ≡ true →
    mode p (left_consumed x) os (after_right letter (item f c)) ≡ true
entry_mode boundary letter f c os h = boundary_no_plain os (item f c) h
entry_mode (character a) letter f c os h = rw (flagged_ligature letter f c, left_plain_first a os (item f c) h) (left_carried a os (item f c) h)
entry_mode (ligature a p) letter f c os h = rw (flagged_ligature letter f c, left_plain_first a os (item f c) h) (left_carried a os (item f c) h)

res_is : (q : Res) (os : List Out) (x : Item) → q.outs ≡ os → q.last ≡ x → q ≡ record { outs = os; last = x }
res_is q os x e f = ap (λ (a : List Out). record { outs = a; last = q.last }) e ∙ ap (λ (b : Item). record { outs = os; last = b }) f

-- what the plain run looks up is the entry, with the left's flag put in
entry_looked : {x : NextLeft} {p : ℕ} → Lefts x p → (y : ℕ) (f : Bool) (c : ℕ) (os : List Out) → ops_form (left_of (left_place_of x)) os (item f c) ≡ true →
    plainly.entry_or (some (record { outs = os; last = item f c })) (head_of x) y ≡ record { outs = raise_first (is_pending p) os; last = item f c }
entry_looked boundary y f c os h =
    res_is (raise_left false os (item f c)) (raise_first false os) (item f c) (raise_outs false os (item f c)) (raise_last_none os (item f c))
entry_looked (character a) y f c os h =
    res_is (raise_left false os (item f c)) (raise_first false os) (item f c) (raise_outs false os (item f c)) (raise_last_none os (item f c))
entry_looked (ligature a p) y f c os h =
    res_is (raise_left true os (item f c)) (raise_first true os) (item f c) (raise_outs true os (item f c))
    (raise_last true os (item f c) (left_carried a os (item f c) h))

-- a character given with nothing after it
given_one : (t : Finished) (right : Option ℕ) (rest : List ℕ) (o : Out) (n : plainly.PlainNext) →
    plainly.step_from t right rest (o ∷ []) n ≡ plainly.given (o ∷ []) n rest
unfolding plainly.step_from
given_one t right [] o n = refl
given_one t right (y ∷ ys) o n = refl

next_flagged : (f : Bool) (c : ℕ) → next_of (after_right true (item f c)) ≡ plainly.left (at (item f c))
next_flagged true c = refl
next_flagged false c = refl

next_final : (f : Bool) (c : ℕ) → next_of (after_right false (item f c)) ≡ plainly.plain_after_right (item f c)
next_final true c = refl
next_final false c = refl

pub now_final : (m : ℕ) (f : Bool) (c : ℕ) → is_now m (after_right false (item f c)) ≡ true
now_final zero true c = refl
now_final zero false c = refl
now_final (suc m) f c = refl

pub no_char : {c : ℕ} → next.Char c ≡ next.Boundary → ⊥
no_char e = let z : ◌≡◌ {A = ℕ} 0 1 = cc in omega arith

pub no_lig : {c : ℕ} → next.Lig c ≡ next.Boundary → ⊥
no_lig e = let z : ◌≡◌ {A = ℕ} 0 1 = cc in omega arith

-- where no op is to be given, a left that is no ligature has nothing pending, and nothing is to be taken in
pub clear : (p : ℕ) (k : Consumes) (n : NextLeft) → is_ligature n ≡ false → mode p k [] n ≡ true → p + left_letters k ≡ 0
unfolding plain_first has_glyph
clear zero consumes.Nothing n e h = refl
clear zero consumes.Letter n e h = no (sym e ∙ h)
clear zero consumes.Boundary n e h = refl
clear (suc p) consumes.Nothing n e h = no (sym e ∙ h)
clear (suc p) consumes.Letter n e h = no h
clear (suc p) consumes.Boundary n e h = no h

module _ (pairs ops : List ℤ) (table : table_form pairs ops ≡ true) (word : List ℕ) (right : Option ℕ)
    (letters : (i : ℕ) → i < length word → is_letter (get_or word i 0) ≡ true) where
  abbrev look : NextLeft → State → Turned
  look = turn pairs ops right word

  abbrev held : Finished
  held = below 256 (entries pairs ops)

  -- the left is not swallowed
  keeps : (o m : ℕ) (f : Bool) → cond (has_glyph (ops_from ops o m)) true f ≡ true → both (eqb m 0) (not f) ≡ false
  unfolding ops_from has_glyph
  keeps o zero true h = refl
  keeps o zero false h = no h
  keeps o (suc m) f h = rw (ne_eqb (suc m) 0 (λ e. omega (arith, e))) refl

  keeps_left_lem : (a k : ℕ) → Formed pairs ops (suc a) k → both (record_fits pairs ops k) (not (gives_nothing pairs k)) ≡ true
  keeps_left_lem a k f =
      let os = ops_from ops (first_op pairs k) (count_of pairs k) in
      let carried = left_carried a os (entry_of_pair pairs ops k).last (form_ops (chr a) (word_of (number pairs k 1)) (entry_of_pair pairs ops k) f.form) in
      rw (f.fits, keeps (first_op pairs k) (count_of pairs k) (last_flag pairs k) carried) refl

  pub follows_entry : {x : NextLeft} {p k : ℕ} → Lefts x p → Formed pairs ops (left_place_of x) k → entry_reads pairs ops x k ≡ true
  follows_entry boundary f = rw f.fits refl
  follows_entry {k = k} (character a) f = keeps_left_lem a k f
  follows_entry {k = k} (ligature a p) f = keeps_left_lem a k f

  pub entered_sound : {x : NextLeft} {p : ℕ} → Lefts x p → (letter : Bool) (o m r g k : ℕ) (b : Bool) (c : Consumes) → Formed pairs ops (left_place_of x) k →
      read_on letter r ≤ length word → g + (p + left_letters (left_consumed x)) ≡ r →
      Sound ops word (entered_at pairs x letter (state x o m r g p b c) k) (ops_from ops (first_op pairs k) (count_of pairs k))
  entered_sound {x} {p} s letter o m r g k b c f i h =
      record {
        inside = i;
        counted = one_waits letter (last_flag pairs k) (last_code pairs k) g (p + left_letters (left_consumed x)) r h;
        among = f.among;
        fits = code_fits letter (last_flag pairs k) (last_code pairs k) f.code;
        holds =
            entry_mode s letter (last_flag pairs k) (last_code pairs k) (ops_from ops (first_op pairs k) (count_of pairs k))
            (form_ops (left_of (left_place_of x)) (word_of (number pairs k 1)) (entry_of_pair pairs ops k) f.form);
      }

  -- from every sound state with fuel enough
  abbrev Goal : ℕ → Type 0
  Goal F =
      (n : NextLeft) (o m r g p : ℕ) (b : Bool) (k : Consumes) → (is_now m n ≡ false → length word - r < F) →
      Sound ops word (state n o m r g p b k) (ops_from ops o m) →
      Follows ops word (run_on ops look F (state n o m r g p b k))
      (plainly.step_from held right (drop r word) (raise_first (is_pending p) (ops_from ops o m)) (next_of n))

  -- a letter
  at_letter : (F : ℕ) → Goal F → {x : NextLeft} {p : ℕ} → Lefts x p → (o r g y : ℕ) (b : Bool) (k : Consumes) → suc r ≤ length word → is_letter y ≡ true →
      length word - r < suc F → o ≤ op_count ops → g + (p + left_letters (left_consumed x)) ≡ r →
      (e : Option ℕ) → find_within pairs (left_place_of x) y ≡ e →
      Follows ops word (goes_on (run_on ops look F) (turn_by pairs ops x true y (state x o 0 r g p b k) e))
      (plainly.step_from held right (drop (suc r) word) (plainly.entry_or (map (entry_of_pair pairs ops) e) (head_of x) y).outs
      (plainly.left (at (plainly.entry_or (map (entry_of_pair pairs ops) e) (head_of x) y).last)))
  unfolding ops_from raise_first no_plain
  at_letter F ih boundary o r g y b k i small enough u h none e =
      ih (next.Char y) o 0 (suc r) g 0 b consumes.Nothing (λ _. omega arith)
      record { inside = i; counted = omega arith; among = omega arith; fits = small; holds = refl }
  at_letter F ih (character c) o r g y b k i small enough u h none e =
      rw (given_one held right (drop (suc r) word) (glyph (plain c)) (plainly.left (at (plain y))))
      (gives_letter ops word (next.Char y) o 0 (suc r) g b consumes.Nothing c (i, omega arith, small, refl) (omega arith))
  at_letter F ih (ligature c p) o r g y b k i small enough u h none e =
      rw (given_one held right (drop (suc r) word) (glyph (inserted c)) (plainly.left (at (plain y))))
      (gives_pending ops word (next.Char y) o 0 (suc r) g p b consumes.Nothing c (i, omega arith, small, refl) (omega arith))
  at_letter F ih {x} {p} s o r g y b k i small enough u h (some j) e =
      let w = within_some pairs (left_place_of x) y j e in
      let f = found_formed pairs ops table (left_place_of x) y j w.0 w.1 in
      let os = ops_from ops (first_op pairs j) (count_of pairs j) in
      let q = entry_looked s y (last_flag pairs j) (last_code pairs j) os
      (form_ops (left_of (left_place_of x)) (word_of (number pairs j 1)) (entry_of_pair pairs ops j) f.form) in
      rw (follows_entry s f, q, ← next_flagged (last_flag pairs j) (last_code pairs j))
      (ih (after_right true (item (last_flag pairs j) (last_code pairs j))) (first_op pairs j) (count_of pairs j) (suc r) g p b (left_consumed x) (λ _. omega arith)
      (entered_sound s true o 0 r g j b k f i h))

  -- whatever fuel is left
  run_now : (F : ℕ) (n : NextLeft) (o m r g p : ℕ) (b : Bool) (k : Consumes) → is_now m n ≡ true → Sound ops word (state n o m r g p b k) (ops_from ops o m) →
      Follows ops word (run_on ops look F (state n o m r g p b k)) (plainly.given (raise_first (is_pending p) (ops_from ops o m)) (next_of n) (drop r word))
  unfolding run_on
  run_now zero n o m r g p b k h s = gives_now ops word (all_ops pairs ops table) look (refused 7) n o m r g p b k h s
  run_now (suc F) n o m r g p b k h s = gives_now ops word (all_ops pairs ops table) look (run_on ops look F) n o m r g p b k h s

  -- the word's end, with a right item
  at_right : (F : ℕ) {x : NextLeft} {p : ℕ} → Lefts x p → (x ≡ next.Boundary → ⊥) → (o r g y : ℕ) (b : Bool) (k : Consumes) → r ≤ length word →
      drop r word ≡ [] → o ≤ op_count ops → g + (p + left_letters (left_consumed x)) ≡ r →
      (e : Option ℕ) → find_within pairs (left_place_of x) y ≡ e →
      Follows ops word (goes_on (run_on ops look F) (turn_by pairs ops x false y (state x o 0 r g p b k) e))
      (plainly.given (plainly.entry_or (map (entry_of_pair pairs ops) e) (head_of x) y).outs
      (plainly.plain_after_right (plainly.entry_or (map (entry_of_pair pairs ops) e) (head_of x) y).last) [])
  unfolding ops_from no_plain
  at_right F boundary z o r g y b k i d u h none e = absurd (z refl)
  at_right F (character c) z o r g y b k i d u h none e =
      rw (← d) (gives_letter ops word next.None o 0 r g b consumes.Nothing c (i, omega arith, refl, refl) (omega arith))
  at_right F (ligature c p) z o r g y b k i d u h none e =
      rw (← d) (gives_pending ops word next.None o 0 r g p b consumes.Nothing c (i, omega arith, refl, refl) (omega arith))
  at_right F {x} {p} s z o r g y b k i d u h (some j) e =
      let w = within_some pairs (left_place_of x) y j e in
      let f = found_formed pairs ops table (left_place_of x) y j w.0 w.1 in
      let os = ops_from ops (first_op pairs j) (count_of pairs j) in
      let q = entry_looked s y (last_flag pairs j) (last_code pairs j) os
      (form_ops (left_of (left_place_of x)) (word_of (number pairs j 1)) (entry_of_pair pairs ops j) f.form) in
      let sound = entered_sound s false o 0 r g j b k f i h in
      let t = after_right false (item (last_flag pairs j) (last_code pairs j)) in
      rw (follows_entry s f, q, ← next_final (last_flag pairs j) (last_code pairs j), ← d)
      (run_now F t (first_op pairs j) (count_of pairs j) r g p b (left_consumed x) (now_final (count_of pairs j) (last_flag pairs j) (last_code pairs j)) sound)

  -- .. or without
  at_end_lem : (F : ℕ) {x : NextLeft} {p : ℕ} → Lefts x p → (e : Option ℕ) → right ≡ e → (o r g : ℕ) (b : Bool) (k : Consumes) → r ≤ length word →
      drop r word ≡ [] → o ≤ op_count ops → g + (p + left_letters (left_consumed x)) ≡ r →
      Sound ops word (state x o 0 r g p b k) (ops_from ops o 0) ⊎ (x ≡ next.Boundary → ⊥) →
      Follows ops word (goes_on (run_on ops look F) (turn_at_end pairs ops e x (state x o 0 r g p b k))) (plainly.at_end held e (head_of x))
  unfolding ops_from no_plain raise_first
  at_end_lem F boundary e q o r g b k i d u h (inl s) = record { answers = refl; leaves = rw d refl; sound = s }
  at_end_lem F boundary e q o r g b k i d u h (inr z) = absurd (z refl)
  at_end_lem F (character c) none q o r g b k i d u h z =
      rw (← d) (gives_letter ops word next.None o 0 r g b consumes.Nothing c (i, omega arith, refl, refl) (omega arith))
  at_end_lem F (character c) (some y) q o r g b k i d u h z =
      rw (held_looked pairs ops table (suc c) y) (at_right F (character c) (λ e. no_char e) o r g y b k i d u h (find_within pairs (suc c) y) refl)
  at_end_lem F (ligature c p) none q o r g b k i d u h z =
      rw (← d) (gives_pending ops word next.None o 0 r g p b consumes.Nothing c (i, omega arith, refl, refl) (omega arith))
  at_end_lem F (ligature c p) (some y) q o r g b k i d u h z =
      rw (held_looked pairs ops table (suc c) y) (at_right F (ligature c p) (λ e. no_lig e) o r g y b k i d u h (find_within pairs (suc c) y) refl)

  -- ---- all turns

  -- what the plain run looks up
  held_left : {x : NextLeft} {p : ℕ} → Lefts x p → (y : ℕ) →
      held (key (head_of x)) y ≡ map (entry_of_pair pairs ops) (find_within pairs (left_place_of x) y)
  held_left boundary y = held_looked pairs ops table 0 y
  held_left (character c) y = held_looked pairs ops table (suc c) y
  held_left (ligature c p) y = held_looked pairs ops table (suc c) y

  -- .. with a letter
  looks_letter : (x : Head) (y : ℕ) (ys : List ℕ) (o : Option Res) → held (key x) y ≡ o →
      plainly.step_from held right (y ∷ ys) [] (plainly.left x)
      ≡ plainly.step_from held right ys (plainly.entry_or o x y).outs (plainly.left (at (plainly.entry_or o x y).last))
  unfolding plainly.step_from
  looks_letter x y ys o e =
      ap (λ (q : Option Res). plainly.step_from held right ys (plainly.entry_or q x y).outs (plainly.left (at (plainly.entry_or q x y).last))) e

  -- a left with a letter
  by_letter_lem : (F : ℕ) → Goal F → {x : NextLeft} {p : ℕ} → Lefts x p → (o r g y : ℕ) (b : Bool) (k : Consumes) → suc r ≤ length word → is_letter y ≡ true →
      length word - r < suc F → o ≤ op_count ops → g + (p + left_letters (left_consumed x)) ≡ r →
      Follows ops word (goes_on (run_on ops look F) (turn_with pairs ops x true y (state x o 0 r g p b k)))
      (plainly.step_from held right (y ∷ drop (suc r) word) [] (plainly.left (head_of x)))
  by_letter_lem F ih {x} s o r g y b k i small enough u h =
      let q = find_within pairs (left_place_of x) y in
      rw (looks_letter (head_of x) y (drop (suc r) word) (map (entry_of_pair pairs ops) q) (held_left s y))
      (at_letter F ih s o r g y b k i small enough u h q refl)

  -- a left with what is next in the word
  at_left : (F : ℕ) → Goal F → {x : NextLeft} {p : ℕ} → Lefts x p → (o r g : ℕ) (b : Bool) (k : Consumes) → r ≤ length word → length word - r < suc F →
      o ≤ op_count ops → g + (p + left_letters (left_consumed x)) ≡ r →
      Sound ops word (state x o 0 r g p b k) (ops_from ops o 0) ⊎ (x ≡ next.Boundary → ⊥) → (t : Bool) → ltb r (length word) ≡ t →
      Follows ops word
      (goes_on (run_on ops look F)
      (cond t (turn_at_letter pairs ops x (get_or word r 0) (state x o 0 r g p b k)) (turn_at_end pairs ops right x (state x o 0 r g p b k))))
      (plainly.step_from held right (drop r word) [] (plainly.left (head_of x)))
  unfolding plainly.step_from
  at_left F ih {x} {p} s o r g b k i enough u h z true e =
      let l : r < length word = ltb-true r (length word) e in
      let small = letters r l in
      rw (drop-cons word r 0 l, small)
      (by_letter_lem F ih s o r g (get_or word r 0) b k l small enough u h)
  at_left F ih {x} {p} s o r g b k i enough u h z false e =
      let d : drop r word ≡ [] = drop_of_length-le word (ltb-false r (length word) e) in
      rw d (at_end_lem F s right refl o r g b k i d u h z)

  -- the plain run gives what is to be given at once
  now_plain : (n : NextLeft) (o m p : ℕ) (rest : List ℕ) → is_now m n ≡ true →
      plainly.step_from held right rest (raise_first (is_pending p) (ops_from ops o m)) (next_of n)
      ≡ plainly.given (raise_first (is_pending p) (ops_from ops o m)) (next_of n) rest
  unfolding ops_from raise_first
  now_plain n o (suc m) p rest h = given_first_lem held right rest (is_pending p) (op_at ops o) (ops_from ops (suc o) m) (next_of n)
  now_plain next.Boundary o zero p rest h = no h
  now_plain (next.Char c) o zero p rest h = no h
  now_plain (next.Lig c) o zero p rest h = no h
  now_plain (next.FinalLig c) o zero p rest h = given_final held right rest c
  now_plain next.None o zero p rest h = given_stop held right rest

  at_once : (F : ℕ) (n : NextLeft) (o m r g p : ℕ) (b : Bool) (k : Consumes) → is_now m n ≡ true → Sound ops word (state n o m r g p b k) (ops_from ops o m) →
      Follows ops word (run_on ops look F (state n o m r g p b k))
      (plainly.step_from held right (drop r word) (raise_first (is_pending p) (ops_from ops o m)) (next_of n))
  at_once F n o m r g p b k h s = rw (now_plain n o m p (drop r word) h) (run_now F n o m r g p b k h s)

  -- a left that is no ligature
  from_boundary : (F : ℕ) → Goal F → (o r g p : ℕ) (b : Bool) (k : Consumes) → length word - r < suc F →
      Sound ops word (state next.Boundary o 0 r g p b k) (ops_from ops o 0) → p + left_letters k ≡ 0 →
      Follows ops word (goes_on (run_on ops look F) (look next.Boundary (state next.Boundary o 0 r g p b k)))
      (plainly.step_from held right (drop r word) [] (plainly.left edge))
  from_boundary F ih o r g zero b k enough s e =
      at_left F ih boundary o r g b k s.inside enough (omega (arith, s.among)) (omega (arith, s.counted)) (inl s) (ltb r (length word)) refl
  from_boundary F ih o r g (suc p) b k enough s e = absurd (omega (arith, e))

  from_character : (F : ℕ) → Goal F → (c o r g p : ℕ) (b : Bool) (k : Consumes) → length word - r < suc F →
      Sound ops word (state (next.Char c) o 0 r g p b k) (ops_from ops o 0) → p + left_letters k ≡ 0 →
      Follows ops word (goes_on (run_on ops look F) (look (next.Char c) (state (next.Char c) o 0 r g p b k)))
      (plainly.step_from held right (drop r word) [] (plainly.left (at (plain c))))
  from_character F ih c o r g zero b k enough s e =
      at_left F ih (character c) o r g b k s.inside enough (omega (arith, s.among)) (omega (arith, s.counted)) (inr (λ z. no_char z)) (ltb r (length word))
      refl
  from_character F ih c o r g (suc p) b k enough s e = absurd (omega (arith, e))

  from_ligature : (F : ℕ) → Goal F → (c o r g p : ℕ) (b : Bool) (k : Consumes) → length word - r < suc F →
      Sound ops word (state (next.Lig c) o 0 r g p b k) (ops_from ops o 0) →
      Follows ops word (goes_on (run_on ops look F) (look (next.Lig c) (state (next.Lig c) o 0 r g p b k)))
      (plainly.step_from held right (drop r word) [] (plainly.left (at (inserted c))))
  from_ligature F ih c o r g p b k enough s =
      at_left F ih (ligature c (p + left_letters k)) o r g (takes_boundary (state (next.Lig c) o 0 r g p b k)) consumes.Nothing s.inside enough
      (omega (arith, s.among)) (omega (arith, s.counted)) (inr (λ z. no_lig z)) (ltb r (length word)) refl

  no_fuel : Goal 0
  no_fuel n o (suc m) r g p b k enough s = at_once 0 n o (suc m) r g p b k refl s
  no_fuel (next.FinalLig c) o zero r g p b k enough s = at_once 0 (next.FinalLig c) o zero r g p b k refl s
  no_fuel next.None o zero r g p b k enough s = at_once 0 next.None o zero r g p b k refl s
  no_fuel next.Boundary o zero r g p b k enough s = absurd (omega (arith, enough refl))
  no_fuel (next.Char c) o zero r g p b k enough s = absurd (omega (arith, enough refl))
  no_fuel (next.Lig c) o zero r g p b k enough s = absurd (omega (arith, enough refl))

  one_more : (F : ℕ) → Goal F → Goal (suc F)
  unfolding run_on ops_from raise_first
  one_more F ih n o (suc m) r g p b k enough s = at_once (suc F) n o (suc m) r g p b k refl s
  one_more F ih (next.FinalLig c) o zero r g p b k enough s = at_once (suc F) (next.FinalLig c) o zero r g p b k refl s
  one_more F ih next.None o zero r g p b k enough s = at_once (suc F) next.None o zero r g p b k refl s
  one_more F ih next.Boundary o zero r g p b k enough s = from_boundary F ih o r g p b k (enough refl) s (clear p k next.Boundary refl s.holds)
  one_more F ih (next.Char c) o zero r g p b k enough s = from_character F ih c o r g p b k (enough refl) s (clear p k (next.Char c) refl s.holds)
  one_more F ih (next.Lig c) o zero r g p b k enough s = from_ligature F ih c o r g p b k (enough refl) s

  pub follows : (F : ℕ) → Goal F
  follows zero = no_fuel
  follows (suc F) = one_more F (follows F)
