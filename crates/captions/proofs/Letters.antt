-- No letter lost: from a sound state a step gives the next letters of the word, whatever it looks up; so any number of steps do.
-- The statements are specs/Letters. Assumes nothing.
use mathlib.Core.Path.{◌≡◌, refl, sym, ◌∙◌}
use mathlib.Core.Bool.{Bool, true, false, cond}
use mathlib.Core.List.{List}
use mathlib.Core.Option.{Option, none, some}
use Prim.Native.Nat.{ℕ, zero, suc, ◌+◌, ◌-◌, ◌<◌, ◌≤◌}
use native.Mathlib.Omega.{arith}
use lib.IntN.{ℤ}
use lib.Dec.{ltb}
use lib.ListN.{length, get_or}
use borrow.Author.Tests.{ltb-true, ltb-false, eqb-true}
use Rattle.words.specs.Words.{word_of}
use Rattle.lang.specs.Checks.{is_letter}
use Rattle.reading.specs.Items.{Left, Item, item, Out}
use Rattle.reading.specs.Depth.{Res}
use Rattle.reading.specs.Form.{no_plain, ops_form, last_form, formed}
use Rattle.fonts.specs.Fonts.{left_of}
use Rattle.captions.specs.declared.NextLeft.{NextLeft}
use Rattle.captions.specs.declared.NextLeft.TheVariants as next
use Rattle.captions.specs.declared.Consumes.{Consumes}
use Rattle.captions.specs.declared.Consumes.TheVariants as consumes
use Rattle.captions.specs.declared.State.{State}
use Rattle.captions.specs.declared.Turned.{Turned}
use Rattle.captions.specs.Tables.{op_count, number, key_by, find, first_op, count_of, last_code, last_flag, entry_of_pair, ops_from}
use Rattle.captions.specs.Form.{table_form}
use Rattle.captions.specs.Steps.{refused, left_letters, takes_boundary, left_place_of, left_consumed, after_right, read_on, entered_at, turn_by}
use Rattle.captions.specs.Steps.{find_within, turn_at_end, turn_at_letter, turn, goes_on, run_on}
use Rattle.captions.proofs.Finding.{find_inside}
use Rattle.captions.proofs.Beyond.{within_some}
use Rattle.captions.proofs.Raising.{form_ops, boundary_no_plain}
use Rattle.captions.proofs.Sound.{state, Sound}
use Rattle.captions.proofs.Following.{Formed, found_formed, all_ops, is_now}
use Rattle.captions.proofs.Turning.{Lefts, boundary, character, ligature, clear, no_char, no_lig, now_final, follows_entry, entered_sound}
use Rattle.captions.proofs.Lettered.{if_left, plains_are, none_plain, left_plain, Own, Plains, Lettered, Keeps}
use Rattle.captions.proofs.Lettered.{keeps_letter, keeps_pending, keeps_end, keeps_now}

-- ---- lefts that are looked up

-- a pair that is found for a letter has it as its right
pub found_right : (pairs ops : List ℤ) (left y k : ℕ) → y ≤ 255 → find pairs (key_by left y) ≡ some k → Formed pairs ops left k →
    word_of (number pairs k 1) ≡ y
found_right pairs ops left y k small e f = omega (arith, (find_inside pairs (key_by left y) k e).1, f.right)

pub form_last : (l : Left) (r : ℕ) (q : Res) → formed l r q ≡ true → last_form r q.last ≡ true
form_last l r q h = if_left (last_form r q.last) (ops_form l q.outs q.last) h

-- the letter that was read
pub own_next : (word : List ℕ) (r y : ℕ) → get_or word r 0 ≡ y → Own word (suc r) (next.Char y)
own_next word r y e = let d : suc r - 1 ≡ r = omega arith in rw d e

-- what is next after an entry with a letter y of the word: y itself, or a ligature
pub own_letter : (word : List ℕ) (r y : ℕ) (f : Bool) (c : ℕ) → get_or word r 0 ≡ y → last_form y (item f c) ≡ true →
    Own word (suc r) (after_right true (item f c))
own_letter word r y true c e h = tt
own_letter word r y false c e h = own_next word r c (e ∙ sym (eqb-true c y h))

-- .. and after the right item
pub own_end_lem : (word : List ℕ) (r : ℕ) (f : Bool) (c : ℕ) → r ≡ length word → Own word r (after_right false (item f c))
own_end_lem word r true c e = e
own_end_lem word r false c e = e

-- a left character is the letter that is given next
abbrev pub Stands : List ℕ → ℕ → NextLeft → Type 0
Stands word g next.Boundary = Unit {0}
Stands word g (next.Char c) = get_or word g 0 ≡ c
Stands word g (next.Lig c) = Unit {0}
Stands word g (next.FinalLig c) = Unit {0}
Stands word g next.None = Unit {0}

-- so the plain ops of its pair are that letter
entry_plains : {x : NextLeft} {p : ℕ} → Lefts x p → (word : List ℕ) (g : ℕ) (os : List Out) (i : Item) → Stands word g x →
    ops_form (left_of (left_place_of x)) os i ≡ true → Plains word p g os
entry_plains boundary word g os i e h = none_plain (get_or word g 0) os (boundary_no_plain os i h)
entry_plains (character c) word g os i e h = rw e (left_plain c os i h)
entry_plains (ligature c p) word g os i e h = tt

module _ (pairs ops : List ℤ) (table : table_form pairs ops ≡ true) (word : List ℕ) (right : Option ℕ)
    (letters : (i : ℕ) → i < length word → is_letter (get_or word i 0) ≡ true) where
  abbrev look : NextLeft → State → Turned
  look = turn pairs ops right word

  -- an entry's state has its letters
  pub entered_lettered : {x : NextLeft} {p : ℕ} → Lefts x p → (letter : Bool) (o m r g k : ℕ) (b : Bool) (c : Consumes) → Formed pairs ops (left_place_of x) k →
      Own word (read_on letter r) (after_right letter (item (last_flag pairs k) (last_code pairs k))) → Stands word g x →
      Lettered ops word (entered_at pairs x letter (state x o m r g p b c) k) (ops_from ops (first_op pairs k) (count_of pairs k))
  entered_lettered {x} {p} s letter o m r g k b c f e h =
      record {
        own = e;
        plains =
            entry_plains s word g (ops_from ops (first_op pairs k) (count_of pairs k)) (item (last_flag pairs k) (last_code pairs k)) h
            (form_ops (left_of (left_place_of x)) (word_of (number pairs k 1)) (entry_of_pair pairs ops k) f.form);
      }

  -- from every sound state with fuel enough
  abbrev Goal : ℕ → Type 0
  Goal F =
      (n : NextLeft) (o m r g p : ℕ) (b : Bool) (k : Consumes) → (is_now m n ≡ false → length word - r < F) →
      Sound ops word (state n o m r g p b k) (ops_from ops o m) → Lettered ops word (state n o m r g p b k) (ops_from ops o m) →
      Keeps ops word g (run_on ops look F (state n o m r g p b k))

  -- a letter
  at_letter : (F : ℕ) → Goal F → {x : NextLeft} {p : ℕ} → Lefts x p → (o r g y : ℕ) (b : Bool) (k : Consumes) → suc r ≤ length word → is_letter y ≡ true →
      get_or word r 0 ≡ y → length word - r < suc F → o ≤ op_count ops → g + (p + left_letters (left_consumed x)) ≡ r → Stands word g x →
      (e : Option ℕ) → find_within pairs (left_place_of x) y ≡ e →
      Keeps ops word g (goes_on (run_on ops look F) (turn_by pairs ops x true y (state x o 0 r g p b k) e))
  unfolding ops_from no_plain plains_are
  at_letter F ih boundary o r g y b k i small is enough u h z none e =
      ih (next.Char y) o 0 (suc r) g 0 b consumes.Nothing (λ _. omega arith)
      record { inside = i; counted = omega arith; among = omega arith; fits = small; holds = refl }
      record { own = own_next word r y is; plains = refl }
  at_letter F ih (character c) o r g y b k i small is enough u h z none e =
      keeps_letter ops word (next.Char y) o 0 (suc r) g b consumes.Nothing c (i, own_next word r y is, refl) (omega arith) z
  at_letter F ih (ligature c p) o r g y b k i small is enough u h z none e =
      keeps_pending ops word (next.Char y) o 0 (suc r) g p b consumes.Nothing c (i, own_next word r y is, refl) (omega arith)
  at_letter F ih {x} {p} s o r g y b k i small is enough u h z (some j) e =
      let z' = within_some pairs (left_place_of x) y j e in
      let f = found_formed pairs ops table (left_place_of x) y j z'.0 z'.1 in
      let l : last_form y (item (last_flag pairs j) (last_code pairs j)) ≡ true =
      rw (found_right pairs ops (left_place_of x) y j z'.0 z'.1 f) at
      (form_last (left_of (left_place_of x)) (word_of (number pairs j 1)) (entry_of_pair pairs ops j) f.form) in
      rw (follows_entry pairs ops table word right letters s f)
      (ih (after_right true (item (last_flag pairs j) (last_code pairs j))) (first_op pairs j) (count_of pairs j) (suc r) g p b (left_consumed x) (λ _. omega arith)
      (entered_sound pairs ops table word right letters s true o 0 r g j b k f i h)
      (entered_lettered s true o 0 r g j b k f (own_letter word r y (last_flag pairs j) (last_code pairs j) is l) z))

  -- whatever fuel is left
  run_now : (F : ℕ) (n : NextLeft) (o m r g p : ℕ) (b : Bool) (k : Consumes) → is_now m n ≡ true → Sound ops word (state n o m r g p b k) (ops_from ops o m) →
      Lettered ops word (state n o m r g p b k) (ops_from ops o m) → Keeps ops word g (run_on ops look F (state n o m r g p b k))
  unfolding run_on
  run_now zero n o m r g p b k h s l = keeps_now ops word (all_ops pairs ops table) look (refused 7) n o m r g p b k h s l
  run_now (suc F) n o m r g p b k h s l = keeps_now ops word (all_ops pairs ops table) look (run_on ops look F) n o m r g p b k h s l

  -- the word's end, with a right item
  at_right : (F : ℕ) {x : NextLeft} {p : ℕ} → Lefts x p → (x ≡ next.Boundary → ⊥) → (o r g y : ℕ) (b : Bool) (k : Consumes) → r ≡ length word →
      o ≤ op_count ops → g + (p + left_letters (left_consumed x)) ≡ r → Stands word g x →
      (e : Option ℕ) → find_within pairs (left_place_of x) y ≡ e →
      Keeps ops word g (goes_on (run_on ops look F) (turn_by pairs ops x false y (state x o 0 r g p b k) e))
  unfolding ops_from no_plain
  at_right F boundary z o r g y b k d u h w none e = absurd (z refl)
  at_right F (character c) z o r g y b k d u h w none e =
      keeps_letter ops word next.None o 0 r g b consumes.Nothing c (omega arith, d, refl) (omega arith) w
  at_right F (ligature c p) z o r g y b k d u h w none e =
      keeps_pending ops word next.None o 0 r g p b consumes.Nothing c (omega arith, d, refl) (omega arith)
  at_right F {x} {p} s z o r g y b k d u h w (some j) e =
      let z' = within_some pairs (left_place_of x) y j e in
      let f = found_formed pairs ops table (left_place_of x) y j z'.0 z'.1 in
      let t = after_right false (item (last_flag pairs j) (last_code pairs j)) in
      rw (follows_entry pairs ops table word right letters s f)
      (run_now F t (first_op pairs j) (count_of pairs j) r g p b (left_consumed x) (now_final (count_of pairs j) (last_flag pairs j) (last_code pairs j))
      (entered_sound pairs ops table word right letters s false o 0 r g j b k f (omega arith) h)
      (entered_lettered s false o 0 r g j b k f (own_end_lem word r (last_flag pairs j) (last_code pairs j) d) w))

  -- .. or without
  at_end_lem : (F : ℕ) {x : NextLeft} {p : ℕ} → Lefts x p → (e : Option ℕ) → right ≡ e → (o r g : ℕ) (b : Bool) (k : Consumes) → r ≡ length word →
      o ≤ op_count ops → g + (p + left_letters (left_consumed x)) ≡ r → Stands word g x → Plains word p g (ops_from ops o 0) →
      Keeps ops word g (goes_on (run_on ops look F) (turn_at_end pairs ops e x (state x o 0 r g p b k)))
  unfolding ops_from no_plain
  at_end_lem F boundary e q o r g b k d u h w a = keeps_end ops word next.Boundary o r g 0 b k d (omega arith) record { own = tt; plains = a }
  at_end_lem F (character c) none q o r g b k d u h w a =
      keeps_letter ops word next.None o 0 r g b consumes.Nothing c (omega arith, d, refl) (omega arith) w
  at_end_lem F (character c) (some y) q o r g b k d u h w a =
      at_right F (character c) (λ e. no_char e) o r g y b k d u h w (find_within pairs (suc c) y) refl
  at_end_lem F (ligature c p) none q o r g b k d u h w a =
      keeps_pending ops word next.None o 0 r g p b consumes.Nothing c (omega arith, d, refl) (omega arith)
  at_end_lem F (ligature c p) (some y) q o r g b k d u h w a =
      at_right F (ligature c p) (λ e. no_lig e) o r g y b k d u h w (find_within pairs (suc c) y) refl

  -- a left with what is next in the word
  at_left : (F : ℕ) → Goal F → {x : NextLeft} {p : ℕ} → Lefts x p → (o r g : ℕ) (b : Bool) (k : Consumes) → r ≤ length word → length word - r < suc F →
      o ≤ op_count ops → g + (p + left_letters (left_consumed x)) ≡ r → Stands word g x → Plains word p g (ops_from ops o 0) →
      (t : Bool) → ltb r (length word) ≡ t →
      Keeps ops word g
      (goes_on (run_on ops look F)
      (cond t (turn_at_letter pairs ops x (get_or word r 0) (state x o 0 r g p b k)) (turn_at_end pairs ops right x (state x o 0 r g p b k))))
  at_left F ih {x} {p} s o r g b k i enough u h w a true e =
      let l : r < length word = ltb-true r (length word) e in
      let t = letters r l in
      rw t (at_letter F ih s o r g (get_or word r 0) b k l t refl enough u h w (find_within pairs (left_place_of x) (get_or word r 0)) refl)
  at_left F ih {x} {p} s o r g b k i enough u h w a false e =
      at_end_lem F s right refl o r g b k (omega (arith, ltb-false r (length word) e)) u h w a

  -- a left that is no ligature
  from_boundary : (F : ℕ) → Goal F → (o r g p : ℕ) (b : Bool) (k : Consumes) → length word - r < suc F →
      Sound ops word (state next.Boundary o 0 r g p b k) (ops_from ops o 0) → Plains word p g (ops_from ops o 0) → p + left_letters k ≡ 0 →
      Keeps ops word g (goes_on (run_on ops look F) (look next.Boundary (state next.Boundary o 0 r g p b k)))
  from_boundary F ih o r g zero b k enough s l e =
      at_left F ih boundary o r g b k s.inside enough (omega (arith, s.among)) (omega (arith, s.counted)) tt l (ltb r (length word)) refl
  from_boundary F ih o r g (suc p) b k enough s l e = absurd (omega (arith, e))

  from_character : (F : ℕ) → Goal F → (c o r g p : ℕ) (b : Bool) (k : Consumes) → length word - r < suc F →
      Sound ops word (state (next.Char c) o 0 r g p b k) (ops_from ops o 0) → Lettered ops word (state (next.Char c) o 0 r g p b k) (ops_from ops o 0) →
      p + left_letters k ≡ 0 → Keeps ops word g (goes_on (run_on ops look F) (look (next.Char c) (state (next.Char c) o 0 r g p b k)))
  from_character F ih c o r g zero b k enough s l e =
      let d : r - 1 ≡ g = omega (arith, s.counted) in
      at_left F ih (character c) o r g b k s.inside enough (omega (arith, s.among)) (omega (arith, s.counted)) (rw d at l.own) l.plains
      (ltb r (length word)) refl
  from_character F ih c o r g (suc p) b k enough s l e = absurd (omega (arith, e))

  from_ligature : (F : ℕ) → Goal F → (c o r g p : ℕ) (b : Bool) (k : Consumes) → length word - r < suc F →
      Sound ops word (state (next.Lig c) o 0 r g p b k) (ops_from ops o 0) →
      Keeps ops word g (goes_on (run_on ops look F) (look (next.Lig c) (state (next.Lig c) o 0 r g p b k)))
  from_ligature F ih c o r g p b k enough s =
      at_left F ih (ligature c (p + left_letters k)) o r g (takes_boundary (state (next.Lig c) o 0 r g p b k)) consumes.Nothing s.inside enough
      (omega (arith, s.among)) (omega (arith, s.counted)) tt tt (ltb r (length word)) refl

  no_fuel : Goal 0
  no_fuel n o (suc m) r g p b k enough s l = run_now 0 n o (suc m) r g p b k refl s l
  no_fuel (next.FinalLig c) o zero r g p b k enough s l = run_now 0 (next.FinalLig c) o zero r g p b k refl s l
  no_fuel next.None o zero r g p b k enough s l = run_now 0 next.None o zero r g p b k refl s l
  no_fuel next.Boundary o zero r g p b k enough s l = absurd (omega (arith, enough refl))
  no_fuel (next.Char c) o zero r g p b k enough s l = absurd (omega (arith, enough refl))
  no_fuel (next.Lig c) o zero r g p b k enough s l = absurd (omega (arith, enough refl))

  one_more : (F : ℕ) → Goal F → Goal (suc F)
  unfolding run_on ops_from
  one_more F ih n o (suc m) r g p b k enough s l = run_now (suc F) n o (suc m) r g p b k refl s l
  one_more F ih (next.FinalLig c) o zero r g p b k enough s l = run_now (suc F) (next.FinalLig c) o zero r g p b k refl s l
  one_more F ih next.None o zero r g p b k enough s l = run_now (suc F) next.None o zero r g p b k refl s l
  one_more F ih next.Boundary o zero r g p b k enough s l =
      from_boundary F ih o r g p b k (enough refl) s l.plains (clear p k next.Boundary refl s.holds)
  one_more F ih (next.Char c) o zero r g p b k enough s l =
      from_character F ih c o r g p b k (enough refl) s l (clear p k (next.Char c) refl s.holds)
  one_more F ih (next.Lig c) o zero r g p b k enough s l = from_ligature F ih c o r g p b k (enough refl) s

  pub keeps : (F : ℕ) → Goal F
  keeps zero = no_fuel
  keeps (suc F) = one_more F (keeps F)
