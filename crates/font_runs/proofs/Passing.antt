-- The first free state of a step: the state itself, or the one past a left boundary whose entry gives nothing.
-- Assumes nothing.
use mathlib.Core.Path.{◌≡◌, refl, sym, ap, subst, ◌∙◌}
use mathlib.Core.Bool.{Bool, true, false, cond, not}
use mathlib.Core.List.{List}
use mathlib.Core.Option.{Option, none, some}
use Prim.Native.Nat.{ℕ, zero, suc, ◌-◌}
use native.Mathlib.Omega.{arith}
use lib.IntN.{ℤ}
use lib.Dec.{ltb, leb, eqb}
use lib.ListN.{length, get_or}
use borrow.Author.Tests.{eqb-true, ne_eqb, leb-true}
use Rattle.lang.specs.Every.{both}
use Rattle.lang.specs.Checks.{is_letter}
use Rattle.lang.proofs.Every.{both_left, both_right}
use Rattle.lang.proofs.Checks.{letter_low}
use Rattle.reading.specs.Items.{item, plain}
use Rattle.captions.specs.declared.RunOptions.{RunOptions}
use Rattle.captions.specs.declared.NextLeft.{NextLeft}
use Rattle.captions.specs.declared.NextLeft.TheVariants as next
use Rattle.captions.specs.declared.State.{State}
use Rattle.captions.specs.declared.Step.{Step}
use Rattle.captions.specs.declared.Turned.{Turned}
use Rattle.captions.specs.declared.Turned.TheVariants.{Gives, Goes}
use Rattle.captions.specs.Tables.{count_of, last_code, last_flag, record_fits}
use Rattle.captions.specs.Queries.{is_found}
use Rattle.captions.specs.Steps.{refused, taken, gathered, left_place_of, after_right, read_on, with_next, give_left, entered_at, gives_nothing, is_character}
use Rattle.captions.specs.Steps.{swallows, entry_reads, turn_by, find_within, turn_with, turn_at_end, turn_at_letter, turn, read_op}
use Rattle.captions.proofs.Beyond.{within_some}
use Rattle.step_turns.specs.Turns.{turn_next, turn_once}
use Rattle.font_runs.specs.Requests.{LentFont}
use Rattle.font_runs.specs.Changes.{pairless, left_free, free_state, on_ahead, free_ahead, right_in, first_free}
use Rattle.font_runs.specs.Passing.{passed_by, passed_left, passed, OnlyBoundaryPasses}

no : {A : Type 0} → ◌≡◌ {A = Bool} false true → A
no e = absurd (let z : ◌≡◌ {A = ℕ} 0 1 = cc in omega arith)

-- ---- states after which no turn of a step is free

data Shut (s : State) : Type 0 where
  has_ops : eqb s.ops 0 ≡ false → Shut s
  has_pending : eqb s.pending 0 ≡ false → Shut s
  at_ligature : (c : ℕ) → s.next_left ≡ next.Lig c → Shut s
  at_last : (c : ℕ) → s.next_left ≡ next.FinalLig c → Shut s
  at_none : s.next_left ≡ next.None → Shut s

data Shuts : Turned → Type 0 where
  gives : {t : Step} → Shuts (Gives t)
  goes : {s : State} → Shut s → Shuts (Goes s)

either : (b : Bool) {t u : Turned} → (b ≡ true → Shuts t) → Shuts u → Shuts (cond b t u)
either true p q = p refl
either false p q = q

second_false : (a : Bool) {b : Bool} → b ≡ false → both a b ≡ false
second_false true e = e
second_false false e = refl

first_false : {a : Bool} (b : Bool) → a ≡ false → both a b ≡ false
first_false b e = rw e

module _ (pairs ops : List ℤ) (right : Option ℕ) (word : List ℕ) where
  abbrev free : State → Bool
  free = free_state pairs right word

  abbrev look : NextLeft → State → Turned
  look = turn pairs ops right word

  abbrev once : State → Turned
  once = turn_once ops look

  -- ---- a pending ligature stays

  left_pends : (x : NextLeft) (s : State) → eqb s.pending 0 ≡ false → Shuts (give_left x s)
  left_pends next.Boundary s h = goes (has_pending h)
  left_pends (next.Char c) s h = gives
  left_pends (next.Lig c) s h = gives
  left_pends (next.FinalLig c) s h = goes (has_pending h)
  left_pends next.None s h = goes (has_pending h)

  by_pends : (x : NextLeft) (letter : Bool) (y : ℕ) (s : State) (o : Option ℕ) → eqb s.pending 0 ≡ false → Shuts (turn_by pairs ops x letter y s o)
  by_pends x letter y s none h = left_pends x (with_next (after_right letter (plain y)) (read_on letter s.read) s) h
  by_pends x letter y s (some k) h = either (entry_reads pairs ops x k) (λ _. goes (has_pending h)) gives

  with_pends : (x : NextLeft) (letter : Bool) (y : ℕ) (s : State) → eqb s.pending 0 ≡ false → Shuts (turn_with pairs ops x letter y s)
  with_pends x letter y s h = by_pends x letter y s (find_within pairs (left_place_of x) y) h

  end_pends : (x : NextLeft) (s : State) (o : Option ℕ) → eqb s.pending 0 ≡ false → Shuts (turn_at_end pairs ops o x s)
  end_pends next.Boundary s o h = gives
  end_pends (next.Char c) s none h = gives
  end_pends (next.Char c) s (some r) h = with_pends (next.Char c) false r s h
  end_pends (next.Lig c) s none h = gives
  end_pends (next.Lig c) s (some r) h = with_pends (next.Lig c) false r s h
  end_pends (next.FinalLig c) s o h = gives
  end_pends next.None s o h = gives

  turn_pends : (x : NextLeft) (s : State) → eqb (gathered x s).pending 0 ≡ false → Shuts (look x s)
  turn_pends x s h =
      either (ltb s.read (length word))
      (λ _. either (is_letter (get_or word s.read 0)) (λ _. with_pends x true (get_or word s.read 0) (gathered x s) h) gives)
      (end_pends x (gathered x s) right h)

  -- a left that is a ligature makes one pending
  ligature_pends : (c : ℕ) (s : State) → Shuts (look (next.Lig c) s)
  ligature_pends c s = turn_pends (next.Lig c) s (ne_eqb (suc (taken s)) 0 (λ e. omega (arith, e)))

  next_pends : (s : State) (x : NextLeft) → eqb s.pending 0 ≡ false → Shuts (turn_next look s x)
  next_pends s next.Boundary h = turn_pends next.Boundary s h
  next_pends s (next.Char c) h = turn_pends (next.Char c) s h
  next_pends s (next.Lig c) h = ligature_pends c s
  next_pends s (next.FinalLig c) h = gives
  next_pends s next.None h = gives

  -- ---- from such a state

  shut_free : {s : State} → Shut s → free s ≡ false
  shut_free (has_ops h) = first_false _ h
  shut_free {s} (has_pending h) = second_false (eqb s.ops 0) (first_false _ h)
  shut_free {s} (at_ligature c e) = rw e (second_false (eqb s.ops 0) (second_false (eqb s.pending 0) refl))
  shut_free {s} (at_last c e) = rw e (second_false (eqb s.ops 0) (second_false (eqb s.pending 0) refl))
  shut_free {s} (at_none e) = rw e (second_false (eqb s.ops 0) (second_false (eqb s.pending 0) refl))

  -- one turn, by what is next
  abbrev Once : State → NextLeft → Turned
  Once s x = cond (eqb s.ops 0) (turn_next look s x) (Gives (read_op ops s))

  next_shuts : (s : State) {x : NextLeft} → s.next_left ≡ x → Shuts (Once s x) → Shuts (once s)
  next_shuts s e h = subst (λ (y : NextLeft). Shuts (Once s y)) (sym e) h

  shut_once : {s : State} → Shut s → Shuts (once s)
  shut_once (has_ops h) = rw h gives
  shut_once {s} (has_pending h) = either (eqb s.ops 0) (λ _. next_pends s s.next_left h) gives
  shut_once {s} (at_ligature c e) = next_shuts s e (either (eqb s.ops 0) (λ _. ligature_pends c s) gives)
  shut_once {s} (at_last c e) = next_shuts s e (either (eqb s.ops 0) (λ _. gives) gives)
  shut_once {s} (at_none e) = next_shuts s e (either (eqb s.ops 0) (λ _. gives) gives)

  on_none : (go : State → Option State) → ((s : State) → Shut s → go s ≡ none) → {t : Turned} → Shuts t → on_ahead go t ≡ none
  on_none go h gives = refl
  on_none go h (goes {s = s} q) = h s q

  none_ahead : (n : ℕ) (s : State) → Shut s → free_ahead free once n s ≡ none
  unfolding free_ahead
  none_ahead zero s h = rw (shut_free h)
  none_ahead (suc n) s h = rw (shut_free h) (on_none (free_ahead free once n) (none_ahead n) (shut_once h))

  -- ---- an entry

  entered_by : (x : NextLeft) (letter : Bool) (s : State) (k : ℕ) (z f : Bool) → eqb (count_of pairs k) 0 ≡ z → last_flag pairs k ≡ f →
      both z (not f) ≡ false → Shut (entered_at pairs x letter s k)
  entered_by x letter s k false f p q h = has_ops p
  entered_by x true s k true true p q h = at_ligature (last_code pairs k) (rw q)
  entered_by x false s k true true p q h = at_last (last_code pairs k) (rw q)
  entered_by x letter s k true false p q h = no (sym h)

  -- one that gives something
  entered_shut : (x : NextLeft) (letter : Bool) (s : State) (k : ℕ) → gives_nothing pairs k ≡ false → Shut (entered_at pairs x letter s k)
  entered_shut x letter s k h = entered_by x letter s k (eqb (count_of pairs k) 0) (last_flag pairs k) refl refl h

  not_both : (a b : Bool) → both a (not b) ≡ true → b ≡ false
  not_both true true h = no h
  not_both true false h = refl
  not_both false b h = no h

  -- a left character that has a pair
  character_shut : (c : ℕ) (letter : Bool) (y : ℕ) (s : State) (o : Option ℕ) → not (is_found o) ≡ false → Shuts (turn_by pairs ops (next.Char c) letter y s o)
  character_shut c letter y s none h = no (sym h)
  character_shut c letter y s (some k) h =
      either (entry_reads pairs ops (next.Char c) k)
      (λ e. goes (entered_shut (next.Char c) letter s k (not_both (record_fits pairs ops k) (gives_nothing pairs k) e))) gives

  end_shut : (c : ℕ) (s : State) (o : Option ℕ) → pairless pairs (suc c) o ≡ false → Shuts (turn_at_end pairs ops o (next.Char c) s)
  end_shut c s none h = no (sym h)
  end_shut c s (some r) h = character_shut c false r s (find_within pairs (suc c) r) h

  look_shut : (c : ℕ) (s : State) (b : Bool) → ltb s.read (length word) ≡ b →
      pairless pairs (suc c) (cond b (some (get_or word s.read 0)) right) ≡ false → Shuts (look (next.Char c) s)
  look_shut c s true e h =
      rw e (either (is_letter (get_or word s.read 0))
      (λ _. character_shut c true (get_or word s.read 0) s (find_within pairs (suc c) (get_or word s.read 0)) h) gives)
  look_shut c s false e h = rw e (end_shut c s right h)

  -- by what is next
  abbrev Free : State → NextLeft → Bool
  Free s x = both (eqb s.ops 0) (both (eqb s.pending 0) (left_free pairs right word s.read x))

  -- a character that is not free
  character_once : (s : State) (c : ℕ) (a b : Bool) → eqb s.ops 0 ≡ a → eqb s.pending 0 ≡ b →
      both a (both b (left_free pairs right word s.read (next.Char c))) ≡ false → Shuts (cond a (look (next.Char c) s) (Gives (read_op ops s)))
  character_once s c false b p q h = gives
  character_once s c true false p q h = turn_pends (next.Char c) s q
  character_once s c true true p q h = look_shut c s (ltb s.read (length word)) refl h

  free_or : (n : ℕ) (s : State) (c : ℕ) (b : Bool) → Free s (next.Char c) ≡ b →
      cond b (some s) (on_ahead (free_ahead free once n) (Once s (next.Char c))) ≡ cond b (some s) none
  free_or n s c true e = refl
  free_or n s c false e =
      on_none (free_ahead free once n) (none_ahead n) (character_once s c (eqb s.ops 0) (eqb s.pending 0) refl refl e)

  -- nothing is ahead of a character
  alone_by : (n : ℕ) (s : State) (c : ℕ) → cond (Free s (next.Char c)) (some s) (on_ahead (free_ahead free once n) (Once s (next.Char c)))
      ≡ cond (Free s (next.Char c)) (some s) none
  alone_by n s c = free_or n s c (Free s (next.Char c)) refl

  alone : (n : ℕ) (s : State) (c : ℕ) → s.next_left ≡ next.Char c → free_ahead free once n s ≡ cond (free s) (some s) none
  unfolding free_ahead
  alone zero s c e = refl
  alone (suc n) s c e =
      subst (λ (x : NextLeft). cond (Free s x) (some s) (on_ahead (free_ahead free once n) (Once s x)) ≡ cond (Free s x) (some s) none) (sym e)
      (alone_by n s c)

  -- ---- by what is next, in a step that has n turns more

  abbrev Passed : State → NextLeft → State
  Passed s x = cond (eqb s.ops 0) (passed_left pairs ops word s x) s

  abbrev Law : ℕ → State → NextLeft → Type 0
  Law n s x =
      cond (Free s x) (some s) (on_ahead (free_ahead free once n) (Once s x)) ≡ cond (free (Passed s x)) (some (Passed s x)) none

  module _ (n : ℕ) (s : State) where
    -- nothing is passed
    stands : (x : NextLeft) → s.next_left ≡ x → Passed s x ≡ s → (Free s x ≡ false → Shuts (Once s x)) → Law n s x
    stands x e p h = by (Free s x) refl ∙ ap (λ (b : Bool). cond b (some s) none) (sym (ap (Free s) e))
        ∙ ap (λ (t : State). cond (free t) (some t) none) (sym p)
      where
        by : (b : Bool) → Free s x ≡ b → cond b (some s) (on_ahead (free_ahead free once n) (Once s x)) ≡ cond b (some s) none
        by true q = refl
        by false q = on_none (free_ahead free once n) (none_ahead n) (h q)

    same : (b : Bool) → cond b s s ≡ s
    same true = refl
    same false = refl

    -- an entry of the left boundary, from which s is not free
    at_entry : (k : ℕ) → free s ≡ false → (r g : Bool) → record_fits pairs ops k ≡ r → gives_nothing pairs k ≡ g →
        on_ahead (free_ahead free once n) (cond (both r true) (Goes (entered_at pairs next.Boundary true s k)) (Gives (refused 7 s)))
        ≡ cond (free (cond (both r g) (entered_at pairs next.Boundary true s k) s)) (some (cond (both r g) (entered_at pairs next.Boundary true s k) s)) none
    at_entry k f false g p q = rw f
    at_entry k f true false p q = rw f (none_ahead n (entered_at pairs next.Boundary true s k) (entered_shut next.Boundary true s k q))
    at_entry k f true true p q =
        let u : last_flag pairs k ≡ false = not_both (eqb (count_of pairs k) 0) (last_flag pairs k) q in
        alone n (entered_at pairs next.Boundary true s k) (last_code pairs k) (rw u)

    -- the left boundary, with a letter y to read and by the pair of both
    at_pair : (y : ℕ) (o : Option ℕ) (b : Bool) → find_within pairs 0 y ≡ o → eqb s.pending 0 ≡ b → s.next_left ≡ next.Boundary →
        free s ≡ both b (not (is_found o)) →
        cond (both b (not (is_found o))) (some s) (on_ahead (free_ahead free once n)
        (cond (is_letter y) (turn_by pairs ops next.Boundary true y s o) (Gives (refused 20 s))))
        ≡ cond (free (passed_by pairs ops s o)) (some (passed_by pairs ops s o)) none
    at_pair y none true q p e f = rw f
    at_pair y none false q p e f =
        rw f (on_none (free_ahead free once n) (none_ahead n)
        (either (is_letter y) (λ _. goes (has_pending p)) gives))
    at_pair y (some k) b q p e f =
        let l : is_letter y ≡ true = letter_low y (omega (arith, (within_some pairs 0 y k q).0)) in
        let z : free s ≡ false = f ∙ second_false b refl in
        rw (second_false b {b = false} refl, l) (at_entry k z (record_fits pairs ops k) (gives_nothing pairs k) refl refl)

    at_boundary : (b : Bool) → eqb s.pending 0 ≡ b → s.next_left ≡ next.Boundary → eqb s.ops 0 ≡ true → (l : Bool) →
        ltb s.read (length word) ≡ l → Law n s next.Boundary
    at_boundary b p e o true l =
        let y = get_or word s.read 0 in
        let w = find_within pairs 0 y in
        let f : free s ≡ both b (not (is_found w)) = ap (Free s) e ∙ rw (o, p, l) in
        rw (o, p, l) (at_pair y w b refl p e f)
    at_boundary b p e o false l =
        let f : free s ≡ false = ap (Free s) e ∙ rw (o, l) (second_false (eqb s.pending 0) refl) in
        rw (o, l, f, second_false (eqb s.pending 0) {b = false} refl)

    by_next : (x : NextLeft) → s.next_left ≡ x → (o : Bool) → eqb s.ops 0 ≡ o → Law n s x
    by_next next.Boundary e false o = stands next.Boundary e (rw o) (λ _. rw o gives)
    by_next next.Boundary e true o = at_boundary (eqb s.pending 0) refl e o (ltb s.read (length word)) refl
    by_next (next.Char c) e b o = stands (next.Char c) e (same (eqb s.ops 0)) (λ h. character_once s c (eqb s.ops 0) (eqb s.pending 0) refl refl h)
    by_next (next.Lig c) e b o = stands (next.Lig c) e (same (eqb s.ops 0)) (λ _. either (eqb s.ops 0) (λ _. ligature_pends c s) gives)
    by_next (next.FinalLig c) e b o = stands (next.FinalLig c) e (same (eqb s.ops 0)) (λ _. either (eqb s.ops 0) (λ _. gives) gives)
    by_next next.None e b o = stands next.None e (same (eqb s.ops 0)) (λ _. either (eqb s.ops 0) (λ _. gives) gives)

pub first_free_lem : OnlyBoundaryPasses
unfolding free_ahead
first_free_lem font word options s =
    by_next font.pairs font.ops (right_in font options) word (length word - s.read) s s.next_left refl (eqb s.ops 0) refl

-- ---- the first free state by cases: the state itself, or past a left boundary whose entry gives nothing

module _ (font : LentFont) (word : List ℕ) (options : RunOptions) (s : State) (P : State → Type 0) where
  abbrev WhenFree : State → Type 0
  WhenFree t = free_state font.pairs (right_in font options) word t ≡ true → P t

  abbrev entered : ℕ → State
  entered k = entered_at font.pairs next.Boundary true s k

  abbrev WhenPassed : ℕ → Type 0
  WhenPassed k =
      s.next_left ≡ next.Boundary → s.ops ≡ 0 → ltb s.read (length word) ≡ true →
      find_within font.pairs 0 (get_or word s.read 0) ≡ some k → record_fits font.pairs font.ops k ≡ true → gives_nothing font.pairs k ≡ true →
      WhenFree (entered k)

  module _ (itself : WhenFree s) (past : (k : ℕ) → WhenPassed k) where
    by_entry : (k : ℕ) → s.next_left ≡ next.Boundary → s.ops ≡ 0 → ltb s.read (length word) ≡ true →
        find_within font.pairs 0 (get_or word s.read 0) ≡ some k → (b : Bool) →
        both (record_fits font.pairs font.ops k) (gives_nothing font.pairs k) ≡ b → WhenFree (cond b (entered k) s)
    by_entry k e z i w true q =
        past k e z i w (both_left (record_fits font.pairs font.ops k) _ q)
        (both_right (record_fits font.pairs font.ops k) (gives_nothing font.pairs k) q)
    by_entry k e z i w false q = itself

    by-pair : s.next_left ≡ next.Boundary → s.ops ≡ 0 → ltb s.read (length word) ≡ true → (o : Option ℕ) →
        find_within font.pairs 0 (get_or word s.read 0) ≡ o → WhenFree (passed_by font.pairs font.ops s o)
    by-pair e z i none w = itself
    by-pair e z i (some k) w = by_entry k e z i w (both (record_fits font.pairs font.ops k) (gives_nothing font.pairs k)) refl

    by_letter_lem : s.next_left ≡ next.Boundary → s.ops ≡ 0 → (b : Bool) → ltb s.read (length word) ≡ b →
        WhenFree (cond b (passed_by font.pairs font.ops s (find_within font.pairs 0 (get_or word s.read 0))) s)
    by_letter_lem e z true i = by-pair e z i (find_within font.pairs 0 (get_or word s.read 0)) refl
    by_letter_lem e z false i = itself

    by_left : s.ops ≡ 0 → (x : NextLeft) → s.next_left ≡ x → WhenFree (passed_left font.pairs font.ops word s x)
    by_left z next.Boundary e = by_letter_lem e z (ltb s.read (length word)) refl
    by_left z (next.Char c) e = itself
    by_left z (next.Lig c) e = itself
    by_left z (next.FinalLig c) e = itself
    by_left z next.None e = itself

    by_ops : (b : Bool) → eqb s.ops 0 ≡ b → WhenFree (cond b (passed_left font.pairs font.ops word s s.next_left) s)
    by_ops true e = by_left (eqb-true s.ops 0 e) s.next_left refl
    by_ops false e = itself

    by_free : (t : State) → WhenFree t → (b : Bool) → free_state font.pairs (right_in font options) word t ≡ b → (u : State) →
        cond b (some t) none ≡ some u → P u
    by_free t h true f u e = subst P (let q : t ≡ u = cc in q) (h f)
    by_free t h false f u e = absurd (let z : ◌≡◌ {A = ℕ} 0 1 = cc in omega arith)

    pub first_cases : (u : State) → first_free font word options s ≡ some u → P u
    first_cases u e =
        by_free (passed font word s) (by_ops (eqb s.ops 0) refl) (free_state font.pairs (right_in font options) word (passed font word s)) refl u
        (sym (first_free_lem font word options s) ∙ e)
