-- A font that is asked for waits where an op is to be given, or where the next left is a character with a pair: specs/Waiting.
-- Assumes nothing.
use mathlib.Core.Path.{◌≡◌, refl, ap, ◌∙◌}
use mathlib.Core.Bool.{Bool, true, false, cond}
use mathlib.Core.List.{List}
use mathlib.Core.Option.{Option, none, some}
use Prim.Native.Nat.{ℕ, suc, ◌+◌, ◌<◌, ◌≤◌}
use native.Mathlib.Numerals.{add-one}
use native.Mathlib.Omega.{arith}
use lib.IntN.{ℤ}
use lib.Dec.{ltb, leb, eqb}
use lib.ListN.{length}
use borrow.Author.Tests.{ltb-true, lt-ltb, le-ltb, leb-true, lt-leb, le-leb, eq-eqb, ne_eqb}
use Rattle.lang.specs.Every.{both}
use Rattle.lang.specs.Checks.{absent_refusal}
use Rattle.lang.proofs.Every.{both_left, both_right}
use Rattle.captions.specs.declared.RunOptions.{RunOptions}
use Rattle.captions.specs.declared.NextLeft.TheVariants as next
use Rattle.captions.specs.declared.State.{State}
use Rattle.captions.specs.Tables.{pair_count, key_by, find}
use Rattle.captions.specs.Queries.{is_found}
use Rattle.captions.specs.Steps.{find_within}
use Rattle.captions.proofs.Beyond.{looks_up_within}
use Rattle.step_quick.specs.Quick.{plain_code, next_letter, place_or, found_place}
use Rattle.step_quick.proofs.Theorems.{plain_char}
use Rattle.c_states.specs.States.{state_read, or_outside}
use Rattle.font_runs.specs.Requests.{LentFont}
use Rattle.font_runs.specs.Changes.{left_free, free_state, right_in, first_free}
use Rattle.font_runs.specs.Passing.{passed_left, passed}
use Rattle.font_runs.proofs.Theorems.{only_boundary_passes}
use Rattle.c_font_runs.specs.RunLists.{is_run}
use Rattle.c_font_runs.proofs.Laws.{state_read_lem}
use Rattle.c_font_waits.specs.Waiting.{has_pair, is_held, is_waiting, HeldWaits}

-- ---- the tests

module _ (pairs : List ℤ) (word : List ℕ) (s : State) {k : ℕ} (code : k ≡ plain_code s.next_left) where
  above : 255 < k → leb (plain_code s.next_left) 255 ≡ false
  above h = lt-leb (plain_code s.next_left) 255 (omega (arith, h, code))

  within_code : k ≤ 255 → leb (plain_code s.next_left) 255 ≡ true
  within_code h = le-leb (plain_code s.next_left) 255 (omega (arith, h, code))

  pub no_character : 255 < k → false ≡ has_pair pairs word s
  no_character h = rw (above h)

  module _ (few : k ≤ 255) where
    pub no_letter : length word ≤ s.read → false ≡ has_pair pairs word s
    no_letter h = rw (within_code few, le-ltb s.read (length word) h)

    module _ (there : s.read < length word) where
      pub letter_above : 255 < next_letter word s → false ≡ has_pair pairs word s
      letter_above h = rw (within_code few, lt-ltb s.read (length word) there, lt-leb (next_letter word s) 255 h)

      pub by_place : {p : ℕ} → next_letter word s ≤ 255 → p ≡ found_place pairs (k + 1) (next_letter word s) →
          ltb p (pair_count pairs) ≡ has_pair pairs word s
      by_place h e =
          rw (within_code few, lt-ltb s.read (length word) there, le-leb (next_letter word s) 255 h)
          (ap (λ (n : ℕ). ltb n (pair_count pairs)) (e ∙ ap (λ (l : ℕ). found_place pairs l (next_letter word s)) (add-one k ∙ ap suc code)))

pub some_op : (pairs : List ℤ) (word : List ℕ) (s : State) → (s.ops ≡ 0 → ⊥) → true ≡ is_held pairs word s
some_op pairs word s h = rw (ne_eqb s.ops 0 h)

pub no_op : (pairs : List ℤ) (word : List ℕ) (s : State) {b : Bool} → s.ops ≡ 0 → b ≡ has_pair pairs word s → b ≡ is_held pairs word s
no_op pairs word s z e = rw (eq-eqb s.ops 0 z) e

module _ (boundary other : ℤ) (pairs : List ℤ) (word : List ℕ) (ns : List ℕ) where
  pub no_run : is_run ns ≡ false → false ≡ is_waiting boundary other pairs word ns
  no_run h = rw h

  module _ (run : is_run ns ≡ true) where
    pub edge_refused : (absent_refusal 255 boundary ≡ 0 → ⊥) → false ≡ is_waiting boundary other pairs word ns
    edge_refused h = rw (run, ne_eqb (absent_refusal 255 boundary) 0 h)

    module _ (edge : absent_refusal 255 boundary ≡ 0) where
      pub other_refused : (absent_refusal 255 other ≡ 0 → ⊥) → false ≡ is_waiting boundary other pairs word ns
      other_refused h = rw (run, eq-eqb (absent_refusal 255 boundary) 0 edge, ne_eqb (absent_refusal 255 other) 0 h)

      pub by_state : {b : Bool} {s : State} → absent_refusal 255 other ≡ 0 → s ≡ or_outside (state_read ns) → b ≡ is_held pairs word s →
          b ≡ is_waiting boundary other pairs word ns
      by_state z e h =
          rw (run, eq-eqb (absent_refusal 255 boundary) 0 edge, eq-eqb (absent_refusal 255 other) 0 z)
          (h ∙ ap (is_held pairs word) (e ∙ state_read_lem ns run))

-- ---- a state that is held

module _ (font : LentFont) (word : List ℕ) (options : RunOptions) (s : State) where
  abbrev pairs : List ℤ
  pairs = font.pairs

  abbrev c : ℕ
  c = plain_code s.next_left

  abbrev y : ℕ
  y = next_letter word s

  abbrev free : State → Bool
  free = free_state pairs (right_in font options) word

  -- by the law of the one turn that is passed
  none_by : passed font word s ≡ s → free s ≡ false → first_free font word options s ≡ none
  none_by p f =
      only_boundary_passes font word options s
      ∙ (λ j. cond (free (p j)) (some (p j)) none)
      ∙ ap (λ (b : Bool). cond b (some s) none) f

  found_by_lem : (o : Option ℕ) → ltb (place_or (pair_count pairs) o) (pair_count pairs) ≡ true → is_found o ≡ true
  found_by_lem none h = absurd (omega (arith, ltb-true (pair_count pairs) (pair_count pairs) h))
  found_by_lem (some k) h = refl

  module _ (z : eqb s.ops 0 ≡ true) (h : has_pair pairs word s ≡ true) where
    after-code : both (ltb s.read (length word)) (both (leb y 255) (ltb (found_place pairs (suc c) y) (pair_count pairs))) ≡ true
    after-code = both_right (leb c 255) _ h

    after_read : both (leb y 255) (ltb (found_place pairs (suc c) y) (pair_count pairs)) ≡ true
    after_read = both_right (ltb s.read (length word)) _ after-code

    is_char : s.next_left ≡ next.Char c
    is_char = plain_char s.next_left (both_left (leb c 255) _ h)

    looked : is_found (find_within pairs (suc c) y) ≡ true
    looked =
        let small : c ≤ 255 = leb-true c 255 (both_left (leb c 255) _ h) in
        ap is_found (looks_up_within pairs (suc c) y (omega (arith, small)) (leb-true y 255 (both_left (leb y 255) _ after_read)))
        ∙ found_by_lem (find pairs (key_by (suc c) y)) (both_right (leb y 255) (ltb (found_place pairs (suc c) y) (pair_count pairs)) after_read)

    left-kept : left_free pairs (right_in font options) word s.read s.next_left ≡ false
    left-kept =
        ap (left_free pairs (right_in font options) word s.read) is_char
        ∙ rw (both_left (ltb s.read (length word)) _ after-code, looked)

    pair-waits : first_free font word options s ≡ none
    pair-waits =
        none_by
        (rw z (ap (passed_left pairs font.ops word s) is_char))
        (rw (z, left-kept) (last (eqb s.pending 0)))
      where
        last : (b : Bool) → both b false ≡ false
        last true = refl
        last false = refl

  held_by : (b : Bool) → eqb s.ops 0 ≡ b → cond b (has_pair pairs word s) true ≡ true → first_free font word options s ≡ none
  held_by true e h = pair-waits e h
  held_by false e h = none_by (rw e) (rw e)

pub held_waits : HeldWaits
held_waits font word options s = held_by font word options s (eqb s.ops 0) refl
