-- Whose turn it is, and the list after a begin.
-- Assumes nothing.
use mathlib.Core.Path.{◌≡◌, refl, sym, ap, subst, ◌∙◌}
use mathlib.Core.Bool.{Bool, true, false, cond}
use mathlib.Core.List.{List, [], ◌∷◌, ◌++◌}
use Prim.Native.Nat.{ℕ, zero, suc, ◌+◌, ◌-◌, ◌<◌, ◌≤◌}
use native.Mathlib.Omega.{arith}
use lib.Dec.{leb, ltb}
use lib.IntN.{ℤ}
use lib.ListN.{length, get_or, set, take, drop, replicate, length-append, length-set, length-drop, length-replicate, get_or-eq_default}
use lib.Seq.{length-take-le, get_or-set_same, get_or-set_other, take-set-le, drop-set-lt, drop-set-add}
use borrow.Author.Tests.{le-leb, lt-leb}
use Rattle.lang.specs.Every.{both, every}
use Rattle.lang.specs.Records.{absent_or}
use Rattle.lang.specs.Checks.{unless, or_else, absent_refusal, is_letter}
use Rattle.lang.proofs.Every.{every_none}
use Rattle.lang.proofs.Refusals.{second_none, or_else_none}
use Rattle.captions.specs.declared.State.{State}
use Rattle.captions.specs.declared.Answer.TheVariants.{End}
use Rattle.captions.specs.Form.{table_form, table_refusal}
use Rattle.captions.specs.Begin.{fresh_state, begin_refusal, plain_options}
use Rattle.chips.specs.declared.Chip.{Chip}
use Rattle.chips.specs.Blocks.{shown_block}
use Rattle.chips.specs.Commands.{item_stands, open_stands, chip_refusal, may_begin, chip_begun, caller_refusal, in_turn}
use Rattle.chip_block.specs.Showing.{shown_where}
use Rattle.c_states.specs.States.{flag_of, numbers_of}
use Rattle.c_chips.specs.ChipLists.{is_chip, shown_numbers, letters_at, chip_at, chip_read, chip_numbers, chip_with, after_early, MovesChip}
use Rattle.c_chips.proofs.Laws.{chip_long, chip_few, chip_counts, ready_is, none_shown, count_at, refused_moves}
use Rattle.c_chip_write.specs.Changes.{can_show, ShowsChanges}

module _ (ns : List ℕ) where
  pub open_waits : (c : ℕ) → flag_of (get_or ns 0 0) ≡ true → false ≡ may_begin c (chip_at ns)
  open_waits c e = rw e

  pub ready_waits : (c : ℕ) → flag_of (get_or ns 0 0) ≡ false → flag_of (get_or ns 2 0) ≡ true → false ≡ may_begin c (chip_at ns)
  ready_waits c e f = rw (e, ready_is ns, f)

  pub above_begins : (c : ℕ) → 91 ≤ length ns → flag_of (get_or ns 0 0) ≡ false → flag_of (get_or ns 2 0) ≡ false → 7 < c → true ≡ may_begin c (chip_at ns)
  above_begins c h e f l =
      let k : length (take 8 (drop 82 ns)) ≡ 8 = length-take-le 8 (drop 82 ns) (omega (arith, length-drop 82 ns, h)) in
      rw (e, ready_is ns, f, get_or-eq_default (take 8 (drop 82 ns)) 0 {n = c} (omega (arith, k, l)))

  pub counted_begins : (c : ℕ) → flag_of (get_or ns 0 0) ≡ false → flag_of (get_or ns 2 0) ≡ false → c ≤ 7 →
      ltb (get_or ns (82 + c) 0) 4294967295 ≡ may_begin c (chip_at ns)
  counted_begins c e f l = rw (e, ready_is ns, f, count_at ns c l)

-- the list with the caller
module _ (ns : List ℕ) (c : ℕ) (h : is_chip ns ≡ true) (l : c ≤ 7) where
  abbrev called : List ℕ
  called = set ns 90 c

  long : 91 ≤ length ns
  long = chip_long ns h

  same_at : (i : ℕ) → i < 90 → get_or called i 0 ≡ get_or ns i 0
  same_at i k = get_or-set_other ns 90 i c 0 (λ e. omega (arith, e, k))

  caller_at : get_or called 90 0 ≡ c
  caller_at = get_or-set_same ns 90 c 0 (omega (arith, long))

  n_same : get_or called 1 0 ≡ get_or ns 1 0
  n_same = same_at 1 (omega arith)

  letters_same : take (get_or ns 1 0) (drop 18 called) ≡ take (get_or ns 1 0) (drop 18 ns)
  letters_same = ap (take (get_or ns 1 0)) (drop-set-add 18 ns 72 c) ∙ take-set-le (get_or ns 1 0) (drop 18 ns) 72 c (omega (arith, chip_few ns h))

  counts_same : take 8 (drop 82 called) ≡ take 8 (drop 82 ns)
  counts_same = ap (take 8) (drop-set-add 82 ns 8 c) ∙ take-set-le 8 (drop 82 ns) 8 c (omega arith)

  rest_same : drop 91 called ≡ drop 91 ns
  rest_same = drop-set-lt 91 ns 90 c (omega arith)

  count_same : get_or called (82 + get_or called 90 0) 0 ≡ get_or ns (82 + c) 0
  count_same = ap (λ (k : ℕ). get_or called (82 + k) 0) caller_at ∙ same_at (82 + c) (omega (arith, l))

  can_show_lem : can_show called ≡ true
  can_show_lem =
      rw (
        le-leb 91 (length called) (omega (arith, length-set ns 90 c, long)),
        n_same,
        le-leb (get_or ns 1 0) 64 (chip_few ns h),
        count_same,
        caller_at,
        le-leb c 7 l,
      ) (le-leb (get_or ns (82 + c) 0) 4294967295 (chip_counts ns h c l))

  -- the chip that stands there then
  called_with : (s : State) → chip_with true End s (chip_at called) ≡
      record { opened = true; length = get_or ns 1 0; letters = letters_at (get_or ns 1 0) ns; counts = take 8 (drop 82 ns); caller = c; item = End; state = s }
  called_with s = λ j.
      record {
        opened = true;
        length = n_same j;
        letters = (ap (λ (k : ℕ). letters_at k called) n_same ∙ ap (λ (t : List ℕ). t ++ replicate (64 - get_or ns 1 0) 0) letters_same) j;
        counts = counts_same j;
        caller = caller_at j;
        item = End;
        state = s;
      }

  -- the list keeps its length
  abbrev called_chip : State → Chip
  called_chip s =
      record { opened = true; length = get_or ns 1 0; letters = letters_at (get_or ns 1 0) ns; counts = take 8 (drop 82 ns); caller = c; item = End; state = s }

  front_long : (s : State) → length (chip_numbers (called_chip s)) ≡ 91
  front_long s =
      let n = get_or ns 1 0 in
      let few : length (take n (drop 18 ns)) ≡ n = length-take-le n (drop 18 ns) (omega (arith, length-drop 18 ns, long, chip_few ns h)) in
      let eight : length (take 8 (drop 82 ns)) ≡ 8 = length-take-le 8 (drop 82 ns) (omega (arith, length-drop 82 ns, long)) in
      let letters : length (letters_at n ns) ≡ 64 =
      length-append (take n (drop 18 ns)) (replicate (64 - n) 0) ∙ omega (arith, few, length-replicate {A = ℕ} (64 - n) 0, chip_few ns h) in
      let front = (1 ∷ n ∷ shown_numbers End) ++ numbers_of s in
      let eighteen : length front ≡ 18 = refl in
      let word : length (front ++ letters_at n ns) ≡ 82 = length-append front (letters_at n ns) ∙ omega (arith, eighteen, letters) in
      let counted : length (front ++ letters_at n ns ++ take 8 (drop 82 ns)) ≡ 90 =
      length-append (front ++ letters_at n ns) (take 8 (drop 82 ns)) ∙ omega (arith, word, eight) in
      let one : length (c ∷ []) ≡ 1 = refl in
      let e : length (front ++ letters_at n ns ++ take 8 (drop 82 ns)) + length (c ∷ []) ≡ 91 = omega (arith, counted, one) in
      length-append (front ++ letters_at n ns ++ take 8 (drop 82 ns)) (c ∷ []) ∙ e

  pub opened_long : (s : State) (block : List ℕ) {block' ns₂ : List ℕ} → ShowsChanges true End s block called block' ns₂ → length ns₂ ≡ length ns
  opened_long s block {block'} {ns₂} w =
      let q : ns₂ ≡ chip_numbers (called_chip s) ++ drop 91 ns = w.moved ∙ rw can_show_lem (λ j. chip_numbers (called_with s j) ++ rest_same j) in
      let e : length (chip_numbers (called_chip s)) + length (drop 91 ns) ≡ length ns = omega (arith, front_long s, length-drop 91 ns, long) in
      ap length q ∙ length-append (chip_numbers (called_chip s)) (drop 91 ns) ∙ e

  module _ (s : State) (fresh : s ≡ fresh_state [] plain_options) (none : flag_of (get_or ns 2 0) ≡ false) where
    -- the chip after begin, but for its length
    abbrev before : Chip
    before = called_chip s

    begun-is : chip_begun c (chip_at ns) ≡
        record { opened = true; length = 0; letters = letters_at (get_or ns 1 0) ns; counts = take 8 (drop 82 ns); caller = c; item = End; state = s }
    begun-is = λ j.
        record {
          opened = true;
          length = 0;
          letters = letters_at (get_or ns 1 0) ns;
          counts = take 8 (drop 82 ns);
          caller = c;
          item = none_shown ns none j;
          state = sym fresh j;
        }

    pub opened_moves : (block : List ℕ) {block' ns₂ : List ℕ} → 16 ≤ length block → may_begin c (chip_at ns) ≡ true →
        ShowsChanges true End s block called block' ns₂ →
        MovesChip (in_turn (may_begin c (chip_at ns)) (caller_refusal c)) (chip_begun c (chip_at ns)) block ns 0 block' (set ns₂ 1 0)
    opened_moves block {block'} {ns₂} b m w =
        let z : in_turn (may_begin c (chip_at ns)) (caller_refusal c) ≡ 0 = rw (m, le-leb c 7 l) in
        let p : block' ≡ shown_where block before = w.shown ∙ rw can_show_lem (ap (shown_where block) (called_with s)) in
        let q : ns₂ ≡ chip_numbers before ++ drop 91 ns = w.moved ∙ rw can_show_lem (λ j. chip_numbers (called_with s j) ++ rest_same j) in
        record {
          number = sym z;
          shown = rw z (p ∙ rw (le-leb 16 (length block) b) (ap (shown_block block) (sym begun-is)));
          moved = rw z (ap (λ (t : List ℕ). set t 1 0) q ∙ ap (λ (x : Chip). chip_numbers x ++ drop 91 ns) (sym begun-is));
        }

-- ---- begin whole

-- what `chipRefusal` tests
abbrev chip_tests : Chip → Bool
chip_tests chip =
    both (leb chip.length 64)
    (both (every chip.length (λ i. leb (get_or chip.letters i 0) 255))
    (both (item_stands chip.item) (both (leb chip.caller 7) (open_stands chip))))

-- a block under 16 bytes has no command
short_by : (a b : ℕ) (n : ℕ) → (or_else a (or_else b (cond {A = ℕ} false 0 15)) ≡ or_else a (or_else b (cond false n 15)))
    × (or_else a (or_else b (cond {A = ℕ} false 0 15)) ≡ 0 → ⊥)
short_by zero zero n = (refl, λ e. omega (arith, e))
short_by zero (suc b) n = (refl, λ e. omega (arith, e))
short_by (suc a) b n = (refl, λ e. omega (arith, e))

pub short_moves : (boundary : ℤ) (ns block : List ℕ) (n : ℕ) (after : Chip) {r : ℕ} → length block < 16 →
    r ≡ after_early boundary (chip_read ns) (length block) 0 → MovesChip (after_early boundary (chip_read ns) (length block) n) after block ns r block ns
short_moves boundary ns block n after {r} l e =
    let f : leb 16 (length block) ≡ false = lt-leb 16 (length block) l in
    let s = short_by (absent_refusal 255 boundary) (chip_refusal (chip_read ns)) n in
    let e' : r ≡ or_else (absent_refusal 255 boundary) (or_else (chip_refusal (chip_read ns)) (cond false 0 15)) =
    e ∙ ap (λ (t : Bool). or_else (absent_refusal 255 boundary) (or_else (chip_refusal (chip_read ns)) (cond t 0 15))) f in
    refused_moves after block ns
    (e' ∙ s.0 ∙ ap (λ (t : Bool). or_else (absent_refusal 255 boundary) (or_else (chip_refusal (chip_read ns)) (cond t n 15))) (sym f))
    (λ z. s.1 (sym e' ∙ z))

-- a refused table, or a boundary character out of range: the lowest number that holds
table_by : (a t c : Bool) (n x : ℕ) → (n ≡ 0 → ⊥) → n ≡ or_else (unless 4 a) (unless 7 t) →
    n ≡ or_else (unless 4 a) (or_else (unless 7 c) (cond true (or_else (unless 7 t) x) 15))
table_by false t c n x h e = e
table_by true false false n x h e = e
table_by true false true n x h e = e
table_by true true c n x h e = absurd (h e)

edges_by : (a : Bool) (t : ℕ) → or_else (or_else (unless 4 a) 0) t ≡ or_else (unless 4 a) t
edges_by true t = refl
edges_by false t = refl

pub begin_refusal_is : (pairs ops : List ℤ) (boundary : ℤ) →
    begin_refusal pairs ops boundary [] plain_options ≡ or_else (absent_refusal 255 boundary) (table_refusal pairs ops)
begin_refusal_is pairs ops boundary =
    rw (every_none (λ i. is_letter (get_or [] i 0)))
    (edges_by (absent_or 255 boundary) (or_else (table_refusal pairs ops) 0) ∙ ap (or_else (absent_refusal 255 boundary)) (second_none (table_refusal pairs ops)))

pub table_moves : (pairs ops : List ℤ) (boundary : ℤ) (ns block : List ℕ) (x : ℕ) (after : Chip) {n : ℕ} → 16 ≤ length block →
    n ≡ begin_refusal pairs ops boundary [] plain_options → (n ≡ 0 → ⊥) →
    MovesChip (after_early boundary (chip_read ns) (length block) (or_else (table_refusal pairs ops) x)) after block ns n block ns
table_moves pairs ops boundary ns block x after {n} l e h =
    refused_moves after block ns
    (rw (le-leb 16 (length block) l)
    (table_by (absent_or 255 boundary) (table_form pairs ops) (chip_tests (chip_read ns)) n x h (e ∙ begin_refusal_is pairs ops boundary))) h

pub formed_moves : (pairs ops : List ℤ) (boundary : ℤ) (ns block : List ℕ) (x : ℕ) (after : Chip) {r : ℕ} {block' ns' : List ℕ} →
    begin_refusal pairs ops boundary [] plain_options ≡ 0 → MovesChip (after_early boundary (chip_read ns) (length block) x) after block ns r block' ns' →
    MovesChip (after_early boundary (chip_read ns) (length block) (or_else (table_refusal pairs ops) x)) after block ns r block' ns'
formed_moves pairs ops boundary ns block x after {r} {block'} {ns'} z m =
    let t : table_refusal pairs ops ≡ 0 = (or_else_none (absent_refusal 255 boundary) _ (sym (begin_refusal_is pairs ops boundary) ∙ z)).1 in
    subst (λ (n : ℕ). MovesChip (after_early boundary (chip_read ns) (length block) (or_else n x)) after block ns r block' ns') (sym t) m
