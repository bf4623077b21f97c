-- The parts of a list that is a chip's, and the chip that it is.
-- Assumes nothing.
use mathlib.Core.Path.{◌≡◌, refl, sym, ap, subst, ◌∙◌}
use mathlib.Core.Bool.{Bool, true, false, cond, not}
use mathlib.Core.List.{List, ◌++◌}
use Prim.Native.Nat.{ℕ, zero, suc, ◌+◌, ◌-◌, ◌<◌, ◌≤◌}
use native.Mathlib.Omega.{arith}
use lib.Dec.{leb}
use lib.IntN.{ℤ}
use lib.ListN.{length, get_or, take, drop, replicate, length-take, length-drop}
use lib.Seq.{take_all, length-take-le, get_or-take, get_or-drop}
use borrow.Author.Tests.{le-leb, leb-true}
use Rattle.lang.specs.Every.{both, every}
use Rattle.lang.specs.Checks.{or_else, absent_refusal}
use Rattle.lang.proofs.Every.{both_left, both_right, every_at}
use Rattle.lang.proofs.Refusals.{or_else_none}
use Rattle.captions.specs.declared.Answer.TheVariants.{End}
use Rattle.captions.specs.Replies.{is_end}
use Rattle.c_states.specs.States.{flag_of, state_at, is_state, state_read, or_outside}
use Rattle.chips.specs.declared.Chip.{Chip}
use Rattle.chips.specs.Commands.{chip_refusal}
use Rattle.chips.proofs.Turns.{every_taken}
use Rattle.c_chips.specs.ChipLists.{
  is_word,
  is32_bits,
  is_shown,
  are_letters,
  are_counts,
  is_chip,
  shown_by,
  shown_at,
  letters_at,
  chip_at,
  no_chip,
  chip_read,
  after_early,
  MovesChip,
}

pub part_rest : (a : ℕ) (ns : List ℕ) → take (length ns - a) (drop a ns) ≡ drop a ns
part_rest a ns = take_all (length ns - a) (drop a ns) (omega (arith, length-drop a ns))

-- ---- numbers that are a chip's

module _ (ns : List ℕ) (h : is_chip ns ≡ true) where
  late : both (is_shown ns) (both (is_state (drop 9 ns)) (both (are_letters ns) (are_counts ns))) ≡ true
  late = both_right (leb (get_or ns 0 0) 1) _ (both_right (leb 91 (length ns)) _ h)

  last_two : both (are_letters ns) (are_counts ns) ≡ true
  last_two = both_right (is_state (drop 9 ns)) _ (both_right (is_shown ns) _ late)

  pub chip_long : 91 ≤ length ns
  chip_long = leb-true 91 (length ns) (both_left (leb 91 (length ns)) _ h)

  pub chip_few : get_or ns 1 0 ≤ 64
  chip_few = leb-true (get_or ns 1 0) 64 (both_left (leb (get_or ns 1 0) 64) _ (both_left (are_letters ns) _ last_two))

  few : every 8 (λ i. is_word (get_or (drop 82 ns) i 0)) ≡ true
  few = both_left (every 8 (λ i. is_word (get_or (drop 82 ns) i 0))) _ (both_right (are_letters ns) (are_counts ns) last_two)

  low : every (get_or ns 1 0) (λ i. is_word (get_or (drop 18 ns) i 0)) ≡ true
  low = both_right (leb (get_or ns 1 0) 64) _ (both_left (are_letters ns) _ last_two)

  pub chip_state : is_state (drop 9 ns) ≡ true
  chip_state = both_left (is_state (drop 9 ns)) _ (both_right (is_shown ns) _ late)

  pub chip_counts : (c : ℕ) → c ≤ 7 → get_or ns (82 + c) 0 ≤ 4294967295
  chip_counts c l =
      leb-true (get_or ns (82 + c) 0) 4294967295
      (ap is_word (sym (get_or-drop 82 ns c 0)) ∙ every_at 8 c (λ i. is_word (get_or (drop 82 ns) i 0)) few (omega (arith, l)))

-- the part from place 18 on that has the letters
module _ (ns : List ℕ) where
  pub part : take (18 + get_or ns 1 0 - 18) (drop 18 ns) ≡ take (get_or ns 1 0) (drop 18 ns)
  part = let e : 18 + get_or ns 1 0 - 18 ≡ get_or ns 1 0 = omega arith in ap (λ (n : ℕ). take n (drop 18 ns)) e

  pub letters_asked : is_chip ns ≡ true →
      (length (take (18 + get_or ns 1 0 - 18) (drop 18 ns)) ≤ 64)
      × (every (length (take (18 + get_or ns 1 0 - 18) (drop 18 ns))) (λ i. is_word (get_or (take (18 + get_or ns 1 0 - 18) (drop 18 ns)) i 0)) ≡ true)
  letters_asked h =
      let f = chip_few ns h in (
        omega (arith, length-take (18 + get_or ns 1 0 - 18) (drop 18 ns), f),
        ap (λ (l : List ℕ). every (length l) (λ i. is_word (get_or l i 0))) part
            ∙ every_taken is_word (get_or ns 1 0) (drop 18 ns) (omega (arith, length-drop 18 ns, chip_long ns h, f)) ∙ low ns h,
      )

  pub letters_given : is_chip ns ≡ true → take (18 + get_or ns 1 0 - 18) (drop 18 ns) ++ replicate (64 - length (take (18 + get_or ns 1 0 - 18) (drop 18 ns))) 0
      ≡ letters_at (get_or ns 1 0) ns
  letters_given h =
      let n = get_or ns 1 0 in
      let l : length (take n (drop 18 ns)) ≡ n = length-take-le n (drop 18 ns) (omega (arith, length-drop 18 ns, chip_long ns h, chip_few ns h)) in
      rw (part, l)

  pub state_given : is_chip ns ≡ true → or_outside (state_read (take (length ns - 9) (drop 9 ns))) ≡ state_at (drop 9 ns)
  state_given h = ap (λ (l : List ℕ). or_outside (state_read l)) (part_rest 9 ns) ∙ rw (chip_state ns h)

-- ---- what is read of one

ready_by : (f : Bool) (k value start n : ℕ) (left right : Bool) → not (is_end (cond f (shown_by k value start n left right) End)) ≡ f
ready_by false k value start n left right = refl
ready_by true zero value start n left right = refl
ready_by true (suc zero) value start n left right = refl
ready_by true (suc (suc k)) value start n left right = refl

module _ (ns : List ℕ) where
  -- an item is ready where its flag is set
  pub ready_is : not (is_end (shown_at ns)) ≡ flag_of (get_or ns 2 0)
  ready_is =
      ready_by (flag_of (get_or ns 2 0)) (get_or ns 3 0) (get_or ns 4 0) (get_or ns 5 0) (get_or ns 6 0) (flag_of (get_or ns 7 0)) (flag_of (get_or ns 8 0))

  pub none_shown : flag_of (get_or ns 2 0) ≡ false → shown_at ns ≡ End
  none_shown e = rw e

  -- the count of a caller
  pub count_at : (c : ℕ) → c ≤ 7 → get_or (take 8 (drop 82 ns)) c 0 ≡ get_or ns (82 + c) 0
  count_at c l = get_or-take 8 (drop 82 ns) c 0 (omega (arith, l)) ∙ get_or-drop 82 ns c 0

-- ---- a list that is not refused before its command is looked at

pub record Stood (boundary : ℤ) (ns : List ℕ) (bytes : ℕ) : Type 0 where
  pub edge : absent_refusal 255 boundary ≡ 0
  pub is_chip_lem : is_chip ns ≡ true
  pub legal : chip_refusal (chip_at ns) ≡ 0
  pub long : 16 ≤ bytes

room_by : (t : Bool) → cond {A = ℕ} t 0 15 ≡ 0 → t ≡ true
room_by true e = refl
room_by false e = absurd (omega arith)

read_by : (ns : List ℕ) (t : Bool) → is_chip ns ≡ t → chip_refusal (cond t (chip_at ns) no_chip) ≡ 0 → (t ≡ true) × (chip_refusal (chip_at ns) ≡ 0)
read_by ns true e z = (refl, z)
read_by ns false e z = absurd (omega arith)

pub stood : (boundary : ℤ) (ns : List ℕ) (bytes : ℕ) → after_early boundary (chip_read ns) bytes 0 ≡ 0 → Stood boundary ns bytes
stood boundary ns bytes e =
    let a = or_else_none (absent_refusal 255 boundary) _ e in
    let b = or_else_none (chip_refusal (chip_read ns)) _ a.1 in
    let c = read_by ns (is_chip ns) refl b.0 in
    record { edge = a.0; is_chip_lem = c.0; legal = c.1; long = leb-true 16 bytes (room_by (leb 16 bytes) b.1) }

-- what is read, and a number that comes after the early ones
pub read_is : (ns : List ℕ) → is_chip ns ≡ true → chip_read ns ≡ chip_at ns
read_is ns e = rw e

pub after_is : (boundary : ℤ) (ns : List ℕ) (bytes n : ℕ) → Stood boundary ns bytes → after_early boundary (chip_read ns) bytes n ≡ n
after_is boundary ns bytes n s = rw (s.edge, s.is_chip_lem, s.legal, le-leb 16 bytes s.long)

-- refused before it: the same number, whatever comes after
early_by : (a b : ℕ) (t : Bool) (n : ℕ) → (or_else a (or_else b (cond t 0 15)) ≡ 0 → ⊥) →
    or_else a (or_else b (cond t 0 15)) ≡ or_else a (or_else b (cond t n 15))
early_by zero zero true n h = absurd (h refl)
early_by zero zero false n h = refl
early_by zero (suc b) t n h = refl
early_by (suc a) b t n h = refl

refused_by : (n : ℕ) (after : Chip) (block ns : List ℕ) (r : ℕ) → r ≡ n → (r ≡ 0 → ⊥) → MovesChip n after block ns r block ns
refused_by zero after block ns r e h = absurd (h e)
refused_by (suc n) after block ns r e h = record { number = e; shown = refl; moved = refl }

pub refused_moves : {n : ℕ} (after : Chip) (block ns : List ℕ) {r : ℕ} → r ≡ n → (r ≡ 0 → ⊥) → MovesChip n after block ns r block ns
refused_moves {n} after block ns {r} e h = refused_by n after block ns r e h

pub early_moves : (boundary : ℤ) (ns block : List ℕ) (n : ℕ) (after : Chip) {r : ℕ} → r ≡ after_early boundary (chip_read ns) (length block) 0 → (r ≡ 0 → ⊥) →
    MovesChip (after_early boundary (chip_read ns) (length block) n) after block ns r block ns
early_moves boundary ns block n after e h =
    refused_moves after block ns
    (e ∙ early_by (absent_refusal 255 boundary) (chip_refusal (chip_read ns)) (leb 16 (length block)) n (λ z. h (e ∙ z))) h

-- not refused before it: what the command itself leaves
pub late_moves : (boundary : ℤ) (ns block : List ℕ) (number : Chip → ℕ) (after : Chip → Chip) {r : ℕ} {block' ns' : List ℕ} → Stood boundary ns (length block) →
    MovesChip (number (chip_at ns)) (after (chip_at ns)) block ns r block' ns' →
    MovesChip (after_early boundary (chip_read ns) (length block) (number (chip_read ns))) (after (chip_read ns)) block ns r block' ns'
late_moves boundary ns block number after {r} {block'} {ns'} s m =
    let e = read_is ns s.is_chip_lem in
    subst (λ (n : ℕ). MovesChip n (after (chip_read ns)) block ns r block' ns') (sym (after_is boundary ns (length block) (number (chip_read ns)) s))
    (subst (λ (x : Chip). MovesChip (number x) (after x) block ns r block' ns') (sym e) m)
