-- What is known of a chip that stands, and of a command that is taken.
-- Assumes nothing.
use mathlib.Core.Path.{◌≡◌, refl, ap, ◌∙◌}
use mathlib.Core.Bool.{Bool, true, false, cond, not}
use mathlib.Core.List.{List}
use Prim.Native.Nat.{ℕ, ◌<◌, ◌≤◌}
use native.Mathlib.Omega.{arith}
use lib.Dec.{leb, ltb, eqb}
use lib.IntN.{ℤ}
use lib.ListN.{length, get_or, take}
use lib.Seq.{length-take-le, get_or-take}
use borrow.Author.Tests.{leb-true, ltb-true, eqb-true, not-true}
use Rattle.lang.specs.Every.{both, every}
use Rattle.lang.specs.Checks.{or_else, absent_refusal}
use Rattle.lang.proofs.Every.{both_left, both_right, every_ext}
use Rattle.lang.proofs.Refusals.{unless_none, or_else_none}
use Rattle.captions.specs.Form.{table_refusal}
use Rattle.chips.specs.declared.Chip.{Chip}
use Rattle.chips.specs.Blocks.{block_command, block_caller, item_ready, caller_count}
use Rattle.chips.specs.Commands.{
  item_stands,
  can_count,
  open_stands,
  chip_refusal,
  chip_step,
  answer_number,
  may_begin,
  may_add,
  caller_refusal,
  in_turn,
  turn_refusal,
  command_refusal,
}

-- ---- a chip that stands

module _ (chip : Chip) (h : chip_refusal chip ≡ 0) where
  abbrev low : Bool
  low = every chip.length (λ i. leb (get_or chip.letters i 0) 255)

  abbrev late : Bool
  late = both (leb chip.caller 7) (open_stands chip)

  all : both (leb chip.length 64) (both low (both (item_stands chip.item) late)) ≡ true
  all = unless_none 6 (both (leb chip.length 64) (both low (both (item_stands chip.item) late))) h

  pub few_letters : chip.length ≤ 64
  few_letters = leb-true chip.length 64 (both_left (leb chip.length 64) _ all)

  pub low_letters : every chip.length (λ i. leb (get_or chip.letters i 0) 255) ≡ true
  low_letters = both_left low _ (both_right (leb chip.length 64) _ all)

  pub item_stands_lem : item_stands chip.item ≡ true
  item_stands_lem = both_left (item_stands chip.item) _ (both_right low _ (both_right (leb chip.length 64) _ all))

  lates : late ≡ true
  lates = both_right (item_stands chip.item) late (both_right low _ (both_right (leb chip.length 64) _ all))

  pub low_caller : chip.caller ≤ 7
  low_caller = leb-true chip.caller 7 (both_left (leb chip.caller 7) _ lates)

  opens : open_stands chip ≡ true
  opens = both_right (leb chip.caller 7) (open_stands chip) lates

  -- while a word is open no item is ready, and one more word can be counted
  module _ (o : chip.opened ≡ true) where
    open-both : both (not (item_ready chip)) (can_count chip.caller chip) ≡ true
    open-both = rw o at opens

    pub none_ready : item_ready chip ≡ false
    none_ready = not-true (item_ready chip) (both_left (not (item_ready chip)) _ open-both)

    pub may_end_lem : can_count chip.caller chip ≡ true
    may_end_lem = both_right (not (item_ready chip)) (can_count chip.caller chip) open-both

    pub can_count_lem : caller_count chip.caller chip < 4294967295
    can_count_lem = ltb-true (caller_count chip.caller chip) 4294967295 may_end_lem

-- what every element of the first part of a list passes: no others are looked at
pub every_taken : (p : ℕ → Bool) (n : ℕ) (l : List ℕ) → n ≤ length l →
    every (length (take n l)) (λ i. p (get_or (take n l) i 0)) ≡ every n (λ i. p (get_or l i 0))
every_taken p n l h =
    ap (λ (k : ℕ). every k (λ i. p (get_or (take n l) i 0))) (length-take-le n l h)
    ∙ every_ext n (λ i. p (get_or (take n l) i 0)) (λ i. p (get_or l i 0)) (λ i j. ap p (get_or-take n l i 0 j))

-- ---- whose turn it is

module _ (caller : ℕ) (chip : Chip) (h : may_begin caller chip ≡ true) where
  rest : both (not (item_ready chip)) (can_count caller chip) ≡ true
  rest = both_right (not chip.opened) _ h

  pub all_taken : item_ready chip ≡ false
  all_taken = not-true (item_ready chip) (both_left (not (item_ready chip)) _ rest)

  pub may_count : can_count caller chip ≡ true
  may_count = both_right (not (item_ready chip)) (can_count caller chip) rest

module _ (chip : Chip) (h : may_add chip ≡ true) where
  pub word_open : chip.opened ≡ true
  word_open = both_left chip.opened _ h

  pub word_room : chip.length < 64
  word_room = ltb-true chip.length 64 (both_right chip.opened (ltb chip.length 64) h)

-- ---- a command that is taken

pub record Taken (pairs ops : List ℤ) (boundary : ℤ) (block : List ℕ) (chip : Chip) : Type 0 where
  pub edge : absent_refusal 255 boundary ≡ 0
  pub legal : chip_refusal chip ≡ 0
  pub long : 16 ≤ length block
  pub turn : turn_refusal pairs ops boundary block chip ≡ 0

room_by : (t : Bool) (n : ℕ) → cond t n 15 ≡ 0 → (t ≡ true) × (n ≡ 0)
room_by true n e = (refl, e)
room_by false n e = absurd (omega arith)

-- the command, and what it found
pub data Turn (pairs ops : List ℤ) (boundary : ℤ) (block : List ℕ) (chip : Chip) : Type 0 where
  begins : block_command block ≡ 1 → table_refusal pairs ops ≡ 0 → may_begin (block_caller block) chip ≡ true → block_caller block ≤ 7 →
      Turn pairs ops boundary block chip
  adds : block_command block ≡ 2 → may_add chip ≡ true → Turn pairs ops boundary block chip
  ends : block_command block ≡ 3 → chip.opened ≡ true → answer_number (chip_step pairs ops boundary chip).answer ≡ 0 → Turn pairs ops boundary block chip
  takes : block_command block ≡ 4 → item_ready chip ≡ true → answer_number (chip_step pairs ops boundary chip).answer ≡ 0 → Turn pairs ops boundary block chip

turn_none : (t : Bool) (n : ℕ) → in_turn t n ≡ 0 → (t ≡ true) × (n ≡ 0)
turn_none true n e = (refl, e)
turn_none false n e = absurd (omega arith)

module _ (pairs ops : List ℤ) (boundary : ℤ) (block : List ℕ) (chip : Chip) where
  pub taken : command_refusal pairs ops boundary block chip ≡ 0 → Taken pairs ops boundary block chip
  taken e =
      let a = or_else_none (absent_refusal 255 boundary) _ e in
      let b = or_else_none (chip_refusal chip) _ a.1 in
      let c = room_by (leb 16 (length block)) (turn_refusal pairs ops boundary block chip) b.1 in
      record { edge = a.0; legal = b.0; long = leb-true 16 (length block) c.0; turn = c.1 }

  abbrev x : ℕ
  x = block_command block

  abbrev number : ℕ
  number = answer_number (chip_step pairs ops boundary chip).answer

  by : (a b c d : Bool) → eqb x 1 ≡ a → eqb x 2 ≡ b → eqb x 3 ≡ c → eqb x 4 ≡ d →
      cond a (or_else (table_refusal pairs ops) (in_turn (may_begin (block_caller block) chip) (caller_refusal (block_caller block))))
      (cond b (in_turn (may_add chip) 0) (cond c (in_turn chip.opened number) (cond d (in_turn (item_ready chip) number) 21))) ≡ 0 →
      Turn pairs ops boundary block chip
  by true b c d p q r s e =
      let o = or_else_none (table_refusal pairs ops) _ e in
      let m = turn_none (may_begin (block_caller block) chip) (caller_refusal (block_caller block)) o.1 in
      begins (eqb-true x 1 p) o.0 m.0 (leb-true (block_caller block) 7 (unless_none 25 (leb (block_caller block) 7) m.1))
  by false true c d p q r s e = adds (eqb-true x 2 q) (turn_none (may_add chip) 0 e).0
  by false false true d p q r s e = let o = turn_none chip.opened number e in ends (eqb-true x 3 r) o.0 o.1
  by false false false true p q r s e = let o = turn_none (item_ready chip) number e in takes (eqb-true x 4 s) o.0 o.1
  by false false false false p q r s e = absurd (omega arith)

  pub turn_of : turn_refusal pairs ops boundary block chip ≡ 0 → Turn pairs ops boundary block chip
  turn_of e = by (eqb x 1) (eqb x 2) (eqb x 3) (eqb x 4) refl refl refl refl e
