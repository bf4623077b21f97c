-- Laws of what the passes over a font find: whether redirects stand only where packing puts them. Assumes nothing.
use mathlib.Core.Path.{◌≡◌, refl, sym, ap, ◌∙◌}
use mathlib.Core.Bool.{Bool, true, false, cond, not}
use mathlib.Core.List.{List}
use Prim.Native.Nat.{ℕ, ◌+◌, ◌-◌, ◌*◌, ◌/◌, ◌^◌, ◌<◌, ◌≤◌}
use native.Mathlib.Omega.{arith}
use lib.IntN.{ℤ, pos}
use lib.Dec.{leb, ltb}
use lib.ListN.{length, take, drop}
use lib.Seq.{take_all}
use Rattle.words.specs.Words.{word_of, number_of}
use Rattle.words.proofs.Bits.{number_pos, number_neg}
use Rattle.lang.specs.Every.{both, every}
use Rattle.lang.specs.Records.{count, is_kind}
use Rattle.lang.specs.Checks.{program_refusal, entry_at}
use Rattle.lang.proofs.Every.{both_false}
use Rattle.lang.proofs.Refusals.{program_fours}
use Rattle.font_unpackings.specs.Unpackings.{own_end, own_start, own_count, left_stands, stands_packed, unpacked_program}
use Rattle.font_unpackings.proofs.Ends.{end_le, start_le}
use Rattle.font_unpackings.proofs.Own.{length_own}
use Rattle.font_unpack.specs.OwnPart.{part_front, own_part_count, FindsPart}

-- ---- the left entry

pub left_absent : (s : List ℤ) (w : ℕ) → 2 ^ 31 ≤ w → left_stands s (number_of w) ≡ true
left_absent s w h = ap (λ (z : ℤ). left_stands s z) (number_neg w h)

left_at : (s : List ℤ) (w start end : ℕ) → end ≡ own_end s (pos w) → start ≡ own_start s (pos w) →
    left_stands s (pos w) ≡ both (both (leb start w) (ltb w end)) (is_kind 3 s end)
left_at s w start end e f = rw (e, f)

pub left_present : (s : List ℤ) (w start end : ℕ) → w < 2 ^ 31 → end ≡ own_end s (number_of w) → start ≡ own_start s (number_of w) →
    left_stands s (number_of w) ≡ both (both (leb start w) (ltb w end)) (is_kind 3 s end)
left_present s w start end h e f =
    let n = number_pos w h in
    ap (λ (z : ℤ). left_stands s z) n ∙ left_at s w start end (e ∙ ap (λ (z : ℤ). own_end s z) n) (f ∙ ap (λ (z : ℤ). own_start s z) n)

-- ---- all three tests

module _ (s es : List ℤ) (left : ℤ) (start end : ℕ) (e : end ≡ own_end s left) (f : start ≡ own_start s left) where
  abbrev plain : Bool
  plain = every (end - start) (λ i. not (is_kind 3 s (start + i)))

  abbrev entered : Bool
  entered = every (length es / 2) (λ i. both (leb start (word_of (entry_at es i))) (ltb (word_of (entry_at es i)) end))

  packed_is : stands_packed s es left ≡ both plain (both entered (left_stands s left))
  packed_is = rw (e, f)

  pub packed_not : plain ≡ false → stands_packed s es left ≡ false
  packed_not p = packed_is ∙ rw p

  pub packed_lost : entered ≡ false → stands_packed s es left ≡ false
  packed_lost p = packed_is ∙ rw p (both_false plain)

  pub packed_last : plain ≡ true → entered ≡ true → stands_packed s es left ≡ left_stands s left
  packed_last p q = packed_is ∙ rw (p, q)

-- ---- what is left

module _ (s es : List ℤ) (left : ℤ) where
  pub stands_yes : (start end n : ℕ) → end ≡ own_end s left → start ≡ own_start s left → stands_packed s es left ≡ true → n ≡ end - start →
      FindsPart s es left (record { packed = true; front = start; count = n })
  stands_yes start end n e f t q = record { packed = sym t; front = f ∙ rw t; own = q ∙ rw (t, e, f) }

  pub stands_no : stands_packed s es left ≡ false → FindsPart s es left (record { packed = false; front = 0; count = count s })
  stands_no t = record { packed = sym t; front = rw t; own = rw t }

  within_by : (t : Bool) → 4 * cond t (own_start s left) 0 + 4 * cond t (own_count s left) (count s) ≤ length s
  within_by true = omega (arith, end_le s left, start_le s left)
  within_by false = omega arith

  -- they stand in the program
  pub part_within : 4 * part_front s es left + 4 * own_part_count s es left ≤ length s
  part_within = within_by (stands_packed s es left)

  -- and are what unpacking leaves of it
  module _ (ok : program_refusal s ≡ 0) where
    part_by : (t : Bool) → take (4 * cond t (own_count s left) (count s)) (drop (4 * cond t (own_start s left) 0) s)
        ≡ cond t (take (4 * own_count s left) (drop (4 * own_start s left) s)) s
    part_by true = refl
    part_by false = take_all (4 * count s) s (omega (arith, program_fours s ok))

    pub part_program : take (4 * own_part_count s es left) (drop (4 * part_front s es left) s) ≡ unpacked_program s es left
    part_program = part_by (stands_packed s es left)

    length_by : (t : Bool) → 4 * cond t (own_count s left) (count s) ≡ length (cond t (take (4 * own_count s left) (drop (4 * own_start s left) s)) s)
    length_by true = sym (length_own s left)
    length_by false = sym (program_fours s ok)

    pub part_length : 4 * own_part_count s es left ≡ length (unpacked_program s es left)
    part_length = length_by (stands_packed s es left)
