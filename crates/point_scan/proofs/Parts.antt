-- A decimal's two parts, and the text that they are of.
-- Assumes nothing.
use mathlib.Core.Path.{◌≡◌, sym, ap, ◌∙◌}
use mathlib.Core.Bool.{true, false}
use mathlib.Core.List.{List}
use Prim.Native.Nat.{ℕ, suc, ◌+◌, ◌-◌, ◌*◌, ◌<◌, ◌≤◌, min}
use native.Mathlib.Omega.{arith}
use lib.Dec.{eqb}
use lib.ListN.{length, take, drop, drop_of_length-le}
use lib.Seq.{take_all}
use borrow.Author.Tests.{lt-ltb, le-ltb}
use borrow.Author.Rules.{part_to_end}
use Rattle.std.specs.Prelude.{Some, None}
use Rattle.points.specs.Scanning.{point_place, only_digits, digits_after, round_decimals, scaled_sum, scaled_parts, scaled_of, scanned_as}
use Rattle.point_scan.proofs.Passing.{cap_known}

-- ---- the parts

module _ (whole decimals : List ℕ) where
  pub whole_unreadable : false ≡ only_digits whole → None ≡ scanned_as (scaled_parts whole decimals)
  whole_unreadable a = rw (sym a)

  pub decimals_unreadable : true ≡ only_digits whole → false ≡ only_digits decimals → None ≡ scanned_as (scaled_parts whole decimals)
  decimals_unreadable a b = rw (sym a, sym b)

  pub none_unreadable : true ≡ only_digits whole → true ≡ only_digits decimals → true ≡ eqb (length whole + length decimals) 0 →
      None ≡ scanned_as (scaled_parts whole decimals)
  none_unreadable a b e = rw (sym a, sym b, sym e)

  -- the sum, with the whole points capped
  module _ {w f : ℕ} (a : true ≡ only_digits whole) (b : true ≡ only_digits decimals) (e : false ≡ eqb (length whole + length decimals) 0)
      (w-is : w ≡ min 2048 (digits_after 0 whole)) (f-is : f ≡ round_decimals (take 17 decimals)) where
    pub large_unreadable : 134217728 ≤ 65536 * w + f → None ≡ scanned_as (scaled_parts whole decimals)
    large_unreadable h =
        let k = cap_known (digits_after 0 whole) w w-is in
        let l : 134217728 ≤ scaled_sum whole decimals = omega (arith, k.1, f-is) in
        rw (sym a, sym b, sym e) (rw (le-ltb (scaled_sum whole decimals) 134217728 l))

    pub sum_read : 65536 * w + f < 134217728 → Some (65536 * w + f) ≡ scanned_as (scaled_parts whole decimals)
    sum_read h =
        let k = cap_known (digits_after 0 whole) w w-is in
        let g : w ≡ digits_after 0 whole = k.2 (omega arith) in
        let l : scaled_sum whole decimals < 134217728 = omega (arith, g, f-is) in
        rw (sym a, sym b, sym e) (rw (lt-ltb (scaled_sum whole decimals) 134217728 l) (ap Some (omega (arith, g, f-is))))

-- ---- the text

-- a part of it from a place on, as it is lent, is all from there on
module _ (text : List ℕ) (p : ℕ) (place : p ≡ point_place text) where
  -- a point in it
  pub parts_point : scaled_parts (take p text) (take (length text - (p + 1)) (drop (p + 1) text)) ≡ scaled_of text
  parts_point =
      let q : p + 1 ≡ suc (point_place text) = omega arith in
      let b : take (length text - (p + 1)) (drop (p + 1) text) ≡ drop (suc (point_place text)) text =
      part_to_end text (p + 1) ∙ ap (λ (k : ℕ). drop k text) q in
      λ i. scaled_parts (take (place i) text) (b i)

  -- none
  pub parts_alone : length text ≤ p → scaled_parts text (take (length text - length text) (drop (length text) text)) ≡ scaled_of text
  parts_alone h =
      let a : text ≡ take (point_place text) text = sym (take_all (point_place text) text (omega arith)) in
      let b : take (length text - length text) (drop (length text) text) ≡ drop (suc (point_place text)) text =
      part_to_end text (length text)
      ∙ drop_of_length-le text {i = length text} (omega arith)
      ∙ sym (drop_of_length-le text {i = suc (point_place text)} (omega arith)) in
      λ i. scaled_parts (a i) (b i)
