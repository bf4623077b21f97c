-- Proves what specs/Purpose states.
-- Assumes nothing.
use mathlib.Core.Path.{◌≡◌, refl, ap, ◌∙◌}
use mathlib.Core.Bool.{true}
use mathlib.Core.List.{List, [], ◌∷◌, ◌++◌}
use mathlib.Core.Option.{none, some}
use Prim.Native.Nat.{ℕ, suc, ◌+◌, ◌*◌, ◌/◌, ◌%◌, ◌<◌, ◌≤◌}
use native.Mathlib.Omega.{arith}
use lib.IntN.{pos, negsuc}
use lib.ListN.{length, take, drop, length-append}
use lib.Seq.{take_all, take_at, drop-append-add}
use borrow.Author.Tests.{lt-ltb, ne_eqb}
use Rattle.points.specs.Printing.{whole_text, decimals_from, decimals_of, size_text, scaled_text}
use Rattle.points.specs.Scanning.{point_place, only_digits, digits_after, half_scaled, round_decimals, scaled_sum, scaled_parts, scaled_of}
use Rattle.points.specs.Purpose.{FiveSuffice, ReadBack, FewBytes}
use Rattle.points.proofs.Decimals.{enough, decimals_read, decimals_digits, decimals_few, decimals_some}
use Rattle.points.proofs.Wholes.{point_behind, whole_read, whole_digits_lem, whole_few}

pub five_suffice : FiveSuffice
five_suffice more s =
    let e : 5 + more ≡ suc (suc (suc (suc (suc more)))) = omega arith in
    ap (λ (f : ℕ). decimals_from f 10 s) e ∙ enough more s

-- digits with a point among them are read as the two parts
parts_read : (whole decimals : List ℕ) → only_digits whole ≡ true → scaled_of (whole ++ (46 ∷ decimals)) ≡ scaled_parts whole decimals
parts_read whole decimals d =
    let text = whole ++ (46 ∷ decimals) in
    let p : point_place text ≡ length whole = point_behind whole decimals d in
    let q : suc (point_place text) ≡ length whole + 1 = omega arith in
    let a : take (point_place text) text ≡ whole = ap (λ (k : ℕ). take k text) p ∙ take_at whole (46 ∷ decimals) (length whole) refl in
    let b : drop (suc (point_place text)) text ≡ decimals = ap (λ (k : ℕ). drop k text) q ∙ drop-append-add whole (46 ∷ decimals) 1 in
    λ i. scaled_parts (a i) (b i)

-- and taken, where their sum is small enough
module _ (whole decimals : List ℕ) (m k : ℕ) (w : only_digits whole ≡ true) (d : only_digits decimals ≡ true) (some-whole : 1 ≤ length whole)
    (few : length decimals ≤ 17) (m-is : digits_after 0 whole ≡ m) (k-is : round_decimals decimals ≡ k) (small : 65536 * m + k < 134217728) where
  sum_is : scaled_sum whole decimals ≡ 65536 * m + k
  sum_is = rw (take_all 17 decimals few, m-is, k-is)

  parts_taken : scaled_parts whole decimals ≡ some (65536 * m + k)
  parts_taken =
      rw (w, d, ne_eqb (length whole + length decimals) 0 (λ e. omega (arith, e))) (rw (sum_is, lt-ltb (65536 * m + k) 134217728 small))

pub read_back : ReadBack
read_back n h =
    parts_read (whole_text (n / 65536)) (decimals_of (n % 65536)) (whole_digits_lem (n / 65536))
    ∙ parts_taken (whole_text (n / 65536)) (decimals_of (n % 65536)) (n / 65536) (n % 65536) (whole_digits_lem (n / 65536))
    (decimals_digits 5 10 (10 * (n % 65536) + 5) (omega arith)) (whole_few (n / 65536)).0
    (omega (arith, decimals_few 5 10 (10 * (n % 65536) + 5)))
    (whole_read (n / 65536) (omega arith)) (decimals_read (n % 65536)) (omega arith)
    ∙ ap some (let e : 65536 * (n / 65536) + n % 65536 ≡ n = omega arith in e)

size_few : (n : ℕ) → (3 ≤ length (size_text n)) × (length (size_text n) ≤ 11)
size_few n =
    let w = whole_few (n / 65536) in
    let a = decimals_few 5 10 (10 * (n % 65536) + 5) in
    let b = decimals_some 4 10 (10 * (n % 65536) + 5) in
    let e = length-append (whole_text (n / 65536)) (46 ∷ decimals_of (n % 65536)) in
    (omega (arith, w.0, b, e), omega (arith, w.1, a, e))

pub few_bytes : FewBytes
few_bytes (pos n) f = let k = size_few n in (k.0, omega (arith, k.1))
few_bytes (negsuc n) f = let k = size_few (suc n) in (omega (arith, k.0), omega (arith, k.1))

-- ---- some of them worked out

-- a kern of -18,205 is -0.27779 points
kern_printed : scaled_text (negsuc 18204) ≡ 45 ∷ 48 ∷ 46 ∷ 50 ∷ 55 ∷ 55 ∷ 55 ∷ 57 ∷ []
unfolding decimals_from
kern_printed = refl

-- the lowest i32 is -32768.0
lowest_printed : scaled_text (negsuc 2147483647) ≡ 45 ∷ 51 ∷ 50 ∷ 55 ∷ 54 ∷ 56 ∷ 46 ∷ 48 ∷ []
unfolding decimals_from
lowest_printed = refl

-- 10.95 is 717,619, .5 and 00.5 are 32,768
decimal_read : scaled_of (49 ∷ 48 ∷ 46 ∷ 57 ∷ 53 ∷ []) ≡ some 717619
unfolding point_place only_digits digits_after half_scaled
decimal_read = refl

half_read : (scaled_of (46 ∷ 53 ∷ []) ≡ some 32768) × (scaled_of (48 ∷ 48 ∷ 46 ∷ 53 ∷ []) ≡ some 32768)
unfolding point_place only_digits digits_after half_scaled
half_read = (refl, refl)

-- nothing is read of a point alone, of two points, and of 2048
unread : (scaled_of (46 ∷ []) ≡ none) × (scaled_of (49 ∷ 46 ∷ 46 ∷ []) ≡ none) × (scaled_of (50 ∷ 48 ∷ 52 ∷ 56 ∷ []) ≡ none)
unfolding point_place only_digits digits_after half_scaled
unread = (refl, refl, refl)
