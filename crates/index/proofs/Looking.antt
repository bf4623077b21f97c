-- A pair looked up, by the tests of the code.
-- Assumes nothing.
use mathlib.Core.Path.{◌≡◌, refl, sym, ◌∙◌}
use mathlib.Core.Bool.{Bool, true, false, cond}
use mathlib.Core.List.{List}
use Prim.Native.Nat.{ℕ, ◌+◌, ◌*◌, ◌/◌, ◌%◌, ◌^◌, ◌<◌, ◌≤◌}
use native.Mathlib.Nat.{one-mul, mod-lt}
use native.Mathlib.Numerals.{add-one}
use native.Mathlib.Omega.{arith}
use lib.IntN.{ℤ, pos}
use lib.Dec.{eqb, ltb, leb, lit<}
use lib.Count.{ones, ones-le}
use lib.Pow.{pow_pos, shl_exact}
use lib.ListN.{get_or}
use borrow.Author.Tests.{ne_eqb, ltb-true, lt-ltb, le-ltb, leb-true, le-leb, lt-leb}
use Rattle.words.specs.Words.{Word}
use Rattle.words.proofs.Bits.{word_lt}
use Rattle.lang.proofs.Every.{both_left}
use Rattle.lang.proofs.Records.{eqb_both}
use Rattle.captions.specs.Tables.{pair_count, number, key_by, left_place, key_at}
use Rattle.index.specs.declared.Looked.TheVariants.{Missing, At, Wrong}
use Rattle.index.specs.Index.{has_bit, ones_from, place_in, stands_at, looked_up}

-- ---- ones

module _ (index : List ℕ) (at : ℕ) where
  pub ones_none : ones_from index at 0 ≡ 0
  unfolding ones_from
  ones_none = refl

  pub ones_more : (w : ℕ) → ones_from index at (w + 1) ≡ ones_from index at w + ones (get_or index (at + w) 0)
  unfolding ones_from
  ones_more w = rw add-one

-- ---- bits

module _ (index : List ℕ) (l r : ℕ) where
  pub bit_past : 255 < r → false ≡ has_bit index l r
  bit_past h = rw (lt-leb r 255 h)

  pub bit_is : r ≤ 255 → {word : ℕ} → word ≡ get_or index (5 * l + r / 64) 0 → eqb (word / 2 ^ (r % 64) % 2) 1 ≡ has_bit index l r
  bit_is h e = rw (le-leb r 255 h, e)

  pub bit_right : has_bit index l r ≡ true → r ≤ 255
  bit_right h = leb-true r 255 (both_left (leb r 255) (eqb (get_or index (5 * l + r / 64) 0 / 2 ^ (r % 64) % 2) 1) h)

-- ---- the pair that stands at a place

-- pair k, of which the right is read
module _ (pairs : List ℤ) (k left right : ℕ) {b : ℕ} (bs : Word (number pairs k 1) b) where
  pub other_right : right < 4294967296 → (b ≡ right → ⊥) → false ≡ eqb (key_at pairs k) (key_by left right)
  other_right f h =
      sym (ne_eqb (key_at pairs k) (key_by left right) (λ e. h (let d = word_lt (number pairs k 1) bs.fits in let g = bs.is in omega arith)))

  -- and then the left
  pub left_decides : b ≡ right → {a : ℕ} → Word (get_or pairs (6 * k) (pos 0)) a → eqb ((a + 1) % 4294967296) left ≡ eqb (key_at pairs k) (key_by left right)
  left_decides h {a} ls =
      let z : 6 * k + 0 ≡ 6 * k = omega arith in
      let f : left_place (number pairs k 0) ≡ (a + 1) % 4294967296 = rw (z, ls.is) in
      let g = bs.is in
      eqb_both ((a + 1) % 4294967296) left (key_at pairs k) (key_by left right) (λ e. omega arith) (λ e. omega arith)

-- ---- the low bits of a number, by a division

pub low_is : (b : ℕ) → b < 64 → 1 * 2 ^ b % 2 ^ 64 ≡ 2 ^ b
low_is b h = shl_exact 1 b 64 (lit< tt) (omega arith) ∙ one-mul (2 ^ b)

pub low_ones : (word b : ℕ) → ones (word % 2 ^ b) ≤ b
low_ones word b = ones-le b (word % 2 ^ b) (mod-lt word (pow_pos b))

-- ---- what a look-up answers, by the bit and the place k

module _ (index : List ℕ) (pairs : List ℤ) (l r : ℕ) {bit : Bool} (b : bit ≡ has_bit index l r) where
  pub no_bit : bit ≡ false → Missing ≡ looked_up index pairs l r
  no_bit e = rw (sym b ∙ e)

  module _ (e : bit ≡ true) where
    pub past_pairs : pair_count pairs ≤ place_in index l r → Wrong ≡ looked_up index pairs l r
    past_pairs h = rw (sym b ∙ e, le-ltb (place_in index l r) (pair_count pairs) h)

    module _ {k : ℕ} (ks : k ≡ place_in index l r) (h : k < pair_count pairs) {t : Bool} (ts : t ≡ eqb (key_at pairs k) (key_by l r)) where
      pub stands : t ≡ true → At k ≡ looked_up index pairs l r
      stands g = rw (sym b ∙ e, ← ks, lt-ltb k (pair_count pairs) h, ← ts, g)

      pub other_pair : t ≡ false → Wrong ≡ looked_up index pairs l r
      other_pair g = rw (sym b ∙ e, ← ks, lt-ltb k (pair_count pairs) h, ← ts, g)

-- ---- a place that a look-up answers is among the pairs

looked_by : (b t : Bool) (p k : ℕ) → cond b (cond t (At p) Wrong) Missing ≡ At k → (t ≡ true) × (p ≡ k)
looked_by true true p k e = (refl, cc)
looked_by true false p k e = absurd (let z : ◌≡◌ {A = ℕ} 0 1 = cc in omega arith)
looked_by false t p k e = absurd (let z : ◌≡◌ {A = ℕ} 0 1 = cc in omega arith)

pub looked_inside : (index : List ℕ) (pairs : List ℤ) (l r k : ℕ) → looked_up index pairs l r ≡ At k → k < pair_count pairs
looked_inside index pairs l r k e =
    let p = place_in index l r in
    let w = looked_by (has_bit index l r) (stands_at pairs (key_by l r) p) p k e in
    let h = ltb-true p (pair_count pairs) (both_left (ltb p (pair_count pairs)) (eqb (key_at pairs p) (key_by l r)) w.0) in
    omega (arith, w.1, h)
