-- A number whose bits are tests: its size, one bit, its low bits, its ones, and one bit more.
-- Assumes nothing.
use mathlib.Core.Path.{◌≡◌, refl, sym, ap, ap₂, ◌∙◌}
use mathlib.Core.Bool.{Bool, true, false, cond}
use mathlib.Core.Logic.{◌⊎◌, inl, inr}
use Prim.Native.Nat.{ℕ, zero, suc, ◌+◌, ◌-◌, ◌*◌, ◌/◌, ◌%◌, ◌^◌, ◌<◌, ◌≤◌}
use native.Mathlib.Nat.{add_comm, add-zero, zero-add, one-mul, zero-mul, pow-suc, mod-eq_of_lt, eq-or-lt_of_le, le_of_suc-le-suc}
use native.Mathlib.Omega.{arith}
use lib.Bits.{bit_or, or_block, or_zero_r}
use lib.Count.{ones, ones_cat, ones-ones}
use lib.Dec.{eqb}
use lib.Pow.{pow_pos, pow-lt, high, low, field, mod-mod-pow}
use borrow.Author.Tests.{eq-eqb, ne_eqb}
use Rattle.index.specs.Index.{how_many, bits_by}
use Rattle.index.proofs.Tests.{one}

-- the highest bit apart
step_by : (b m : ℕ) (t : Bool) → b + cond t m 0 ≡ one t * m + b
step_by b m true = rw (one-mul m) (add_comm b m)
step_by b m false = rw (zero-mul m) (add_comm b 0)

pub bits_step : (n : ℕ) (p : ℕ → Bool) → bits_by (suc n) p ≡ one (p n) * 2 ^ n + bits_by n p
unfolding bits_by
bits_step n p = step_by (bits_by n p) (2 ^ n) (p n)

top_lt : (b m : ℕ) (t : Bool) → b < m → one t * m + b < m * 2
top_lt b m true h = rw (one-mul m) (omega arith)
top_lt b m false h = rw (zero-mul m) (omega arith)

pub bits_lt : (n : ℕ) (p : ℕ → Bool) → bits_by n p < 2 ^ n
unfolding bits_by
bits_lt zero p = omega arith
bits_lt (suc n) p = rw (step_by (bits_by n p) (2 ^ n) (p n), pow-suc 2 n) (top_lt (bits_by n p) (2 ^ n) (p n) (bits_lt n p))

pub bits_ext : (n : ℕ) (p q : ℕ → Bool) → ((i : ℕ) → i < n → p i ≡ q i) → bits_by n p ≡ bits_by n q
unfolding bits_by
bits_ext zero p q h = refl
bits_ext (suc n) p q h = rw (bits_ext n p q (λ i l. h i (omega arith)), h n (omega arith))

pub bits_none : (n : ℕ) (p : ℕ → Bool) → ((i : ℕ) → p i ≡ false) → bits_by n p ≡ 0
unfolding bits_by
bits_none zero p h = refl
bits_none (suc n) p h = rw (bits_none n p h, h n)

-- ---- ones

ones_one : (t : Bool) → ones (one t) ≡ one t
ones_one true = ones-ones 1
ones_one false = ones-ones 0

pub ones_bits : (n : ℕ) (p : ℕ → Bool) → ones (bits_by n p) ≡ how_many n p
unfolding bits_by how_many
ones_bits zero p = ones-ones 0
ones_bits (suc n) p =
    ap ones (step_by (bits_by n p) (2 ^ n) (p n)) ∙ ones_cat n (one (p n)) (bits_by n p) (bits_lt n p)
    ∙ ap₂ (λ (a b : ℕ). a + b) (ones_one (p n)) (ones_bits n p) ∙ add_comm (one (p n)) (how_many n p)

-- ---- low bits

module _ (p : ℕ → Bool) (i : ℕ) where
  low_by : (n : ℕ) → (i ≡ suc n) ⊎ (i < suc n) → (i ≤ n → bits_by n p % 2 ^ i ≡ bits_by i p) → bits_by (suc n) p % 2 ^ i ≡ bits_by i p
  low_by n (inl e) f = rw e (mod-eq_of_lt (bits_lt (suc n) p))
  low_by n (inr h) f =
      let k : (n - i) + i ≡ n = omega arith in
      sym (ap (λ (m : ℕ). bits_by (suc n) p % 2 ^ m % 2 ^ i) (sym k) ∙ mod-mod-pow (bits_by (suc n) p) (n - i) i)
      ∙ ap (λ (x : ℕ). x % 2 ^ n % 2 ^ i) (bits_step n p)
      ∙ ap (λ (x : ℕ). x % 2 ^ i) (low (one (p n)) n (bits_lt n p))
      ∙ f (omega arith)

  pub bits_low : (n : ℕ) → i ≤ n → bits_by n p % 2 ^ i ≡ bits_by i p
  bits_low zero h = let e : i ≡ 0 = omega arith in rw e (mod-eq_of_lt (bits_lt 0 p))
  bits_low (suc n) h = low_by n (eq-or-lt_of_le h) (bits_low n)

-- one bit
pub bits_at : (p : ℕ → Bool) (i n : ℕ) → i < n → bits_by n p / 2 ^ i % 2 ≡ one (p i)
bits_at p i n h =
    let k : 1 + i ≡ suc i = omega arith in
    sym (field (bits_by n p) 1 i)
    ∙ ap (λ (m : ℕ). bits_by n p % 2 ^ m / 2 ^ i) k
    ∙ ap (λ (x : ℕ). x / 2 ^ i) (bits_low p (suc i) n h ∙ bits_step i p)
    ∙ high (one (p i)) i (bits_lt i p)

-- ---- one bit more

-- number j passes too
abbrev pub and_also : (ℕ → Bool) → ℕ → ℕ → Bool
and_also p j i = cond (eqb i j) true (p i)

top_or : (t : Bool) → bit_or (one t) 1 ≡ 1
top_or true = refl
top_or false = refl

or_by : (p : ℕ → Bool) (n j : ℕ) → (j ≡ n) ⊎ (j < n) → (j < n → bit_or (bits_by n p) (2 ^ j) ≡ bits_by n (and_also p j)) →
    bit_or (bits_by (suc n) p) (2 ^ j) ≡ bits_by (suc n) (and_also p j)
or_by p n j (inl e) f =
    let m = bits_ext n p (and_also p j) (λ i l. sym (rw (ne_eqb i j (λ z. let y : i ≡ n = z ∙ e in omega arith)))) in
    ap₂ bit_or (bits_step n p) (ap (λ (k : ℕ). 2 ^ k) e ∙ sym (one-mul (2 ^ n)) ∙ sym (add-zero (1 * 2 ^ n)))
    ∙ or_block n (one (p n)) 1 (bits_by n p) 0 (bits_lt n p) (pow_pos n)
    ∙ ap₂ (λ (a b : ℕ). a * 2 ^ n + b) (top_or (p n)) (or_zero_r (bits_by n p) ∙ m)
    ∙ sym (bits_step n (and_also p j) ∙ ap (λ (t : Bool). one (cond t true (p n)) * 2 ^ n + bits_by n (and_also p j)) (eq-eqb n j (sym e)))
or_by p n j (inr h) f =
    ap₂ bit_or (bits_step n p) (sym (ap (λ (k : ℕ). k + 2 ^ j) (zero-mul (2 ^ n)) ∙ zero-add (2 ^ j)))
    ∙ or_block n (one (p n)) 0 (bits_by n p) (2 ^ j) (bits_lt n p) (pow-lt h)
    ∙ ap₂ (λ (a b : ℕ). a * 2 ^ n + b) (or_zero_r (one (p n))) (f h)
    ∙ sym (bits_step n (and_also p j) ∙ ap (λ (t : Bool). one (cond t true (p n)) * 2 ^ n + bits_by n (and_also p j)) (ne_eqb n j (λ z. omega arith)))

pub bits_or : (p : ℕ → Bool) (n j : ℕ) → j < n → bit_or (bits_by n p) (2 ^ j) ≡ bits_by n (and_also p j)
bits_or p zero j h = absurd (omega arith)
bits_or p (suc n) j h = or_by p n j (eq-or-lt_of_le (le_of_suc-le-suc h)) (bits_or p n j)
