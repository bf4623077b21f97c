-- The difference of two naturals as an integer: its sign, its range, and its quotient rounded down.
-- Assumes nothing.
use mathlib.Core.Path.{◌≡◌, sym, ap}
use Prim.Native.Nat.{ℕ, zero, suc, ◌+◌, ◌*◌, ◌-◌, ◌/◌, ◌%◌, ◌^◌, ◌<◌, ◌≤◌}
use native.Mathlib.Decide.{dec_lt}
use native.Mathlib.Nat.{suc-mul, add-mul, div-add-mod', mod-lt, div-lt_iff_lt-mul, le-div_iff_mul-le}
use native.Mathlib.Omega.{arith}
use lib.Arith.{digits_div}
use lib.IntN.{pos, negsuc, neg_ℤ, ◌-ℤ◌}
use lib.Signed.{shr_z}
use mir.Syntax.{w32}
use mir.Val.{SFits}
use borrow.Author.Tests.{lt-ltb, le-ltb}

pub sub_of_le : (a b : ℕ) → b ≤ a → pos a -ℤ pos b ≡ pos (a - b)
sub_of_le a zero h = ap pos (omega arith)
sub_of_le a (suc b) h = rw (le-ltb a (suc b) h)

pub sub_of_lt : (a b : ℕ) → a < b → pos a -ℤ pos b ≡ negsuc (b - suc a)
sub_of_lt a zero h = absurd (omega arith)
sub_of_lt a (suc b) h = rw (lt-ltb a (suc b) h)

pub neg_sub : (a b : ℕ) → a ≤ b → neg_ℤ (pos (b - a)) ≡ pos a -ℤ pos b
neg_sub a b h = by (dec_lt a b)
  where
    by : Dec (a < b) → neg_ℤ (pos (b - a)) ≡ pos a -ℤ pos b
    by (yes l) = let e : b - a ≡ suc (b - suc a) = omega arith in rw (sub_of_lt a b l, e)
    by (no l) = let e : b - a ≡ 0 = omega (arith, l) in let f : a - b ≡ 0 = omega arith in rw (sub_of_le a b (omega (arith, l)), e, f)

-- of two numbers below 2 ^ 31 it is an i32
pub difference_fits : (a b : ℕ) → a < 2 ^ 31 → b < 2 ^ 31 → SFits w32 (pos a -ℤ pos b)
difference_fits a b h k = by (dec_lt a b)
  where
    by : Dec (a < b) → SFits w32 (pos a -ℤ pos b)
    by (yes l) = rw (sub_of_lt a b l) (record { sfits = omega arith })
    by (no l) = rw (sub_of_le a b (omega (arith, l))) (record { sfits = omega arith })

-- a quotient of a difference: x is q * n + r with r below n
over : (x y n q r k : ℕ) → r < n → x ≡ q * n + r → q ≡ y + k → (x - y * n) / n ≡ k
over x y n q r k l ex eq =
    let e : x - y * n ≡ k * n + r = rw (ex, eq, add-mul y k n) (omega arith) in
    rw e (digits_div k l)

under : (x y n q r k : ℕ) → r < n → x ≡ q * n + r → y ≡ suc (q + k) → (y * n - suc x) / n ≡ k
under x y n q r k l ex ey =
    let e : y * n - suc x ≡ k * n + (n - suc r) = rw (ex, ey, suc-mul (q + k) n, add-mul q k n) (omega arith) in
    rw e (digits_div k (omega arith))

-- taking y away before a division by n that rounds down, as y * n, or after it
pub shr_sub : (x y n : ℕ) → 0 < n → shr_z (pos x -ℤ pos (y * n)) n ≡ pos (x / n) -ℤ pos y
shr_sub x y n p = by (dec_lt (x / n) y)
  where
    by : Dec (x / n < y) → shr_z (pos x -ℤ pos (y * n)) n ≡ pos (x / n) -ℤ pos y
    by (yes l) =
        let e = under x y n (x / n) (x % n) (y - suc (x / n)) (mod-lt x p) (sym (div-add-mod' x n)) (omega arith) in
        rw (sub_of_lt x (y * n) ((div-lt_iff_lt-mul p).0 l), sub_of_lt (x / n) y l) (ap negsuc e)
    by (no l) =
        let h : y ≤ x / n = omega (arith, l) in
        let e = over x y n (x / n) (x % n) (x / n - y) (mod-lt x p) (sym (div-add-mod' x n)) (omega arith) in
        rw (sub_of_le x (y * n) ((le-div_iff_mul-le p).0 h), sub_of_le (x / n) y h) (ap pos e)
