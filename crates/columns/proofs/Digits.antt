-- Digits that are read, written again, are those digits.
-- Assumes nothing.
use mathlib.Core.Path.{◌≡◌, refl, sym, ap, ◌∙◌}
use mathlib.Core.Bool.{Bool, true, false, cond}
use mathlib.Core.List.{List, [], ◌∷◌, ◌++◌, append-nil, append_assoc}
use mathlib.Core.Option.{some, some-injective}
use Prim.Native.Nat.{ℕ, zero, suc, ◌+◌, ◌-◌, ◌*◌, ◌/◌, ◌%◌, ◌<◌, ◌≤◌}
use native.Mathlib.Omega.{arith}
use lib.Dec.{leb, eqb}
use borrow.Author.Tests.{lt-ltb, le-ltb, leb-true, eqb-true, eqb-false}
use Rattle.words.proofs.Tests.{less_or_not}
use mathlib.Core.Logic.{◌⊎◌, inl, inr}
use Rattle.lang.proofs.Every.{both_left, both_right}
use Rattle.columns.specs.Numbers.{is_digit, more_digits, if_none, unsigned, digits}
use Rattle.columns.proofs.Options.{none_some, cond_some}

-- ---- how many digits are enough

-- the least number of more than f digits
unfoldable pub limit : ℕ → ℕ
limit zero = 1
limit (suc f) = 10 * limit f

-- one more than is enough changes nothing
enough : (f n : ℕ) → 0 < n → n < limit f → digits (suc f) n ≡ digits f n
unfolding digits limit
enough zero n h l = absurd (omega arith)
enough (suc f) n h l = by (less_or_not n 10) (λ s. enough f (n / 10) (omega arith) (omega arith))
  where
    by : (n < 10) ⊎ (10 ≤ n) → (10 ≤ n → digits (suc f) (n / 10) ≡ digits f (n / 10)) → digits (suc (suc f)) n ≡ digits (suc f) n
    by (inl s) k = rw (lt-ltb n 10 s)
    by (inr s) k = rw (le-ltb n 10 s) (ap (λ (ds : List ℕ). ds ++ ((48 + n % 10) ∷ [])) (k s))

-- one digit more
longer : (f n d : ℕ) → 0 < n → d < 10 → 10 * n + d < limit f → digits f (10 * n + d) ≡ digits f n ++ ((48 + d) ∷ [])
unfolding digits limit
longer zero n d h s l = absurd (omega arith)
longer (suc f) n d h s l =
    let q : (10 * n + d) / 10 ≡ n = omega arith in
    let r : (10 * n + d) % 10 ≡ d = omega arith in
    rw (le-ltb (10 * n + d) 10 (omega arith), q, r) (ap (λ (ds : List ℕ). ds ++ ((48 + d) ∷ [])) (sym (enough f n h (omega arith))))

-- ---- what is read

pub digit_is : (b : ℕ) → is_digit b ≡ true → (48 ≤ b) × (b ≤ 57)
digit_is b t = (leb-true 48 b (both_left (leb 48 b) (leb b 57) t), leb-true b 57 (both_right (leb 48 b) (leb b 57) t))

no_less : (bs : List ℕ) (m n : ℕ) → more_digits m bs ≡ some n → m ≤ n
unfolding more_digits
no_less [] m n e = let q : m ≡ n = some-injective m n e in omega arith
no_less (b ∷ bs) m n e = omega (arith, no_less bs (10 * m + (b - 48)) n (cond_some (is_digit b) (more_digits (10 * m + (b - 48)) bs) n e).1)

more_written : (bs : List ℕ) (f m n : ℕ) → 0 < m → n < limit f → more_digits m bs ≡ some n → digits f n ≡ digits f m ++ bs
unfolding more_digits
more_written [] f m n h l e = ap (digits f) (sym (some-injective m n e)) ∙ sym (append-nil (digits f m))
more_written (b ∷ bs) f m n h l e =
    let c = cond_some (is_digit b) (more_digits (10 * m + (b - 48)) bs) n e in
    let d = digit_is b c.0 in
    let k : 48 + (b - 48) ≡ b = omega (arith, d.0) in
    more_written bs f (10 * m + (b - 48)) n (omega arith) l c.1
    ∙ ap (λ (ds : List ℕ). ds ++ bs) (longer f m (b - 48) h (omega (arith, d.1)) (omega (arith, no_less bs (10 * m + (b - 48)) n c.1)))
    ∙ append_assoc (digits f m) ((48 + (b - 48)) ∷ []) bs
    ∙ ap (λ (x : ℕ). digits f m ++ (x ∷ bs)) k

alone : (bs : List ℕ) (n : ℕ) → if_none bs (some 0) ≡ some n → (bs ≡ []) × (n ≡ 0)
alone [] n e = (refl, sym (some-injective 0 n e))
alone (b ∷ bs) n e = absurd (none_some e)

pub unsigned_written : (bs : List ℕ) (n : ℕ) → n ≤ 2147483648 → unsigned bs ≡ some n → digits 10 n ≡ bs
unfolding more_digits digits limit
unsigned_written [] n l e = absurd (none_some e)
unsigned_written (b ∷ bs) n l e = by (eqb b 48) refl e
  where
    by : (t : Bool) → eqb b 48 ≡ t → cond t (if_none bs (some 0)) (more_digits 0 (b ∷ bs)) ≡ some n → digits 10 n ≡ b ∷ bs
    by true t e =
        let a = alone bs n e in
        rw (a.0, a.1, eqb-true b 48 t)
    by false t e =
        let c = cond_some (is_digit b) (more_digits (10 * 0 + (b - 48)) bs) n e in
        let d = digit_is b c.0 in
        let ne = eqb-false b 48 t in
        let k : 48 + (b - 48) ≡ b = omega (arith, d.0) in
        let s : 10 * 0 + (b - 48) < 10 = omega (arith, d.1) in
        let p : 0 < 10 * 0 + (b - 48) = omega (arith, d.0, ne) in
        let z : 10 * 0 + (b - 48) ≡ b - 48 = omega arith in
        let one : digits 10 (10 * 0 + (b - 48)) ≡ b ∷ [] = rw (lt-ltb (10 * 0 + (b - 48)) 10 s) (ap (λ (x : ℕ). (48 + x) ∷ []) z ∙ ap (λ (x : ℕ). x ∷ []) k) in
        more_written bs 10 (10 * 0 + (b - 48)) n p (omega arith) c.1 ∙ ap (λ (ds : List ℕ). ds ++ bs) one
