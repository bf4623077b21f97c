-- How many numbers below n pass a test, and whether one does.
-- Assumes nothing.
use mathlib.Core.Path.{◌≡◌, refl, ap, ◌∙◌}
use mathlib.Core.Bool.{Bool, true, false, cond}
use mathlib.Core.Logic.{◌⊎◌, inl, inr}
use Prim.Native.Nat.{ℕ, zero, suc, ◌+◌, ◌<◌, ◌≤◌}
use native.Mathlib.Nat.{add-zero, add-suc, add_assoc, eq-or-lt_of_le, le_of_suc-le-suc}
use native.Mathlib.Numerals.{add-one}
use native.Mathlib.Omega.{arith}
use Rattle.index.specs.Index.{any_below, how_many}

-- a test as a number
abbrev pub one : Bool → ℕ
one t = cond t 1 0

-- ---- one of them passes

any_by : (n k : ℕ) (p : ℕ → Bool) (t : Bool) → p n ≡ t → (k ≡ n) ⊎ (k < n) → p k ≡ true → (k < n → any_below n p ≡ true) → cond t true (any_below n p) ≡ true
any_by n k p true e h g f = refl
any_by n k p false e (inl h) g f = absurd (let q : p k ≡ p n = ap p h in let z : ◌≡◌ {A = ℕ} 0 1 = cc in omega arith)
any_by n k p false e (inr h) g f = f h

pub any_at : (n k : ℕ) (p : ℕ → Bool) → k < n → p k ≡ true → any_below n p ≡ true
unfolding any_below
any_at zero k p h g = absurd (omega arith)
any_at (suc n) k p h g = any_by n k p (p n) refl (eq-or-lt_of_le (le_of_suc-le-suc h)) g (λ l. any_at n k p l g)

witness_by : (n : ℕ) (p : ℕ → Bool) (t : Bool) → p n ≡ t → cond t true (any_below n p) ≡ true → (any_below n p ≡ true → (k : ℕ) × (k < n) × (p k ≡ true)) →
    (k : ℕ) × (k < suc n) × (p k ≡ true)
witness_by n p true e h f = (n, omega arith, e)
witness_by n p false e h f = let w = f h in (w.0, omega (arith, w.1), w.2)

pub any_witness : (n : ℕ) (p : ℕ → Bool) → any_below n p ≡ true → (k : ℕ) × (k < n) × (p k ≡ true)
unfolding any_below
any_witness zero p h = absurd (let z : ◌≡◌ {A = ℕ} 0 1 = cc in omega arith)
any_witness (suc n) p h = witness_by n p (p n) refl h (any_witness n p)

pub any_none : (p : ℕ → Bool) → any_below 0 p ≡ false
unfolding any_below
any_none p = refl

-- one number more, as a loop that counts up tries it
pub any_more : (n : ℕ) (p : ℕ → Bool) → any_below (n + 1) p ≡ cond (p n) true (any_below n p)
unfolding any_below
any_more n p = rw add-one

-- ---- how many pass

pub many_ext : (n : ℕ) (p q : ℕ → Bool) → ((i : ℕ) → i < n → p i ≡ q i) → how_many n p ≡ how_many n q
unfolding how_many
many_ext zero p q h = refl
many_ext (suc n) p q h = rw (many_ext n p q (λ i l. h i (omega arith)), h n (omega arith))

pub many_all : (n : ℕ) (p : ℕ → Bool) → ((i : ℕ) → i < n → p i ≡ true) → how_many n p ≡ n
unfolding how_many
many_all zero p h = refl
many_all (suc n) p h = rw (many_all n p (λ i l. h i (omega arith)), h n (omega arith)) (omega arith)

pub many_none : (n : ℕ) (p : ℕ → Bool) → ((i : ℕ) → i < n → p i ≡ false) → how_many n p ≡ 0
unfolding how_many
many_none zero p h = refl
many_none (suc n) p h = rw (many_none n p (λ i l. h i (omega arith)), h n (omega arith)) refl

-- at most all of them, and no fewer where a test passes more
pub many_mono : (n : ℕ) (p q : ℕ → Bool) → ((i : ℕ) → i < n → p i ≡ true → q i ≡ true) → how_many n p ≤ how_many n q
unfolding how_many
many_mono zero p q h = omega arith
many_mono (suc n) p q h =
    let l : one (p n) ≤ one (q n) = go (p n) refl in
    omega (arith, many_mono n p q (λ i l. h i (omega arith)))
  where
    go : (t : Bool) → p n ≡ t → one t ≤ one (q n)
    go true e = rw (h n (omega arith) e) (omega arith)
    go false e = omega arith

pub many_le : (n : ℕ) (p : ℕ → Bool) → how_many n p ≤ n
many_le n p = omega (arith, many_mono n p (λ _. true) (λ i l e. refl), many_all n (λ _. true) (λ i l. refl))

-- those below a, and those from a on
pub many_add : (a b : ℕ) (p : ℕ → Bool) → how_many (a + b) p ≡ how_many a p + how_many b (λ i. p (a + i))
unfolding how_many
many_add a zero p = rw (add-zero a) (omega arith)
many_add a (suc b) p =
    rw (add-suc a b) (ap (λ (m : ℕ). m + one (p (a + b))) (many_add a b p) ∙ add_assoc (how_many a p) (how_many b (λ i. p (a + i))) (one (p (a + b))))

-- a test that is one of two others, never both
pub many_sum : (n : ℕ) (p q r : ℕ → Bool) → ((i : ℕ) → one (p i) ≡ one (q i) + one (r i)) → how_many n p ≡ how_many n q + how_many n r
unfolding how_many
many_sum zero p q r h = refl
many_sum (suc n) p q r h = omega (arith, many_sum n p q r h, h n)

-- a test that no two numbers pass
once_by : (n : ℕ) (p : ℕ → Bool) (t : Bool) → p n ≡ t → ((i : ℕ) → i < n → p i ≡ true → p n ≡ true → ⊥) → how_many n p ≡ one (any_below n p) →
    how_many n p + one t ≡ one (cond t true (any_below n p))
once_by n p true e h f =
    let none : how_many n p ≡ 0 = many_none n p (λ i l. go i l (p i) refl) in
    omega arith
  where
    go : (i : ℕ) → i < n → (t : Bool) → p i ≡ t → t ≡ false
    go i l true g = absurd (h i l g e)
    go i l false g = refl
once_by n p false e h f = omega arith

pub many_once : (n : ℕ) (p : ℕ → Bool) → ((i j : ℕ) → i < j → j < n → p i ≡ true → p j ≡ true → ⊥) → how_many n p ≡ one (any_below n p)
unfolding how_many any_below
many_once zero p h = refl
many_once (suc n) p h = once_by n p (p n) refl (λ i l. h i n l (omega arith)) (many_once n p (λ i j l k. h i j l (omega arith)))
