-- Laws of the two numbers of an instruction (specs/Reach): the adjusted skip, the state, and both written one after the other.
-- Assumes nothing.
use mathlib.Core.Path.{◌≡◌, refl, sym, ap, ◌∙◌}
use mathlib.Core.Bool.{Bool, true, false, cond}
use mathlib.Core.List.{List}
use Prim.Native.Nat.{ℕ, zero, suc, ◌+◌, ◌*◌, ◌/◌, ◌%◌, ◌<◌, ◌≤◌}
use native.Mathlib.Numerals.{add-one}
use native.Mathlib.Omega.{arith}
use lib.IntN.{ℤ, pos, negsuc}
use lib.Dec.{eqb}
use lib.ListN.{length, get_or, set}
use borrow.Author.Tests.{eq-eqb, ne_eqb, le-leb, lt-leb}
use Rattle.std.specs.Prelude.{None, Some, Option}
use Rattle.words.specs.Words.{number_of}
use Rattle.words.specs.Lists.{Filling}
use Rattle.words.proofs.Bits.{number_pos}
use Rattle.lang.specs.declared.instruction.Instruction.{Instruction}
use Rattle.lang.specs.Records.{count, instruction_at}
use Rattle.lang.proofs.Filled.{filling_put}
use Rattle.reach.specs.Reach.{marks_from, adjusted_skip, state_of, skip_of, reach_number}

-- ---- the adjusted skip (TFtoPL 75)

pub counted_none : (m : List ℕ) (i : ℕ) → 0 ≡ marks_from m i 0
unfolding marks_from
counted_none m i = refl

pub counted_marked : (m : List ℕ) (i j f : ℕ) → f ≡ marks_from m i j → (get_or m (i + j) 0 ≡ 0 → ⊥) → f + 1 ≡ marks_from m i (j + 1)
unfolding marks_from
counted_marked m i j f e h = rw (add-one j, ne_eqb (get_or m (i + j) 0) 0 h, e)

pub counted_bare : (m : List ℕ) (i j f : ℕ) → f ≡ marks_from m i j → get_or m (i + j) 0 ≡ 0 → f ≡ marks_from m i (j + 1)
unfolding marks_from
counted_bare m i j f e h = rw (add-one j, eq-eqb (get_or m (i + j) 0) 0 h) (omega arith)

pub counted_few : (m : List ℕ) (i k : ℕ) → marks_from m i k ≤ k
unfolding marks_from
counted_few m i zero = omega arith
counted_few m i (suc k) = go (eqb (get_or m (i + k) 0) 0) (counted_few m i k)
  where
    go : (t : Bool) → marks_from m i k ≤ k → marks_from m i k + cond t 0 1 ≤ suc k
    go true h = omega arith
    go false h = omega arith

module _ (n : ℕ) (m : List ℕ) where
  pub skip_stops : (next : Option ℕ) (i : ℕ) → next ≡ None → negsuc 0 ≡ adjusted_skip n m next i
  skip_stops next i e = sym (ap (λ (x : Option ℕ). adjusted_skip n m x i) e)

  pub skip_nothing : (next : Option ℕ) (k i : ℕ) → next ≡ Some k → k ≡ 0 → negsuc 0 ≡ adjusted_skip n m next i
  skip_nothing next k i e z = sym (ap (λ (x : Option ℕ). adjusted_skip n m x i) (e ∙ ap Some z))

  pub skip_past : (next : Option ℕ) (k i : ℕ) → next ≡ Some k → n < i + 1 + k → negsuc 0 ≡ adjusted_skip n m next i
  skip_past next k i e h = go k h ∙ sym (ap (λ (x : Option ℕ). adjusted_skip n m x i) e)
    where
      go : (k : ℕ) → n < i + 1 + k → negsuc 0 ≡ adjusted_skip n m (Some k) i
      go zero h = refl
      go (suc k) h = rw (lt-leb (i + 1 + suc k) n h)

  pub skip_counted : (next : Option ℕ) (k i r : ℕ) → next ≡ Some k → (k ≡ 0 → ⊥) → k < 256 → i + 1 + k ≤ n → r ≡ marks_from m (i + 1) k →
      number_of r ≡ adjusted_skip n m next i
  skip_counted next k i r e z l h c = go k z l h c ∙ sym (ap (λ (x : Option ℕ). adjusted_skip n m x i) e)
    where
      go : (k : ℕ) → (k ≡ 0 → ⊥) → k < 256 → i + 1 + k ≤ n → r ≡ marks_from m (i + 1) k → number_of r ≡ adjusted_skip n m (Some k) i
      go zero z l h c = absurd (z refl)
      go (suc k) z l h c =
          rw (le-leb (i + 1 + suc k) n h)
          (number_pos r (omega (arith, counted_few m (i + 1) (suc k))) ∙ ap pos c)

-- of an instruction that is not marked, and of one that is
pub skip_bare : (s : List ℤ) (m : List ℕ) (i : ℕ) → get_or m i 0 ≡ 0 → negsuc 0 ≡ skip_of s m i
skip_bare s m i e = rw (eq-eqb (get_or m i 0) 0 e)

pub skip_marked : (s : List ℤ) (m : List ℕ) (i v : ℕ) (x : Instruction) → (get_or m i 0 ≡ 0 → ⊥) → length m ≡ count s → x ≡ instruction_at s i →
    number_of v ≡ adjusted_skip (length m) m x.next_instruction i → number_of v ≡ skip_of s m i
skip_marked s m i v x h l e g =
    rw (ne_eqb (get_or m i 0) 0 h)
    (g
    ∙ ap (λ (n : ℕ). adjusted_skip n m x.next_instruction i) l
    ∙ ap (λ (y : Instruction). adjusted_skip (count s) m y.next_instruction i) e)

-- ---- the state

pub state_marked : (m p : List ℕ) (i : ℕ) → (get_or m i 0 ≡ 0 → ⊥) → 1 ≡ state_of m p i
state_marked m p i h = rw (ne_eqb (get_or m i 0) 0 h)

pub state_through : (m p : List ℕ) (i : ℕ) → get_or m i 0 ≡ 0 → (get_or p i 0 ≡ 0 → ⊥) → 2 ≡ state_of m p i
state_through m p i e h = rw (eq-eqb (get_or m i 0) 0 e, ne_eqb (get_or p i 0) 0 h)

pub state_bare : (m p : List ℕ) (i : ℕ) → get_or m i 0 ≡ 0 → get_or p i 0 ≡ 0 → 0 ≡ state_of m p i
state_bare m p i e h = rw (eq-eqb (get_or m i 0) 0 e, eq-eqb (get_or p i 0) 0 h)

-- ---- the numbers of the answer

pub state_small : (m p : List ℕ) (i : ℕ) → state_of m p i ≤ 2
state_small m p i = go (eqb (get_or m i 0) 0) (eqb (get_or p i 0) 0)
  where
    go : (t u : Bool) → cond t (cond u 0 2) 1 ≤ 2
    go true true = omega arith
    go true false = omega arith
    go false u = omega arith

module _ {A : Type 0} (a b : ℕ → A) (i : ℕ) where
  number_even : cond (eqb (2 * i % 2) 0) (a (2 * i / 2)) (b (2 * i / 2)) ≡ a i
  number_even =
      let r : 2 * i % 2 ≡ 0 = omega arith in
      let q : 2 * i / 2 ≡ i = omega arith in
      rw (r, q)

  number_odd : cond (eqb ((2 * i + 1) % 2) 0) (a ((2 * i + 1) / 2)) (b ((2 * i + 1) / 2)) ≡ b i
  number_odd =
      let r : (2 * i + 1) % 2 ≡ 1 = omega arith in
      let q : (2 * i + 1) / 2 ≡ i = omega arith in
      rw (r, q)

module _ (s : List ℤ) (m p : List ℕ) where
  state_number : (i w : ℕ) → w ≡ state_of m p i → number_of w ≡ reach_number s m p (2 * i)
  state_number i w e =
      number_pos w (omega (arith, e, state_small m p i))
      ∙ ap pos e
      ∙ sym (number_even (λ (k : ℕ). pos (state_of m p k)) (λ (k : ℕ). skip_of s m k) i)

  skip_number : (i v : ℕ) → number_of v ≡ skip_of s m i → number_of v ≡ reach_number s m p (2 * i + 1)
  skip_number i v e = e ∙ sym (number_odd (λ (k : ℕ). pos (state_of m p k)) (λ (k : ℕ). skip_of s m k) i)

  -- two more numbers are written
  pub written_more : (d₀ d d₁ d₂ : List ℤ) (i w v : ℕ) → Filling (reach_number s m p) d₀ d (2 * i) → 2 * i + 1 < length d₀ → w ≡ state_of m p i →
      number_of v ≡ skip_of s m i → d₁ ≡ set d (2 * i) (number_of w) → d₂ ≡ set d₁ (2 * i + 1) (number_of v) → Filling (reach_number s m p) d₀ d₂ (2 * (i + 1))
  written_more d₀ d d₁ d₂ i w v h l e f g k =
      let n : 2 * i + 1 + 1 ≡ 2 * (i + 1) = omega arith in
      rw n at (filling_put (filling_put h (omega arith) g (state_number i w e)) l k (skip_number i v f))
