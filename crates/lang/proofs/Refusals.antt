-- Laws of refusals: asked in a row, the first that is not 0 is the answer; the lower of two; what is known where none holds; room; and the answer by the refusal.
-- Assumes nothing.
use mathlib.Core.Path.{◌≡◌, refl, sym, ap, ◌∙◌}
use mathlib.Core.Bool.{Bool, true, false, cond}
use mathlib.Core.List.{List, [], ◌∷◌}
use Prim.Native.Nat.{ℕ, zero, suc, ◌*◌, ◌%◌, ◌<◌, ◌≤◌}
use native.Mathlib.Omega.{arith}
use lib.IntN.{ℤ, pos}
use lib.Dec.{leb, eqb}
use lib.ListN.{length}
use borrow.Author.Tests.{eqb-true, leb-true, le-leb, lt-leb}
use Rattle.words.specs.Replies.{Reply, reply_of}
use Rattle.lang.specs.declared.Written.{Written}
use Rattle.lang.specs.declared.Written.TheVariants.{Count, Refused}
use Rattle.lang.specs.Every.{both, every}
use Rattle.lang.specs.Records.{count, is_instruction}
use Rattle.lang.specs.Checks.{unless, or_else, lower, size_refusal, record_refusal, program_refusal}
use Rattle.lang.specs.Answers.{room_refusal, written_reply}
use Rattle.lang.proofs.Every.{both_left, both_right, every_at}

-- ---- the first of two numbers that is not 0

pub first_is : (m n : ℕ) → (m ≡ 0 → ⊥) → or_else m n ≡ m
first_is zero n h = absurd (h refl)
first_is (suc m) n h = refl

pub second_is : (m n : ℕ) → m ≡ 0 → or_else m n ≡ n
second_is m n e = rw e

pub second_none : (m : ℕ) → or_else m 0 ≡ m
second_none zero = refl
second_none (suc m) = refl

-- the same of a function's answers: r, which was asked first, is returned where it is not 0, and x, which was asked later, where r is 0
pub first_refusal : {m r : ℕ} (n : ℕ) → r ≡ m → (r ≡ 0 → ⊥) → r ≡ or_else m n
first_refusal {m} n e h = e ∙ sym (first_is m n (λ z. h (e ∙ z)))

pub later_refusal_lem : {m n r x : ℕ} → r ≡ m → r ≡ 0 → x ≡ n → x ≡ or_else m n
later_refusal_lem {m} {n} e z g = g ∙ sym (second_is m n (sym e ∙ z))

pub or_else_assoc : (a b c : ℕ) → or_else a (or_else b c) ≡ or_else (or_else a b) c
or_else_assoc zero b c = refl
or_else_assoc (suc a) b c = refl

-- ---- the lower of two numbers of which 0 is none

pub lower_none : (m n : ℕ) → lower m n ≡ 0 → (m ≡ 0) × (n ≡ 0)
lower_none zero n e = (refl, e)
lower_none (suc m) zero e = absurd (omega arith)
lower_none (suc m) (suc n) e = absurd (by (leb m n) e)
  where
    by : (b : Bool) → cond b (suc m) (suc n) ≡ 0 → ⊥
    by true e = omega (arith, e)
    by false e = omega (arith, e)

pub lower_first : (a b : ℕ) → b ≡ 0 → a ≡ lower a b
lower_first zero zero e = refl
lower_first zero (suc b) e = absurd (omega (arith, e))
lower_first (suc a) zero e = refl
lower_first (suc a) (suc b) e = absurd (omega (arith, e))

pub lower_less : (a b : ℕ) → (a ≡ 0 → ⊥) → (b ≡ 0 → ⊥) → a ≤ b → a ≡ lower a b
lower_less zero b h k l = absurd (h refl)
lower_less (suc a) zero h k l = absurd (k refl)
lower_less (suc a) (suc b) h k l = rw (le-leb a b (omega (arith, l)))

pub lower_more : (a b : ℕ) → (a ≡ 0 → ⊥) → (b ≡ 0 → ⊥) → b < a → b ≡ lower a b
lower_more zero b h k l = absurd (h refl)
lower_more (suc a) zero h k l = absurd (k refl)
lower_more (suc a) (suc b) h k l = rw (lt-leb a b (omega (arith, l)))

pub lower_some : (a b : ℕ) → (a ≡ 0 → ⊥) → 0 < lower a b
lower_some zero b h = absurd (h refl)
lower_some (suc a) zero h = omega arith
lower_some (suc a) (suc b) h = by (leb a b)
  where
    by : (t : Bool) → 0 < cond t (suc a) (suc b)
    by true = omega arith
    by false = omega arith

pub lower_few : (m a b : ℕ) → a ≤ m → b ≤ m → lower a b ≤ m
lower_few m zero b h k = k
lower_few m (suc a) zero h k = h
lower_few m (suc a) (suc b) h k = by (leb a b)
  where
    by : (t : Bool) → cond t (suc a) (suc b) ≤ m
    by true = h
    by false = k

-- ---- where none holds

pub or_else_none : (m n : ℕ) → or_else m n ≡ 0 → (m ≡ 0) × (n ≡ 0)
or_else_none zero n e = (refl, e)
or_else_none (suc m) n e = absurd (omega arith)

-- a test that is not refused passes
pub unless_none : (n : ℕ) (t : Bool) → unless (suc n) t ≡ 0 → t ≡ true
unless_none n true e = refl
unless_none n false e = absurd (omega arith)

-- a program that is not refused has at most 32,767 instructions
pub program_size : (s : List ℤ) → program_refusal s ≡ 0 → count s ≤ 32767
program_size s e =
    leb-true (count s) 32767
    (both_right (eqb (length s % 4) 0) (leb (count s) 32767)
    (unless_none 0 (both (eqb (length s % 4) 0) (leb (count s) 32767)) (or_else_none (size_refusal s) (record_refusal s) e).0))

-- its numbers are in fours, and each four is an instruction
pub program_fours : (s : List ℤ) → program_refusal s ≡ 0 → length s ≡ 4 * count s
program_fours s e =
    let h : length s % 4 ≡ 0 = eqb-true (length s % 4) 0
    (both_left (eqb (length s % 4) 0) (leb (count s) 32767)
    (unless_none 0 (both (eqb (length s % 4) 0) (leb (count s) 32767)) (or_else_none (size_refusal s) (record_refusal s) e).0)) in
    omega arith

pub program_record : (s : List ℤ) → program_refusal s ≡ 0 → (i : ℕ) → i < count s → is_instruction s i ≡ true
program_record s e i h =
    every_at (count s) i (is_instruction s)
    (unless_none 1 (every (count s) (is_instruction s)) (or_else_none (size_refusal s) (record_refusal s) e).1) h

-- ---- the room is enough, or it is not

pub room_fits : (needed room : ℕ) → room_refusal needed room ≡ 0 → needed ≤ room
room_fits needed room e = leb-true needed room (unless_none 14 (leb needed room) e)

pub room_is : (needed room : ℕ) → needed ≤ room → room_refusal needed room ≡ 0
room_is needed room h = rw (le-leb needed room h)

pub room_short : (needed room : ℕ) → room < needed → room_refusal needed room ≡ 15
room_short needed room h = rw (lt-leb needed room h)

-- ---- the answer by the refusal

-- a refusal's reply is its number alone, whatever the values would be
pub refused_reply : {m r : ℕ} (vs : List ℤ) → r ≡ m → (r ≡ 0 → ⊥) → ◌≡◌ {A = Reply} (record { number = r; values = [] }) (reply_of m vs)
refused_reply {m = zero} vs e h = absurd (h e)
refused_reply {m = suc m} vs e h = rw e

pub taken_reply : {m : ℕ} (vs : List ℤ) → m ≡ 0 → reply_of 0 vs ≡ reply_of m vs
taken_reply vs e = rw e

pub refused_answer : {m r : ℕ} (n : ℕ) → r ≡ m → (r ≡ 0 → ⊥) → written_reply (Refused r) ≡ reply_of m (pos n ∷ [])
refused_answer n e h = refused_reply (pos n ∷ []) e h

pub taken_answer : {m : ℕ} (n : ℕ) → m ≡ 0 → written_reply (Count n) ≡ reply_of m (pos n ∷ [])
taken_answer n e = taken_reply (pos n ∷ []) e

-- the answer is known from its reply
pub written_injective : (x y : Written) → written_reply x ≡ written_reply y → x ≡ y
written_injective (Count m) (Count n) e = let q : ◌≡◌ {A = List ℤ} (pos m ∷ []) (pos n ∷ []) = ap (λ (r : Reply). r.values) e in cc
written_injective (Count m) (Refused n) e =
    let q : ◌≡◌ {A = List ℤ} (pos m ∷ []) [] = ap (λ (r : Reply). r.values) e in let z : ◌≡◌ {A = ℕ} 0 1 = cc in absurd (omega arith)
written_injective (Refused m) (Count n) e =
    let q : ◌≡◌ {A = List ℤ} [] (pos n ∷ []) = ap (λ (r : Reply). r.values) e in let z : ◌≡◌ {A = ℕ} 0 1 = cc in absurd (omega arith)
written_injective (Refused m) (Refused n) e = ap Refused (ap (λ (r : Reply). r.number) e)
