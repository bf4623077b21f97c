-- The definitions of specs/Requests and specs/Answers by the tests that the code makes, over plain values.
use Rattle.std.proofs.Common.{◌≡◌, ℕ, ◌+◌, ◌-◌, ◌*◌, ◌<◌, ◌≤◌, Bool, true, false, cond, ltb, List, [], length, take, drop, ℤ, refl, ap, ◌∙◌, arith, length-set, ltb-true, le-ltb, lt-ltb, le-leb}
use borrow.Author.Tests.{lt-leb}
use Rattle.words.specs.Words.{word_of}
use Rattle.test_requests.specs.Requests.{part_of, after_of, items_of, number_at}
use Rattle.test_requests.specs.Answers.{Put}

-- ---- a part of the numbers

module _ (s : List ℤ) (a e : ℕ) where
  pub part_before : e < a → [] ≡ part_of s a e
  unfolding part_of
  part_before h = rw (lt-ltb e a h)

  pub part_past : a ≤ e → length s < e → [] ≡ part_of s a e
  unfolding part_of
  part_past h k = rw (le-ltb e a h, lt-ltb (length s) e k)

  pub part_is : a ≤ e → e ≤ length s → take (e - a) (drop a s) ≡ part_of s a e
  unfolding part_of
  part_is h k = rw (le-ltb e a h, le-ltb (length s) e k)

-- ---- a list among the numbers

module _ (w : ℕ) (s : List ℤ) (i : ℕ) where
  pub after_none : length s ≤ i → length s ≡ after_of w s i
  unfolding after_of
  after_none h = rw (le-leb (length s) i h)

  pub after_past : (v : ℕ) → v ≡ word_of (number_at s i) → i < length s → length s - i - 1 < w * v → length s ≡ after_of w s i
  unfolding after_of
  after_past v e h k = rw (lt-leb (length s) i h, ← e, lt-ltb (length s - i - 1) (w * v) k)

  pub after_is : (v : ℕ) → v ≡ word_of (number_at s i) → i < length s → w * v ≤ length s - i - 1 → i + 1 + w * v ≡ after_of w s i
  unfolding after_of
  after_is v e h k = rw (lt-leb (length s) i h, ← e, le-ltb (length s - i - 1) (w * v) k)

  pub items_none : length s ≤ i → [] ≡ items_of w s i
  unfolding items_of
  items_none h = rw (le-leb (length s) i h)

  pub items_are : (r : List ℤ) (e : ℕ) → i < length s → e ≡ after_of w s i → r ≡ part_of s (i + 1) e → r ≡ items_of w s i
  unfolding items_of
  items_are r e h p q = rw (lt-leb (length s) i h, ← p, q)

-- ---- numbers written one after another

-- the place is not before where it was, and within the list if it was; the length stays
pub record Kept (at : ℕ) (d₀ d : List ℤ) (next : ℕ) : Type 0 where
  pub on : at ≤ next
  pub within : at ≤ length d₀ → next ≤ length d
  pub same_length : length d ≡ length d₀

pub kept_none : (at : ℕ) (d : List ℤ) → Kept at d d at
kept_none at d = record { on = omega arith; within = λ h. h; same_length = refl }

one_on : (i n : ℕ) (b : Bool) → ltb i n ≡ b → (i ≤ cond b (i + 1) i) × (i ≤ n → cond b (i + 1) i ≤ n)
one_on i n true e = (omega arith, λ k. omega (arith, ltb-true i n e))
one_on i n false e = (omega arith, λ k. k)

pub kept_more : {at : ℕ} {d₀ d d' : List ℤ} {next w r : ℕ} → Kept at d₀ d next → Put d next w r d' → Kept at d₀ d' r
kept_more {at} {d₀} {d} {d'} {next} {w} {r} k p =
    let s : length d' ≡ length d = ap length p.is ∙ simp length-set in
    let o = one_on next (length d) (ltb next (length d)) refl in
    let e = p.next in
    record { on = omega (arith, k.on, o.0, e); within = λ h. omega (arith, k.within h, o.1 (k.within h), e, s); same_length = s ∙ k.same_length }
