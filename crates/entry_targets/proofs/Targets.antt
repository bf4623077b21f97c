-- Laws of what an entry stands for, and of its refusal: one for each way through the tests.
-- Assumes nothing.
use mathlib.Core.Path.{◌≡◌, refl}
use mathlib.Core.Bool.{Bool, true, false, cond}
use mathlib.Core.List.{List}
use Prim.Native.Nat.{ℕ, ◌%◌, ◌<◌, ◌≤◌, ◌^◌}
use native.Mathlib.Omega.{arith}
use lib.IntN.{ℤ}
use lib.Dec.{ltb}
use borrow.Author.Tests.{ltb-true, lt-ltb, le-ltb}
use Rattle.words.specs.Words.{word_of}
use Rattle.lang.specs.Records.{count, field, is_kind}
use Rattle.entry_targets.specs.Targets.{target_at, stands_for, entry_refusal}

module _ (s : List ℤ) (e : ℕ) where
  pub stands_target : is_kind 3 s e ≡ true → target_at s e ≡ stands_for s e
  stands_target k = rw k

  pub stands_itself : is_kind 3 s e ≡ false → e ≡ stands_for s e
  stands_itself k = rw k

  pub entry_past : count s ≤ e → 8 ≡ entry_refusal s e
  entry_past h = rw (le-ltb e (count s) h)

  module _ (h : e < count s) where
    pub entry_plain : is_kind 3 s e ≡ false → 0 ≡ entry_refusal s e
    entry_plain k = rw (k, lt-ltb e (count s) h)

    module _ (k : is_kind 3 s e ≡ true) {t : ℕ} (ts : t ≡ target_at s e) where
      pub entry_followed : t < count s → 0 ≡ entry_refusal s e
      entry_followed l = rw (k, ← ts, lt-ltb t (count s) l, lt-ltb e (count s) h)

      pub entry_far : count s ≤ t → 9 ≡ entry_refusal s e
      entry_far l = rw (k, ← ts, le-ltb t (count s) l, lt-ltb e (count s) h)

-- ---- where it can be followed, it and what it stands for are instructions

followed_tests : (a k b : Bool) → ◌≡◌ {A = ℕ} (cond a (cond k (cond b 0 9) 0) 8) 0 → (a ≡ true) × (k ≡ true → b ≡ true)
followed_tests true true true e = (refl, λ _. refl)
followed_tests true true false e = absurd (omega arith)
followed_tests true false b e = (refl, λ h. absurd (let z : ◌≡◌ {A = ℕ} 0 1 = cc in omega arith))
followed_tests false k b e = absurd (omega arith)

stands_under : (k : Bool) (t e n : ℕ) → (k ≡ true → t < n) → e < n → cond k t e < n
stands_under true t e n f h = f refl
stands_under false t e n f h = h

module _ (s : List ℤ) (e : ℕ) where
  module _ (h : entry_refusal s e ≡ 0) where
    pub followed_below : e < count s
    followed_below = ltb-true e (count s) (followed_tests (ltb e (count s)) (is_kind 3 s e) (ltb (target_at s e) (count s)) h).0

    pub stands_below : stands_for s e < count s
    stands_below =
        stands_under (is_kind 3 s e) (target_at s e) e (count s)
        (λ k. ltb-true (target_at s e) (count s) ((followed_tests (ltb e (count s)) (is_kind 3 s e) (ltb (target_at s e) (count s)) h).1 k))
        followed_below

  -- what an entry of 32 bits stands for has no more
  pub stands_word : e < 2 ^ 32 → stands_for s e < 2 ^ 32
  stands_word h = stands_under (is_kind 3 s e) (target_at s e) e (2 ^ 32) (λ _. let l : word_of (field s e 3) % 65536 < 65536 = omega arith in omega arith) h
