-- Laws of the entries by ascending character: each entry of the table is listed, two numbers each.
-- Assumes nothing.
use mathlib.Core.Path.{◌≡◌, refl, ◌∙◌}
use mathlib.Core.Bool.{Bool, true, false, cond}
use mathlib.Core.List.{List, [], ◌∷◌, ◌++◌, append-nil}
use mathlib.Core.Logic.{◌⊎◌, inl, inr}
use Prim.Native.Nat.{ℕ, zero, suc, ◌+◌, ◌*◌, ◌/◌, ◌%◌, ◌<◌}
use native.Mathlib.Nat.{eq-or-lt_of_le, le_of_suc-le-suc}
use native.Mathlib.Omega.{arith}
use lib.IntN.{ℤ, pos, negsuc}
use lib.ListN.{length, get_or, length-append, get_or-append}
use lib.Seq.{get_or-append-add}
use lib.Signed.{non_neg}
use Rattle.lang.specs.Checks.{char_at, entry_at}
use Rattle.files.specs.Purpose.{ascending}

-- place k of a list of entries has character c and entry z
pub record ListedAt (es : List ℤ) (c : ℕ) (z : ℤ) : Type 0 where
  pub place : ℕ
  pub inside : place < length es / 2
  pub char : char_at es place ≡ pos c
  pub entry : entry_at es place ≡ z

-- ---- one more, or none

even_by : (xs : List ℤ) (b : Bool) (c : ℕ) (z : ℤ) → length xs % 2 ≡ 0 → length (xs ++ cond b (pos c ∷ z ∷ []) []) % 2 ≡ 0
even_by xs true c z e = rw (length-append xs (pos c ∷ z ∷ [])) (omega arith)
even_by xs false c z e = rw (append-nil xs) e

listed_last : (xs : List ℤ) (c : ℕ) (z : ℤ) → length xs % 2 ≡ 0 → ListedAt (xs ++ (pos c ∷ z ∷ [])) c z
listed_last xs c z e =
    let a : 2 * (length xs / 2) ≡ length xs + 0 = omega arith in
    let b : 2 * (length xs / 2) + 1 ≡ length xs + 1 = omega arith in
    record {
      place = length xs / 2;
      inside = rw (length-append xs (pos c ∷ z ∷ [])) (omega arith);
      char = rw a (get_or-append-add xs (pos c ∷ z ∷ []) 0 (pos 0));
      entry = rw b (get_or-append-add xs (pos c ∷ z ∷ []) 1 (pos 0));
    }

listed_more : (xs ys : List ℤ) (c : ℕ) (z : ℤ) → ListedAt xs c z → ListedAt (xs ++ ys) c z
listed_more xs ys c z v =
    let h = v.inside in
    record {
      place = v.place;
      inside = rw (length-append xs ys) (omega arith);
      char = get_or-append xs ys (pos 0) (2 * v.place) (omega arith) ∙ v.char;
      entry = get_or-append xs ys (pos 0) (2 * v.place + 1) (omega arith) ∙ v.entry;
    }

-- ---- all of them

module _ (table : List ℤ) where
  ascending_even : (n : ℕ) → length (ascending table n) % 2 ≡ 0
  unfolding ascending
  ascending_even zero = refl
  ascending_even (suc n) = even_by (ascending table n) (non_neg (get_or table n (negsuc 0))) n (get_or table n (negsuc 0)) (ascending_even n)

  listed_by : (n c : ℕ) → non_neg (get_or table c (negsuc 0)) ≡ true → (c ≡ n) ⊎ (c < n) →
      (c < n → ListedAt (ascending table n) c (get_or table c (negsuc 0))) → ListedAt (ascending table (suc n)) c (get_or table c (negsuc 0))
  unfolding ascending
  listed_by n c t (inl e) r = rw (← e, t) (listed_last (ascending table c) c (get_or table c (negsuc 0)) (ascending_even c))
  listed_by n c t (inr h) r =
      listed_more (ascending table n) (cond (non_neg (get_or table n (negsuc 0))) (pos n ∷ get_or table n (negsuc 0) ∷ []) []) c (get_or table c (negsuc 0)) (r h)

  pub listed : (n c : ℕ) → c < n → non_neg (get_or table c (negsuc 0)) ≡ true → ListedAt (ascending table n) c (get_or table c (negsuc 0))
  listed zero c h t = absurd (omega arith)
  listed (suc n) c h t = listed_by n c t (eq-or-lt_of_le (le_of_suc-le-suc h)) (λ l. listed n c l t)
