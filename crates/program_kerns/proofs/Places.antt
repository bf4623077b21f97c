-- Laws of the place of a value in a list, and of a list with one more value.
-- Assumes nothing.
use mathlib.Core.Path.{◌≡◌, refl, ap, ◌∙◌}
use mathlib.Core.Bool.{Bool, true, false, cond}
use mathlib.Core.List.{List, [], ◌∷◌, ◌++◌}
use Prim.Native.Nat.{ℕ, suc, ◌<◌, ◌≤◌}
use native.Mathlib.Numerals.{add-one}
use native.Mathlib.Omega.{arith}
use lib.IntN.{ℤ, pos}
use lib.Dec.{eqb}
use lib.ListN.{length, get_or, length-append, get_or-append}
use lib.Seq.{get_or_at}
use borrow.Author.Tests.{eq-eqb, ne_eqb}
use Rattle.words.specs.Words.{word_of}
use Rattle.program_kerns.specs.Kerns.{kern_place}

pub place_word : (u v : ℤ) (ks : List ℤ) → word_of u ≡ word_of v → kern_place u ks ≡ kern_place v ks
unfolding kern_place
place_word u v [] e = refl
place_word u v (k ∷ ks) e = rw (e, place_word u v ks e)

pub place_le : (v : ℤ) (ks : List ℤ) → kern_place v ks ≤ length ks
unfolding kern_place
place_le v [] = omega arith
place_le v (k ∷ ks) = by (eqb (word_of k) (word_of v)) (place_le v ks)
  where
    by : (t : Bool) → kern_place v ks ≤ length ks → cond t 0 (suc (kern_place v ks)) ≤ suc (length ks)
    by true h = omega arith
    by false h = omega arith

-- a value that stands nowhere
pub place_absent : (v : ℤ) (ks : List ℤ) → ((j : ℕ) → j < length ks → word_of (get_or ks j (pos 0)) ≡ word_of v → ⊥) → kern_place v ks ≡ length ks
unfolding kern_place
place_absent v [] h = refl
place_absent v (k ∷ ks) h = rw (ne_eqb (word_of k) (word_of v) (h 0 (omega arith)), place_absent v ks (λ j l. h (suc j) (omega arith)))

-- a place stays the same when the list grows at its end
pub place_grows : (v : ℤ) (ks xs : List ℤ) → kern_place v ks < length ks → kern_place v (ks ++ xs) ≡ kern_place v ks
unfolding kern_place
place_grows v [] xs h = absurd (omega arith)
place_grows v (k ∷ ks) xs h = by (eqb (word_of k) (word_of v)) (place_grows v ks xs) h
  where
    by : (t : Bool) → (kern_place v ks < length ks → kern_place v (ks ++ xs) ≡ kern_place v ks) → cond t 0 (suc (kern_place v ks)) < suc (length ks) →
        cond t 0 (suc (kern_place v (ks ++ xs))) ≡ cond t 0 (suc (kern_place v ks))
    by true e l = refl
    by false e l = ap suc (e (omega arith))

-- a value that is added at the end
pub place_new : (v : ℤ) (ks : List ℤ) → kern_place v ks ≡ length ks → kern_place v (ks ++ (v ∷ [])) ≡ length ks
unfolding kern_place
place_new v [] h = rw (eq-eqb (word_of v) (word_of v) refl)
place_new v (k ∷ ks) h = by (eqb (word_of k) (word_of v)) (place_new v ks) h
  where
    by : (t : Bool) → (kern_place v ks ≡ length ks → kern_place v (ks ++ (v ∷ [])) ≡ length ks) → cond t 0 (suc (kern_place v ks)) ≡ suc (length ks) →
        cond t 0 (suc (kern_place v (ks ++ (v ∷ [])))) ≡ suc (length ks)
    by true e l = l
    by false e l = ap suc (e (omega arith))

-- ---- one more value

pub snoc_at : (ks : List ℤ) (v : ℤ) (j : ℕ) → j < length ks → get_or (ks ++ (v ∷ [])) j (pos 0) ≡ get_or ks j (pos 0)
snoc_at ks v j h = get_or-append ks (v ∷ []) (pos 0) j h

pub snoc_end : (ks : List ℤ) (v : ℤ) → get_or (ks ++ (v ∷ [])) (length ks) (pos 0) ≡ v
snoc_end ks v = get_or_at ks v [] (pos 0) (length ks) refl

pub snoc_length : (ks : List ℤ) (v : ℤ) → length (ks ++ (v ∷ [])) ≡ suc (length ks)
snoc_length ks v = length-append ks (v ∷ []) ∙ add-one (length ks)
