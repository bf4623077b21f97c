-- Laws of a list that is copied to the front of another, as far as that goes, and of what is written once the number is known.
-- Assumes nothing.
use mathlib.Core.Path.{◌≡◌, refl, sym, ap, ◌∙◌}
use mathlib.Core.List.{List, [], ◌∷◌, ◌++◌}
use Prim.Native.Nat.{ℕ, zero, suc, ◌+◌, ◌<◌, ◌≤◌, min}
use native.Mathlib.Omega.{arith}
use lib.IntN.{ℤ, pos}
use lib.ListN.{length, take, drop, replicate, take-append-drop, length-append, length-drop}
use lib.Seq.{sets, length-take-le}
use Rattle.std.proofs.lemmas.List.{set_past}
use Rattle.words.proofs.Lists.{sets_append, sets_front}
use Rattle.repair_loops.specs.WarnsLoops.{if_taken}
use Rattle.repair_places.specs.Writing.{over_zeros, WritesRepaired}

-- ---- copied to the front

-- what is left of the numbers is stored past the end
sets_rest : {A : Type 0} (vs d : List A) (i : ℕ) → (0 < length vs → length d ≤ i) → sets d i vs ≡ d
sets_rest [] d i h = refl
sets_rest (v ∷ vs) d i h =
    let k : length d ≤ i = h (omega arith) in
    rw (set_past d i v k) (sets_rest vs d (suc i) (λ l. omega arith))

-- the first n of the numbers, where n is the length of the shorter list
pub copied : {A : Type 0} (from d : List A) (n : ℕ) → n ≡ min (length from) (length d) → take n from ++ drop n d ≡ sets d 0 from
copied {A} from d n m =
    let xs = take n from in
    let l : length xs ≡ n = omega (arith, length-take-le n from (omega arith)) in
    let front : sets d 0 xs ≡ xs ++ drop n d = sets_front xs d (omega arith) ∙ ap (λ (k : ℕ). xs ++ drop k d) l in
    let long : length (xs ++ drop n d) ≡ length d = omega (arith, length-append xs (drop n d), length-drop n d) in
    let rest : sets (xs ++ drop n d) (0 + length xs) (drop n from) ≡ xs ++ drop n d =
    sets_rest (drop n from) (xs ++ drop n d) (0 + length xs) (λ h. omega (arith, length-drop n from)) in
    sym (ap (sets d 0) (sym (take-append-drop n from)) ∙ sets_append xs (drop n from) d 0
    ∙ ap (λ (t : List A). sets t (0 + length xs) (drop n from)) front ∙ rest)

-- ---- written by the number

over_none : {A : Type 0} (number : ℕ) (o : A) (n : ℕ) (xs : List A) → (number ≡ 0 → ⊥) → replicate n o ≡ over_zeros number o n xs
over_none zero o n xs h = absurd (h refl)
over_none (suc number) o n xs h = refl

over_all : {A : Type 0} (number : ℕ) (o : A) (n : ℕ) (xs : List A) {z l : List A} → number ≡ 0 → z ≡ replicate n o → l ≡ sets z 0 xs →
    l ≡ over_zeros number o n xs
over_all {A} number o n xs e z c =
    c ∙ ap (λ (y : List A). sets y 0 xs) z ∙ ap (λ (k : ℕ). if_taken k (sets (replicate n o) 0 xs) (replicate n o)) (sym e)

module _ (number : ℕ) (program : List ℤ) (passed : List ℕ) (fixed : List ℤ) (through : List ℕ) {blank : List ℤ} {bare : List ℕ}
    (z : blank ≡ replicate (length fixed) (pos 0)) (y : bare ≡ replicate (length through) 0) where
  pub not_written : (number ≡ 0 → ⊥) → WritesRepaired number program passed fixed through blank bare
  not_written h =
      record {
        instructions = z ∙ over_none number (pos 0) (length fixed) program h;
        passthrough = y ∙ over_none number 0 (length through) passed h;
      }

  pub written : {fixed' : List ℤ} {through' : List ℕ} → number ≡ 0 → fixed' ≡ sets blank 0 program → through' ≡ sets bare 0 passed →
      WritesRepaired number program passed fixed through fixed' through'
  written e p q =
      record {
        instructions = over_all number (pos 0) (length fixed) program e z p;
        passthrough = over_all number 0 (length through) passed e y q;
      }
