-- The entries of labels, one character more.
-- Assumes nothing.
use mathlib.Core.Path.{◌≡◌, refl, sym, ap, ◌∙◌}
use mathlib.Core.Bool.{Bool, true, false, cond}
use mathlib.Core.List.{List, [], ◌∷◌, ◌++◌}
use Prim.Native.Nat.{ℕ, zero, suc, ◌+◌, ◌*◌, ◌≤◌}
use native.Mathlib.Numerals.{add-one}
use native.Mathlib.Omega.{arith}
use lib.IntN.{ℤ, pos}
use lib.ListN.{length, get_or, set, length-append}
use Rattle.property_lists.specs.ListReading.{has_label, label_entries}
use Rattle.pl_apply.specs.Standing.{overlay}

two_more : (xs d : List ℤ) (a b : ℤ) → overlay (xs ++ (a ∷ b ∷ [])) d ≡ set (set (overlay xs d) (length xs) a) (length xs + 1) b
unfolding overlay
two_more [] [] a b = refl
two_more [] (y ∷ []) a b = refl
two_more [] (y ∷ y₁ ∷ d) a b = refl
two_more (x ∷ xs) [] a b = refl
two_more (x ∷ xs) (y ∷ d) a b =
    let s : suc (length xs) + 1 ≡ suc (length xs + 1) = omega arith in
    rw s (ap (λ (k : List ℤ). x ∷ k) (two_more xs d a b))

module _ (labels d : List ℤ) (c n : ℕ) {e : List ℤ} (at : e ≡ overlay (label_entries labels c) d) (count : n ≡ length (label_entries labels c)) where
  pub entry_more : (test : Bool) → has_label c labels ≡ test → {e' : List ℤ} {m : ℕ} →
      e' ≡ cond test (set (set e n (pos c)) (n + 1) (get_or labels c (pos 0))) e → m ≡ cond test (n + 2) n →
      (e' ≡ overlay (label_entries labels (c + 1)) d) × (m ≡ length (label_entries labels (c + 1)))
  unfolding label_entries
  entry_more true t p q =
      let xs = label_entries labels c in
      let a = get_or labels c (pos 0) in (
        p ∙ rw (at, count, add-one c, t) (sym (two_more xs d (pos c) a)),
        q ∙ rw (count, add-one c, t) (sym (length-append xs (pos c ∷ a ∷ []))),
      )
  entry_more false t p q =
      let xs = label_entries labels c in
      let o = append_none xs in
      (p ∙ rw (at, add-one c, t, o), q ∙ rw (count, add-one c, t, o))
    where
      append_none : (xs : List ℤ) → xs ++ [] ≡ xs
      append_none [] = refl
      append_none (x ∷ xs) = ap (λ (k : List ℤ). x ∷ k) (append_none xs)

-- two numbers each
pub entries_few : (labels : List ℤ) (c : ℕ) → length (label_entries labels c) ≤ 2 * c
unfolding label_entries
entries_few labels zero = omega arith
entries_few labels (suc c) = by (has_label c labels) (entries_few labels c)
  where
    by : (t : Bool) → length (label_entries labels c) ≤ 2 * c → length (label_entries labels c ++ cond t (pos c ∷ get_or labels c (pos 0) ∷ []) []) ≤ 2 * suc c
    by true h = omega (arith, length-append (label_entries labels c) (pos c ∷ get_or labels c (pos 0) ∷ []))
    by false h = omega (arith, length-append (label_entries labels c) [])
