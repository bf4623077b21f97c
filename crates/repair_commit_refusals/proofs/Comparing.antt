-- Two lists compared by their words, and the warnings handed over beside those that were found.
-- Assumes nothing.
use mathlib.Core.Path.{◌≡◌, refl, sym, ap, ◌∙◌}
use mathlib.Core.Bool.{Bool, true, false}
use mathlib.Core.List.{List}
use Prim.Native.Nat.{ℕ, ◌*◌, ◌/◌, ◌%◌, ◌<◌, ◌≤◌}
use native.Mathlib.Omega.{arith}
use lib.IntN.{ℤ, pos}
use lib.Dec.{eqb}
use lib.ListN.{length, get_or, drop, get_or-append}
use lib.Seq.{sets}
use borrow.Author.Tests.{eq-eqb, ne_eqb, eqb-true}
use Rattle.words.specs.Words.{word_of, number_of, Word}
use Rattle.words.proofs.Bits.{number_is}
use Rattle.words.proofs.Lists.{sets_front}
use Rattle.lang.specs.Every.{both}
use Rattle.lang.specs.Checks.{unless}
use Rattle.lang.proofs.Every.{every_ext}
use Rattle.repairs.specs.Committing.{same_number, starts_with, same_numbers}
use Rattle.repairs.proofs.Committing.{equal_same, differ_same}
use Rattle.repair_commit_refusals.specs.Numbers.{differ_refusal}

-- ---- numbers by their words

module _ {x y : ℤ} {a b : ℕ} (p : Word x a) (q : Word y b) where
  pub same_word : a ≡ b → same_number x y ≡ true
  same_word e = equal_same x y (sym (number_is p) ∙ ap number_of e ∙ number_is q)

  pub other_word : (a ≡ b → ⊥) → same_number x y ≡ false
  other_word h = differ_same x y (λ e. h (p.is ∙ ap word_of e ∙ sym q.is))

-- ---- 25, by the tests

module _ (handed found : List ℤ) (n : ℕ) where
  other_length : (length handed ≡ 4 * n → ⊥) → 25 ≡ differ_refusal handed found n
  other_length h = sym (ap (λ (t : Bool). unless 25 (both t (starts_with found handed))) (ne_eqb (length handed) (4 * n) h))

  pub not_fours : (length handed % 4 ≡ 0 → ⊥) → 25 ≡ differ_refusal handed found n
  not_fours h = other_length (λ e. h (omega (arith, e)))

  pub other_count : (length handed / 4 ≡ n → ⊥) → 25 ≡ differ_refusal handed found n
  other_count h = other_length (λ e. h (omega (arith, e)))

  pub by_numbers : length handed % 4 ≡ 0 → length handed / 4 ≡ n → (t : Bool) → starts_with found handed ≡ t → unless 25 t ≡ differ_refusal handed found n
  by_numbers f c t e =
      let l : length handed ≡ 4 * n = omega (arith, f, c) in
      sym (ap (λ (s : Bool). unless 25 (both s (starts_with found handed))) (eq-eqb (length handed) (4 * n) l) ∙ ap (unless 25) e)

-- ---- beside the warnings, of which as many were found as there was room for

both_ext : (a x y : Bool) → (a ≡ true → x ≡ y) → both a x ≡ both a y
both_ext true x y f = f refl
both_ext false x y f = refl

module _ (ws blank handed : List ℤ) (n : ℕ) (all : 4 * n ≡ length ws) (fits : length handed ≤ length blank) where
  found_at : length handed ≡ length ws → (i : ℕ) → i < length handed → get_or ws i (pos 0) ≡ get_or (sets blank 0 ws) i (pos 0)
  found_at l i h =
      sym (ap (λ (x : List ℤ). get_or x i (pos 0)) (sets_front ws blank (omega (arith, l, fits)))
      ∙ get_or-append ws (drop (length ws) blank) (pos 0) i (omega (arith, l, h)))

  same_start : eqb (length handed) (length ws) ≡ true → starts_with (sets blank 0 ws) handed ≡ starts_with ws handed
  same_start e =
      every_ext (length handed) (λ i. same_number (get_or handed i (pos 0)) (get_or (sets blank 0 ws) i (pos 0)))
      (λ i. same_number (get_or handed i (pos 0)) (get_or ws i (pos 0)))
      (λ i h. ap (same_number (get_or handed i (pos 0))) (sym (found_at (eqb-true _ _ e) i h)))

  pub beside_warnings : differ_refusal handed (sets blank 0 ws) n ≡ unless 25 (same_numbers handed ws)
  beside_warnings =
      ap (λ (k : ℕ). unless 25 (both (eqb (length handed) k) (starts_with (sets blank 0 ws) handed))) all
      ∙ ap (unless 25) (both_ext (eqb (length handed) (length ws)) _ _ same_start)
