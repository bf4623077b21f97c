-- Step i of the repaired program, lent again: with a replacement that exists none of its tests holds; with one that does not, those of characters come back.
-- Assumes nothing.
use mathlib.Core.Path.{◌≡◌, refl, sym, ap, ◌∙◌, subst}
use mathlib.Core.Bool.{Bool, true, false, cond, not}
use mathlib.Core.List.{List}
use Prim.Native.Nat.{ℕ, ◌+◌, ◌*◌, ◌/◌, ◌%◌, ◌<◌}
use native.Mathlib.Omega.{arith}
use lib.IntN.{ℤ, pos, negsuc}
use lib.Dec.{leb, eqb}
use lib.ListN.{length}
use lib.Signed.{non_neg}
use borrow.Author.Tests.{eqb-true}
use Rattle.words.specs.Words.{word_of}
use Rattle.lang.specs.Every.{both}
use Rattle.lang.specs.Operations.{is_standard}
use Rattle.lang.specs.Records.{count, field}
use Rattle.lang.specs.Checks.{program_refusal}
use Rattle.lang.proofs.Every.{both_left, both_false}
use Rattle.repairs.specs.Damaged.{Damaged, program_of}
use Rattle.repairs.specs.Repaired.{exists, is_reachable, skip_goes, repaired_next, is_redirect, is_ligature, is_boundary, right_goes, repaired_right, kern_goes}
use Rattle.repairs.specs.Repaired.{op_byte_at, inserted_by, product_goes, tag_goes, repaired_kind, repaired_operand, repaired_instructions}
use Rattle.repairs.specs.Purpose.{again}
use Rattle.repairs.proofs.Steps.{same_count, field_repaired}
use Rattle.repairs.proofs.SameReach.{same_kind, same_redirect, same_reachable}

-- a kern index that is within the list stays so, and a kern of zero is none
kern_by_lem : (k m : ℕ) (y a z : ℤ) (t : Bool) → k ≡ word_of y → both (eqb k 1) (leb m (word_of z)) ≡ t →
    both (eqb (word_of (cond t (pos 0) y)) 1) (leb m (word_of (cond (eqb k 2) a (cond t (pos 0) z)))) ≡ false
kern_by_lem k m y a z true e h = refl
kern_by_lem k m y a z false e h = ap (λ (n : ℕ). both (eqb n 1) (leb m (word_of (cond (eqb k 2) a z)))) (sym e) ∙ go (eqb k 1) refl
  where
    go : (t : Bool) → eqb k 1 ≡ t → both (eqb k 1) (leb m (word_of (cond (eqb k 2) a z))) ≡ false
    go true p =
        let q : k ≡ 1 = eqb-true k 1 p in
        subst (λ (n : ℕ). both (eqb n 1) (leb m (word_of (cond (eqb n 2) a z))) ≡ false) (sym q)
        (subst (λ (n : ℕ). both (eqb n 1) (leb m (word_of z)) ≡ false) q h)
    go false p = ap (λ (t : Bool). both t (leb m (word_of (cond (eqb k 2) a z)))) p

-- the program as it was lent is s, and repaired s'
module _ (d : Damaged) (i : ℕ) (within : i < count d.instructions) where
  abbrev s : List ℤ
  s = d.instructions

  abbrev s' : List ℤ
  s' = repaired_instructions d

  next_again : field s' i 0 ≡ repaired_next (program_of d) i
  next_again = field_repaired d i 0 within (omega arith)

  right_again : field s' i 1 ≡ repaired_right (program_of d) i
  right_again = field_repaired d i 1 within (omega arith)

  kind_again : field s' i 2 ≡ repaired_kind (program_of d) i
  kind_again = field_repaired d i 2 within (omega arith)

  operand_again : field s' i 3 ≡ repaired_operand (program_of d) i
  operand_again = field_repaired d i 3 within (omega arith)

  -- ---- skip and kern index

  pub skip_sound : program_refusal s ≡ 0 → skip_goes (program_of (again d)) i ≡ false
  skip_sound taken =
      ap (λ (r : Bool). both r (both (non_neg (field s' i 0)) (leb (count s') (i + 1 + word_of (field s' i 0))))) (same_reachable d taken i)
      ∙ ap (λ (n : ℕ). both (is_reachable (program_of d) i) (both (non_neg (field s' i 0)) (leb n (i + 1 + word_of (field s' i 0))))) (same_count d)
      ∙ ap (λ (z : ℤ). both (is_reachable (program_of d) i) (both (non_neg z) (leb (count s) (i + 1 + word_of z)))) next_again
      ∙ by (skip_goes (program_of d) i) refl
    where
      by : (t : Bool) → skip_goes (program_of d) i ≡ t →
          both (is_reachable (program_of d) i)
          (both (non_neg (cond t (negsuc 0) (field s i 0))) (leb (count s) (i + 1 + word_of (cond t (negsuc 0) (field s i 0))))) ≡ false
      by true e = both_false (is_reachable (program_of d) i)
      by false e = e

  pub kern_sound : kern_goes (program_of (again d)) i ≡ false
  kern_sound =
      ap (λ (y : ℤ). both (eqb (word_of y) 1) (leb (length d.kerns) (word_of (field s' i 3)))) kind_again
      ∙ ap (λ (z : ℤ). both (eqb (word_of (repaired_kind (program_of d) i)) 1) (leb (length d.kerns) (word_of z))) operand_again
      ∙ kern_by_lem (word_of (field s i 2)) (length d.kerns) (field s i 2) _ (field s i 3) (kern_goes (program_of d) i) refl refl

  -- ---- the right character

  -- the test, of the character that the step is for now
  asked : ℤ → Bool
  asked z = both (not (is_redirect (program_of d) i)) (both (not (exists (program_of d) (word_of z))) (not (is_boundary (program_of d) z)))

  right_asked : right_goes (program_of (again d)) i ≡ asked (cond (right_goes (program_of d) i) (pos d.replacement) (field s i 1))
  unfolding asked
  right_asked =
      ap (λ (r : Bool). both (not r) (both (not (exists (program_of d) (word_of (field s' i 1)))) (not (is_boundary (program_of d) (field s' i 1)))))
      (same_redirect d i)
      ∙ ap (λ (z : ℤ). both (not (is_redirect (program_of d) i)) (both (not (exists (program_of d) (word_of z))) (not (is_boundary (program_of d) z)))) right_again

  pub right_sound : exists (program_of d) d.replacement ≡ true → right_goes (program_of (again d)) i ≡ false
  unfolding asked
  right_sound exist = right_asked ∙ by (right_goes (program_of d) i) refl
    where
      by : (t : Bool) → right_goes (program_of d) i ≡ t → asked (cond t (pos d.replacement) (field s i 1)) ≡ false
      by true e =
          ap (λ (u : Bool). both (not (is_redirect (program_of d) i)) (both (not u) (not (is_boundary (program_of d) (pos d.replacement))))) exist
          ∙ both_false (not (is_redirect (program_of d) i))
      by false e = e

  pub right_back : exists (program_of d) d.replacement ≡ false →
      right_goes (program_of (again d)) i ≡ both (right_goes (program_of d) i) (not (is_boundary (program_of d) (pos d.replacement)))
  unfolding asked
  right_back none = right_asked ∙ by (right_goes (program_of d) i) refl
    where
      by : (t : Bool) → right_goes (program_of d) i ≡ t →
          asked (cond t (pos d.replacement) (field s i 1)) ≡ both t (not (is_boundary (program_of d) (pos d.replacement)))
      by true e =
          ap (λ (u : Bool). both u (both (not (exists (program_of d) d.replacement)) (not (is_boundary (program_of d) (pos d.replacement)))))
          (both_left (not (is_redirect (program_of d) i)) _ e)
          ∙ ap (λ (u : Bool). both (not u) (not (is_boundary (program_of d) (pos d.replacement)))) none
      by false e = e

  -- ---- a ligature's two bytes

  abbrev byte : ℕ
  byte = cond (tag_goes (program_of d) i) 0 (op_byte_at (program_of d) i)

  abbrev inserted : ℕ
  inserted = cond (product_goes (program_of d) i) d.replacement (inserted_by (program_of d) i)

  same_ligature : is_ligature (program_of (again d)) i ≡ is_ligature (program_of d) i
  same_ligature = same_kind d 2 i (λ e. omega (arith, e)) (λ e. omega (arith, e))

  -- a test of the number that they make
  ligature_by : (f : ℕ → Bool) (t : Bool) (n : ℕ) (z : ℤ) → both t (f (word_of (cond t (pos n) z))) ≡ both t (f n)
  ligature_by f true n z = refl
  ligature_by f false n z = refl

  ligature_again : (f : ℕ → Bool) →
      both (is_ligature (program_of (again d)) i) (f (word_of (field s' i 3))) ≡ both (is_ligature (program_of d) i) (f (256 * byte + inserted))
  ligature_again f =
      ap (λ (t : Bool). both t (f (word_of (field s' i 3)))) same_ligature
      ∙ ap (λ (z : ℤ). both (is_ligature (program_of d) i) (f (word_of z))) operand_again
      ∙ ligature_by f (is_ligature (program_of d) i) (256 * byte + inserted) (cond (kern_goes (program_of d) i) (pos 0) (field s i 3))

  module _ (small : d.replacement < 256) where
    inserted-small : (t : Bool) → cond t d.replacement (inserted_by (program_of d) i) < 256
    inserted-small true = small
    inserted-small false = omega arith

    product-again : product_goes (program_of (again d)) i ≡ both (is_ligature (program_of d) i) (not (exists (program_of d) inserted))
    product-again =
        let e : (256 * byte + inserted) % 256 ≡ inserted = omega (arith, inserted-small (product_goes (program_of d) i)) in
        ligature_again (λ (w : ℕ). not (exists (program_of d) (w % 256)))
        ∙ ap (λ (c : ℕ). both (is_ligature (program_of d) i) (not (exists (program_of d) c))) e

    pub product_sound : exists (program_of d) d.replacement ≡ true → product_goes (program_of (again d)) i ≡ false
    product_sound exist = product-again ∙ by (product_goes (program_of d) i) refl
      where
        by : (t : Bool) → product_goes (program_of d) i ≡ t →
            both (is_ligature (program_of d) i) (not (exists (program_of d) (cond t d.replacement (inserted_by (program_of d) i)))) ≡ false
        by true e = ap (λ (u : Bool). both (is_ligature (program_of d) i) (not u)) exist ∙ both_false (is_ligature (program_of d) i)
        by false e = e

    pub product_back : exists (program_of d) d.replacement ≡ false → product_goes (program_of (again d)) i ≡ product_goes (program_of d) i
    product_back none = product-again ∙ by (product_goes (program_of d) i) refl
      where
        by : (t : Bool) → product_goes (program_of d) i ≡ t →
            both (is_ligature (program_of d) i) (not (exists (program_of d) (cond t d.replacement (inserted_by (program_of d) i)))) ≡ product_goes (program_of d) i
        by true e =
            ap (λ (u : Bool). both (is_ligature (program_of d) i) (not u)) none
            ∙ ap (λ (u : Bool). both u true) (both_left (is_ligature (program_of d) i) _ e) ∙ sym e
        by false e = refl

    pub tag_sound : tag_goes (program_of (again d)) i ≡ false
    tag_sound =
        let e : (256 * byte + inserted) / 256 ≡ byte = omega (arith, inserted-small (product_goes (program_of d) i)) in
        ligature_again (λ (w : ℕ). not (is_standard (w / 256)))
        ∙ ap (λ (b : ℕ). both (is_ligature (program_of d) i) (not (is_standard b))) e ∙ by (tag_goes (program_of d) i) refl
      where
        by : (t : Bool) → tag_goes (program_of d) i ≡ t → both (is_ligature (program_of d) i) (not (is_standard (cond t 0 (op_byte_at (program_of d) i)))) ≡ false
        by true e = both_false (is_ligature (program_of d) i)
        by false e = e
