-- Laws of a step's numbers, by their 32 bits: one that is picked, a ligature's operand, four stores in a row, and those of the steps so far.
-- Assumes nothing.
use mathlib.Core.Path.{◌≡◌, refl, sym, ap, ◌∙◌}
use mathlib.Core.Bool.{Bool, true, false, cond, not}
use mathlib.Core.List.{List}
use Prim.Native.Nat.{ℕ, ◌+◌, ◌*◌, ◌/◌, ◌%◌, ◌<◌, ◌≤◌}
use native.Mathlib.Numerals.{add-one}
use native.Mathlib.Omega.{arith}
use lib.IntN.{ℤ, pos}
use lib.Dec.{eqb}
use lib.ListN.{length}
use lib.Seq.{sets}
use borrow.Author.Tests.{leb-true, eq-eqb, ne_eqb}
use Rattle.words.specs.Words.{Word, word_of, number_of}
use Rattle.words.proofs.Bits.{number_pos, number_is}
use Rattle.words.proofs.Lists.{sets_append}
use Rattle.lang.specs.Every.{both}
use Rattle.lang.specs.Operations.{advance, keeps_left, keeps_right, is_standard}
use Rattle.lang.specs.Records.{field, is_kind}
use Rattle.repairs.specs.declared.Faults.{Faults}
use Rattle.repairs.specs.Damaged.{DamagedProgram}
use Rattle.repairs.specs.Repaired.{is_ligature, kern_goes, op_byte_at, inserted_by, product_goes, tag_goes}
use Rattle.repairs.specs.Repaired.{repaired_operand, repaired_step, repaired_upto}
use Rattle.repairs.proofs.Steps.{length_upto}
use Rattle.repair_fixes.specs.StepFixes.{FaultsAt}

-- ---- one number

pub picked : (t : Bool) (a b : ℕ) {x y : ℤ} {r : ℕ} → number_of a ≡ x → number_of b ≡ y → r ≡ cond t a b → number_of r ≡ cond t x y
picked true a b e f g = ap number_of g ∙ e
picked false a b e f g = ap number_of g ∙ f

pub picked_most : (t : Bool) (a b m : ℕ) {r : ℕ} → r ≡ cond t a b → a ≤ m → b ≤ m → r ≤ m
picked_most true a b m e h l = rw e h
picked_most false a b m e h l = rw e l

-- ---- the operand

-- a standard op byte is 11 at most
standard_small : (o : ℕ) → is_standard o ≡ true → o ≤ 11
standard_small o t = let h = leb-true (advance o) (keeps_left o + keeps_right o) t in omega arith

-- an op byte that is not standard goes
tag_small : (t : Bool) (o : ℕ) {a : ℕ} → t ≡ not (is_standard o) → a ≡ cond t 0 o → a ≤ 11
tag_small true o e f = omega (arith, f)
tag_small false o {a} e f = let h = standard_small o (stays (is_standard o) e) in omega (arith, f)
  where
    stays : (b : Bool) → false ≡ not b → b ≡ true
    stays true e = refl
    stays false e = absurd (let z : ◌≡◌ {A = ℕ} 0 1 = cc in omega arith)

module _ {p : DamagedProgram} {s : List ℤ} {replacement : ℕ} {f : Faults} {i : ℕ} (g : FaultsAt p s replacement f i) where
  -- a number of the step, as it is read
  pub field_is : (k : ℕ) {w : ℕ} → Word (field s i k) w → number_of w ≡ field p.instructions i k
  field_is k ws = number_is ws ∙ ap (λ (l : List ℤ). field l i k) (sym g.instructions)

  -- the replacement
  pub new_is : replacement < 256 → number_of replacement ≡ pos p.replacement
  new_is h = number_pos replacement (omega arith) ∙ ap pos (sym g.replaced)

  module _ {kind operand : ℕ} (ks : kind ≡ word_of (field s i 2)) (os : Word (field s i 3) operand) where
    kind_is : (k : ℕ) → is_kind k p.instructions i ≡ eqb kind k
    kind_is k = ap (λ (l : List ℤ). is_kind k l i) g.instructions ∙ ap (λ (w : ℕ). eqb w k) (sym ks)

    operand_is : operand ≡ word_of (field p.instructions i 3)
    operand_is = os.is ∙ ap (λ (l : List ℤ). word_of (field l i 3)) (sym g.instructions)

    -- a ligature's two bytes
    abbrev two_bytes : ℤ
    two_bytes = pos (256 * cond (tag_goes p i) 0 (op_byte_at p i) + cond (product_goes p i) p.replacement (inserted_by p i))

    -- the number of any other step
    abbrev one_number : ℤ
    one_number = cond (kern_goes p i) (pos 0) (field p.instructions i 3)

    pub operand_other : (kind ≡ 2 → ⊥) → {r : ℕ} → r ≡ cond f.kern 0 operand → number_of r ≡ repaired_operand p i
    operand_other h e =
        picked f.kern 0 operand refl (field_is 3 os) e
        ∙ ap (λ (x : Faults). cond x.kern (pos 0) (field p.instructions i 3)) g.are
        ∙ ap (λ (t : Bool). cond t two_bytes one_number) (sym (kind_is 2 ∙ ne_eqb kind 2 h))

    pub operand_ligature : kind ≡ 2 → replacement < 256 → {a b : ℕ} → a ≡ cond f.tag 0 (operand / 256) →
        b ≡ cond f.product replacement (operand % 256) → number_of (256 * a + b) ≡ repaired_operand p i
    operand_ligature h l {a} {b} es bs =
        let is-so : is_ligature p i ≡ true = kind_is 2 ∙ eq-eqb kind 2 h in
        let a-is : a ≡ cond (tag_goes p i) 0 (op_byte_at p i) = es ∙ (λ j. cond (g.are j).tag 0 (operand_is j / 256)) in
        let b-is : b ≡ cond (product_goes p i) p.replacement (inserted_by p i) =
        bs ∙ (λ j. cond (g.are j).product (sym g.replaced j) (operand_is j % 256)) in
        let tag : tag_goes p i ≡ not (is_standard (op_byte_at p i)) = ap (λ (t : Bool). both t (not (is_standard (op_byte_at p i)))) is-so in
        let small-a = tag_small (tag_goes p i) (op_byte_at p i) tag a-is in
        let small_b = picked_most f.product replacement (operand % 256) 255 bs (omega arith) (omega arith) in
        number_pos (256 * a + b) (omega arith) ∙ (λ j. pos (256 * a-is j + b-is j)) ∙ ap (λ (t : Bool). cond t two_bytes one_number) (sym is-so)

-- ---- of the first k steps

module _ (p : DamagedProgram) where
  pub written_none : (l : List ℤ) → l ≡ sets l 0 (repaired_upto p 0)
  unfolding repaired_upto
  written_none l = refl

  pub written_more : (k : ℕ) (l l₁ l₂ : List ℤ) → l₁ ≡ sets l 0 (repaired_upto p k) → l₂ ≡ sets l₁ (4 * k) (repaired_step p k) →
      l₂ ≡ sets l 0 (repaired_upto p (k + 1))
  unfolding repaired_upto
  written_more k l l₁ l₂ e f =
      let n : 0 + length (repaired_upto p k) ≡ 4 * k = omega (arith, length_upto p k) in
      f
      ∙ ap (λ (l : List ℤ). sets l (4 * k) (repaired_step p k)) e
      ∙ ap (λ (j : ℕ). sets (sets l 0 (repaired_upto p k)) j (repaired_step p k)) (sym n)
      ∙ sym (sets_append (repaired_upto p k) (repaired_step p k) l 0)
      ∙ ap (λ (j : ℕ). sets l 0 (repaired_upto p j)) (sym (add-one k))
