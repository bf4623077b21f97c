-- Each instruction that is written, read again as its four numbers.
-- Assumes nothing.
use mathlib.Core.Path.{◌≡◌, refl, ap, sym, ◌∙◌, subst}
use mathlib.Core.Bool.{Bool, true, false, cond, not}
use mathlib.Core.List.{List, [], ◌∷◌, ◌++◌, append_assoc}
use mathlib.Core.Logic.{◌⊎◌, inl, inr}
use mathlib.Core.Option.{Option, none, some}
use Prim.Native.Nat.{ℕ, zero, suc, ◌+◌, ◌-◌, ◌*◌, ◌/◌, ◌%◌, ◌^◌, ◌<◌, ◌≤◌}
use native.Mathlib.Omega.{arith}
use lib.Dec.{leb, ltb, eqb}
use lib.IntN.{ℤ, pos, negsuc}
use lib.ListN.{length, get_or, set}
use lib.Seq.{set_at}
use mir.Syntax.{w32}
use mir.Val.{SFits}
use borrow.Author.Tests.{eq-eqb, ne_eqb, lt-ltb, ltb-true, leb-true}
use Rattle.words.specs.Words.{word_of, number_of}
use Rattle.words.specs.Lists.{tabulate}
use Rattle.words.proofs.Bits.{number_word}
use Rattle.words.proofs.Lists.{length_tabulate}
use Rattle.words.proofs.Tests.{same_or_not}
use Rattle.lang.specs.Every.{both, every}
use Rattle.lang.specs.Operations.{is_standard}
use Rattle.lang.specs.Records.{count, field, right_of, is_kind, within, absent_or, operand_fits, is_instruction}
use Rattle.lang.proofs.Every.{both_left, both_right, every_at}
use Rattle.program_kerns.specs.Kerns.{changed, kern_at}
use Rattle.property_lists.specs.declared.Property.{Property}
use Rattle.property_lists.specs.declared.Property.TheVariants as property
use Rattle.property_lists.specs.Displays.{next_line, step_line, lig_line, krn_line, kern_shown, op_byte_of, inserted_of, has_text, next_shown, operand_shown}
use Rattle.property_lists.specs.Displays.{instruction_shown, kerns_shown}
use Rattle.property_lists.specs.ListReading.{ListRead, reading_by, progress_by, stepped, applied}
use Rattle.pl_read_backs.proofs.Values.{bits_read, bits_number, size_of, has_size}
use Rattle.pl_read_backs.proofs.Texts.{LineOf, lig_line_lem, krn_line_lem}

-- a number of 0 to n is its own word
within_is : (n : ℕ) (z : ℤ) → within n z ≡ true → (z ≡ pos (word_of z)) × (word_of z ≤ n)
within_is n (pos m) e = (refl, leb-true m n e)
within_is n (negsuc m) e = absurd (let z : ◌≡◌ {A = ℕ} 0 1 = cc in omega arith)

-- an i32 by its word
by_word : (z : ℤ) (n : ℕ) → SFits w32 z → n < 2 ^ 31 → word_of z ≡ n → z ≡ number_of n
by_word z n f h e = sym (number_word z f) ∙ ap number_of e

-- ---- the numbers of a packed program

module _ (s kerns : List ℤ) where
  abbrev pub packed_at : ℕ → ℤ
  packed_at j = changed s (is_kind 1 s) (pos 0) (kern_at s kerns) j

  module _ (i k : ℕ) (h : k < 4) where
    packed_is : packed_at (4 * i + k) ≡
        cond (is_kind 1 s i) (cond (eqb k 2) (pos 0) (cond (eqb k 3) (kern_at s kerns i) (get_or s (4 * i + k) (pos 0)))) (get_or s (4 * i + k) (pos 0))
    packed_is =
        let a : (4 * i + k) / 4 ≡ i = omega arith in
        let b : (4 * i + k) % 4 ≡ k = omega arith in
        (λ j. cond (is_kind 1 s (a j)) (cond (eqb (b j) 2) (pos 0) (cond (eqb (b j) 3) (kern_at s kerns (a j)) (get_or s (4 * i + k) (pos 0)))) (get_or s
        (4 * i + k) (pos 0)))

-- ---- one instruction

module _ (s kerns : List ℤ) (i : ℕ) (there : i < count s) (fs : (j : ℕ) → SFits w32 (get_or s j (pos 0))) (fk : (j : ℕ) → SFits w32 (get_or kerns j (pos 0)))
    (ok : is_instruction s i ≡ true) (shown : instruction_shown s (length kerns) i ≡ true) (texts : kerns_shown kerns ≡ true) where
  field_is : (k : ℕ) → field s i k ≡ get_or s (4 * i + k) (pos 0)
  field_is k = rw (lt-ltb i (count s) there)

  field_fits : (k : ℕ) → SFits w32 (field s i k)
  field_fits k = rw (field_is k) (fs (4 * i + k))

  right_within : within 255 (field s i 1) ≡ true
  right_within =
      both_left (within 255 (field s i 1)) (operand_fits (word_of (field s i 2)) (field s i 3))
      (both_right (absent_or 255 (field s i 0)) (both (within 255 (field s i 1)) (operand_fits (word_of (field s i 2)) (field s i 3))) ok)

  operand_fits_lem : operand_fits (word_of (field s i 2)) (field s i 3) ≡ true
  operand_fits_lem =
      both_right (within 255 (field s i 1)) (operand_fits (word_of (field s i 2)) (field s i 3))
      (both_right (absent_or 255 (field s i 0)) (both (within 255 (field s i 1)) (operand_fits (word_of (field s i 2)) (field s i 3))) ok)

  pub right_small : right_of s i < 256
  right_small = omega arith

  pub right_read : pos (right_of s i % 256) ≡ packed_at s kerns (4 * i + 1)
  right_read =
      let w = within_is 255 (field s i 1) right_within in
      let e : right_of s i % 256 ≡ word_of (field s i 1) = omega (arith, w.1) in
      ap pos e ∙ sym w.0 ∙ field_is 1 ∙ sym (packed_is s kerns i 1 (omega arith) ∙ by (is_kind 1 s i))
    where
      by : (x : Bool) → cond x (get_or s (4 * i + 1) (pos 0)) (get_or s (4 * i + 1) (pos 0)) ≡ get_or s (4 * i + 1) (pos 0)
      by true = refl
      by false = refl

  pub next_kept : field s i 0 ≡ packed_at s kerns (4 * i + 0)
  next_kept = field_is 0 ∙ sym (packed_is s kerns i 0 (omega arith) ∙ by (is_kind 1 s i))
    where
      by : (x : Bool) → cond x (get_or s (4 * i + 0) (pos 0)) (get_or s (4 * i + 0) (pos 0)) ≡ get_or s (4 * i + 0) (pos 0)
      by true = refl
      by false = refl

  pub next_shown_lem : next_shown (count s) i (field s i 0) ≡ true
  next_shown_lem = both_left (next_shown (count s) i (field s i 0)) (operand_shown (length kerns) (word_of (field s i 2)) (field s i 3)) shown

  operand_shown_lem : operand_shown (length kerns) (word_of (field s i 2)) (field s i 3) ≡ true
  operand_shown_lem = both_right (next_shown (count s) i (field s i 0)) (operand_shown (length kerns) (word_of (field s i 2)) (field s i 3)) shown

  -- the step's line, and what it is read as
  pub record StepRead : Type 0 where
    pub step : Property
    pub line : LineOf (step_line s kerns i) step
    pub kind : ℕ
    pub operand : ℤ
    pub does : (r : ListRead) → applied step r ≡ stepped (right_of s i) kind operand r
    pub kind_is : pos kind ≡ packed_at s kerns (4 * i + 2)
    pub operand_is : operand ≡ packed_at s kerns (4 * i + 3)

  abbrev k : ℕ
  k = word_of (field s i 2)

  abbrev z : ℤ
  z = field s i 3

  -- a kern: by value or by index
  kern_step : (v : ℤ) → size_of v < 2147483648 → step_line s kerns i ≡ krn_line (right_of s i) v → pos 0 ≡ packed_at s kerns (4 * i + 2) →
      v ≡ packed_at s kerns (4 * i + 3) → StepRead
  unfolding applied
  kern_step v h l a b =
      record {
        step = property.Kern (right_of s i) (bits_read v);
        line = rw l (krn_line_lem (right_of s i) v right_small h);
        kind = 0;
        operand = v;
        does = λ r. ap (λ (x : ℤ). stepped (right_of s i) 0 x r) (bits_number v h);
        kind_is = a;
        operand_is = b;
      }

  value_step : k ≡ 0 → StepRead
  value_step e =
      let t : has_text (field s i 3) ≡ true = subst (λ (x : ℕ). operand_shown (length kerns) x (field s i 3) ≡ true) e operand_shown_lem in
      let n : is_kind 1 s i ≡ false = ne_eqb (word_of (field s i 2)) 1 (λ q. omega (arith, e, q)) in
      let m : is_kind 2 s i ≡ false = ne_eqb (word_of (field s i 2)) 2 (λ q. omega (arith, e, q)) in
      kern_step (field s i 3) (has_size (field s i 3) (field_fits 3) t) (rw (m, n))
      (sym (by_word (field s i 2) 0 (field_fits 2) (omega arith) e) ∙ field_is 2 ∙ sym (packed_is s kerns i 2 (omega arith) ∙ rw n))
      (field_is 3 ∙ sym (packed_is s kerns i 3 (omega arith) ∙ rw n))

  index_step : k ≡ 1 → StepRead
  index_step e =
      let t : ltb (word_of (field s i 3)) (length kerns) ≡ true =
      subst (λ (x : ℕ). operand_shown (length kerns) x (field s i 3) ≡ true) e operand_shown_lem in
      let n : is_kind 1 s i ≡ true = eq-eqb (word_of (field s i 2)) 1 e in
      let m : is_kind 2 s i ≡ false = ne_eqb (word_of (field s i 2)) 2 (λ q. omega (arith, e, q)) in
      let w = word_of (field s i 3) in
      let g : has_text (get_or kerns (word_of (field s i 3)) (pos 0)) ≡ true =
      every_at (length kerns) (word_of (field s i 3)) (λ j. has_text (get_or kerns j (pos 0))) texts (ltb-true (word_of (field s i 3)) (length kerns) t) in
      kern_step (get_or kerns (word_of (field s i 3)) (pos 0)) (has_size (get_or kerns (word_of (field s i 3)) (pos 0)) (fk (word_of (field s i 3))) g) (rw (m, n))
      (sym (packed_is s kerns i 2 (omega arith) ∙ rw n)) (sym (packed_is s kerns i 3 (omega arith) ∙ rw n))

  lig_step : k ≡ 2 → StepRead
  unfolding applied
  lig_step e =
      let t : is_standard (word_of (field s i 3) / 256) ≡ true =
      subst (λ (x : ℕ). operand_shown (length kerns) x (field s i 3) ≡ true) e operand_shown_lem in
      let f : within 32767 (field s i 3) ≡ true = subst (λ (x : ℕ). operand_fits x (field s i 3) ≡ true) e operand_fits_lem in
      let w = within_is 32767 (field s i 3) f in
      let n : is_kind 1 s i ≡ false = ne_eqb (word_of (field s i 2)) 1 (λ q. omega (arith, e, q)) in
      let m : is_kind 2 s i ≡ true = eq-eqb (word_of (field s i 2)) 2 e in
      let op : word_of (field s i 3) / 256 < 128 = omega (arith, w.1) in
      let sum : 256 * (word_of (field s i 3) / 256 % 128) + word_of (field s i 3) % 256 % 256 ≡ word_of (field s i 3) = omega arith in
      record {
        step = property.Ligature (op_byte_of s i) (right_of s i) (inserted_of s i);
        line = rw m (lig_line_lem (op_byte_of s i) (right_of s i) (inserted_of s i) op t right_small (omega arith));
        kind = 2;
        operand = pos (256 * (op_byte_of s i % 128) + inserted_of s i % 256);
        does = λ r. refl;
        kind_is = sym (by_word (field s i 2) 2 (field_fits 2) (omega arith) e) ∙ field_is 2 ∙ sym (packed_is s kerns i 2 (omega arith) ∙ rw n);
        operand_is = ap pos sum ∙ sym w.0 ∙ field_is 3 ∙ sym (packed_is s kerns i 3 (omega arith) ∙ rw n);
      }

  pub step_read : StepRead
  step_read = by (same_or_not k 0) (same_or_not k 1) (same_or_not k 2)
    where
      by : (k ≡ 0) ⊎ (k ≡ 0 → ⊥) → (k ≡ 1) ⊎ (k ≡ 1 → ⊥) → (k ≡ 2) ⊎ (k ≡ 2 → ⊥) → StepRead
      by (inl e) b c = value_step e
      by (inr a) (inl e) c = index_step e
      by (inr a) (inr b) (inl e) = lig_step e
      by (inr a) (inr b) (inr c) =
          let q : operand_shown (length kerns) k z ≡ false = rw (ne_eqb k 0 a, ne_eqb k 1 b, ne_eqb k 2 c) in
          let o : ◌≡◌ {A = ℕ} 0 1 = ap (λ (x : Bool). cond x 1 0) (sym q ∙ operand_shown_lem) in
          absurd (omega arith)
