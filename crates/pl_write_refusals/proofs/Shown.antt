-- What is written as a property list, read off the 32 bits that the code computes with.
-- Assumes nothing.
use mathlib.Core.Path.{◌≡◌, refl, ap, sym, ◌∙◌}
use mathlib.Core.Bool.{Bool, true, false, not}
use mathlib.Core.List.{List}
use mathlib.Core.Logic.{◌⊎◌, inl, inr}
use Prim.Native.Nat.{ℕ, suc, ◌+◌, ◌-◌, ◌/◌, ◌^◌, ◌<◌, ◌≤◌}
use native.Mathlib.Omega.{arith}
use lib.IntN.{ℤ, pos}
use lib.Dec.{leb, ltb, eqb}
use lib.ListN.{length, get_or}
use mir.Syntax.{w32}
use mir.Val.{of_z, to_z, SFits}
use mir.ValLaws.{to_z-of_z}
use borrow.Author.Tests.{lt-leb, le-leb, lt-ltb, le-ltb, eq-eqb, ne_eqb}
use Rattle.words.specs.Words.{Word, word_of, number_of}
use Rattle.words.proofs.Bits.{number_pos, number_neg, number_is, word_number}
use Rattle.words.proofs.Tests.{less_or_not}
use Rattle.lang.specs.Every.{both}
use Rattle.lang.specs.Operations.{is_standard}
use Rattle.lang.specs.Records.{count, field}
use Rattle.lang.specs.Checks.{entry_at, absent_refusal}
use Rattle.lang.proofs.Records.{tested, word_passed}
use Rattle.property_lists.specs.Displays.{has_text, next_shown, operand_shown, instruction_shown, left_shown, shows_all, lent_fault}

-- ---- the left entry

pub left_absent : (n w : ℕ) → 2147483648 ≤ w → true ≡ left_shown n (number_of w)
left_absent n w h = rw (number_neg w h)

pub left_there : (n w : ℕ) → w < 2147483648 → ltb w n ≡ left_shown n (number_of w)
left_there n w h = rw (number_pos w h)

-- ---- next

module _ (n i w : ℕ) where
  pub next_absent : 2147483648 ≤ w → true ≡ next_shown n i (number_of w)
  next_absent h = rw (number_neg w h)

  pub next_far : w < 2147483648 → 127 < w → false ≡ next_shown n i (number_of w)
  next_far h l = rw (number_pos w h, lt-leb w 127 l)

  pub next_there : i < n → w ≤ 127 → ltb w (n - i - 1) ≡ next_shown n i (number_of w)
  next_there h l = rw (number_pos w (omega arith), le-leb w 127 l) (by (less_or_not w (n - i - 1)))
    where
      by : (w < n - i - 1) ⊎ (n - i - 1 ≤ w) → ltb w (n - i - 1) ≡ ltb (i + 1 + w) n
      by (inl k) = lt-ltb w (n - i - 1) k ∙ sym (lt-ltb (i + 1 + w) n (omega arith))
      by (inr k) = le-ltb w (n - i - 1) k ∙ sym (le-ltb (i + 1 + w) n (omega arith))

-- ---- the operand

module _ (kerns kind w : ℕ) (f : w < 2 ^ 32) where
  pub operand_value : kind ≡ 0 → not (eqb w 2147483648) ≡ operand_shown kerns kind (number_of w)
  operand_value e = rw (e, word_number w f)

  pub operand_index : kind ≡ 1 → ltb w kerns ≡ operand_shown kerns kind (number_of w)
  operand_index e = rw (e, word_number w f)

  pub operand_op : kind ≡ 2 → {r : Bool} → r ≡ is_standard (w / 256) → r ≡ operand_shown kerns kind (number_of w)
  operand_op e g = rw (e, word_number w f) g

  pub operand_none : (kind ≡ 0 → ⊥) → (kind ≡ 1 → ⊥) → (kind ≡ 2 → ⊥) → false ≡ operand_shown kerns kind (number_of w)
  operand_none a b c = rw (ne_eqb kind 0 a, ne_eqb kind 1 b, ne_eqb kind 2 c)

-- ---- an instruction

module _ (s : List ℤ) (kerns i : ℕ) {w : ℕ} {r : Bool} (q : Word (field s i 0) w) (e : r ≡ next_shown (count s) i (number_of w)) where
  pub instruction_not : r ≡ false → false ≡ instruction_shown s kerns i
  instruction_not h =
      let n : next_shown (count s) i (field s i 0) ≡ false = tested (next_shown (count s) i) q e h in
      ap (λ (t : Bool). both t (operand_shown kerns (word_of (field s i 2)) (field s i 3))) (sym n)

  pub instruction_rest : r ≡ true → {k o : ℕ} {t : Bool} → Word (field s i 2) k → Word (field s i 3) o → t ≡ operand_shown kerns k (number_of o) →
      t ≡ instruction_shown s kerns i
  instruction_rest h {k} {o} {t} a b g =
      let n : next_shown (count s) i (field s i 0) ≡ true = tested (next_shown (count s) i) q e h in
      g ∙ (λ j. operand_shown kerns (a.is j) (number_is b j)) ∙ ap (λ (t : Bool). both t (operand_shown kerns (word_of (field s i 2)) (field s i 3))) (sym n)

-- ---- kerns and entries

pub no_text : {z : ℤ} {w : ℕ} → Word z w → w ≡ 2147483648 → has_text z ≡ false
no_text {z} q h = ap not (eq-eqb (word_of z) 2147483648 (sym q.is ∙ h))

pub some_text : {z : ℤ} {w : ℕ} → Word z w → (w ≡ 2147483648 → ⊥) → has_text z ≡ true
some_text {z} q h = ap not (ne_eqb (word_of z) 2147483648 (λ e. h (q.is ∙ e)))

pub entry_past : {z : ℤ} {w : ℕ} (n : ℕ) → Word z w → n ≤ w → ltb (word_of z) n ≡ false
entry_past {z} n q h = le-ltb (word_of z) n (rw q.is at h)

pub entry_there : {z : ℤ} {w : ℕ} (n : ℕ) → Word z w → w < n → ltb (word_of z) n ≡ true
entry_there {z} n q h = lt-ltb (word_of z) n (rw q.is at h)

-- ---- all of them: two tests, the second asked where the first passes

pub both_not : {a t : Bool} (b : Bool) → t ≡ a → t ≡ false → false ≡ both a b
both_not b e h = ap (λ (x : Bool). both x b) (sym h ∙ e)

pub both_rest : {a b t r : Bool} → t ≡ a → t ≡ true → r ≡ b → r ≡ both a b
both_rest {a} {b} e h g = g ∙ ap (λ (x : Bool). both x b) (sym h ∙ e)

-- ---- a number that was passed on

pub absent_passed : (n : ℕ) {z : ℤ} {r : ℕ} → SFits w32 z → r ≡ absent_refusal n (to_z w32 (of_z w32 z)) → r ≡ absent_refusal n z
absent_passed n {z} f e = e ∙ ap (absent_refusal n) (to_z-of_z w32 z f)

pub left_passed : (n : ℕ) {z : ℤ} {w : ℕ} {r : Bool} → SFits w32 z → w ≡ word_of (to_z w32 (of_z w32 z)) → r ≡ left_shown n (number_of w) → r ≡ left_shown n z
left_passed n f e g = g ∙ ap (left_shown n) (number_is (word_passed f e))

pub lent_passed : (kerns es : List ℤ) {b l : ℤ} {r : ℕ} → SFits w32 b → SFits w32 l →
    r ≡ lent_fault kerns es (to_z w32 (of_z w32 b)) (to_z w32 (of_z w32 l)) → r ≡ lent_fault kerns es b l
lent_passed kerns es {b} {l} f g e = e ∙ (λ i. lent_fault kerns es (to_z-of_z w32 b f i) (to_z-of_z w32 l g i))

pub shows_passed : (s kerns es : List ℤ) {l : ℤ} {r : Bool} → SFits w32 l → r ≡ shows_all s kerns es (to_z w32 (of_z w32 l)) → r ≡ shows_all s kerns es l
shows_passed s kerns es {l} f e = e ∙ ap (shows_all s kerns es) (to_z-of_z w32 l f)
