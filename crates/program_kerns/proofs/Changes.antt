-- Laws of a program in which some instructions have another kind and another operand.
-- Assumes nothing.
use mathlib.Core.Path.{◌≡◌, refl, sym, ◌∙◌}
use mathlib.Core.Bool.{Bool, true, false}
use mathlib.Core.List.{List}
use Prim.Native.Nat.{ℕ, ◌/◌, ◌%◌, ◌^◌, ◌<◌}
use lib.IntN.{ℤ, pos}
use lib.ListN.{get_or}
use borrow.Author.Tests.{eq-eqb, ne_eqb}
use Rattle.words.specs.Words.{Word, word_of}
use Rattle.lang.specs.Records.{field, is_kind}
use Rattle.program_kerns.specs.Kerns.{changed}

-- ---- the kind of an instruction that was read

pub kind_is : (k : ℕ) (s : List ℤ) (i : ℕ) {w : ℕ} → Word (field s i 2) w → w ≡ k → is_kind k s i ≡ true
kind_is k s i h e = eq-eqb (word_of (field s i 2)) k (sym h.is ∙ e)

pub kind_not : (k : ℕ) (s : List ℤ) (i : ℕ) {w : ℕ} → Word (field s i 2) w → (w ≡ k → ⊥) → is_kind k s i ≡ false
kind_not k s i h n = ne_eqb (word_of (field s i 2)) k (λ e. n (h.is ∙ e))

-- ---- a number of a changed program, as its word

pub small_word : (n : ℕ) → n < 2 ^ 31 → Word (pos n) n
small_word n h = record { is = refl; fits = record { sfits = h } }

module _ (s : List ℤ) (test : ℕ → Bool) (kind : ℤ) (operand : ℕ → ℤ) (j : ℕ) {w : ℕ} where
  pub word_not : test (j / 4) ≡ false → Word (get_or s j (pos 0)) w → Word (changed s test kind operand j) w
  word_not t h = rw t h

  pub word_kind : test (j / 4) ≡ true → j % 4 ≡ 2 → Word kind w → Word (changed s test kind operand j) w
  word_kind t e h = rw (t, e) h

  pub word_operand : test (j / 4) ≡ true → j % 4 ≡ 3 → Word (operand (j / 4)) w → Word (changed s test kind operand j) w
  word_operand t e h = rw (t, e) h

  pub word_other : test (j / 4) ≡ true → (j % 4 ≡ 2 → ⊥) → (j % 4 ≡ 3 → ⊥) → Word (get_or s j (pos 0)) w → Word (changed s test kind operand j) w
  word_other t a b h = rw (t, ne_eqb (j % 4) 2 a, ne_eqb (j % 4) 3 b) h
