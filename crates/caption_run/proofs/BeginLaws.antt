-- The letters of a word, or-ed together and one by one; the override by its bits; a fresh run, by the tests of the code and by its refusal.
-- Assumes nothing.
use mathlib.Core.Path.{◌≡◌, refl, sym, ap}
use mathlib.Core.Bool.{Bool, true, false}
use mathlib.Core.List.{List, [], ◌∷◌}
use mathlib.Core.Logic.{◌⊎◌, inl, inr}
use Prim.Native.Nat.{ℕ, zero, suc, ◌+◌, ◌<◌, ◌≤◌}
use native.Mathlib.Nat.{eq-or-lt_of_le, le_of_suc-le-suc}
use native.Mathlib.Numerals.{add-one}
use native.Mathlib.Omega.{arith}
use lib.Bits.{bit_or, and_le_l, and_le_r, or_add_and}
use lib.IntN.{ℤ}
use lib.Dec.{eqb}
use lib.ListN.{length, get_or}
use borrow.Author.Tests.{le-leb}
use Rattle.words.specs.Words.{Word}
use Rattle.words.proofs.Bits.{number_is, read_lt, read_pos, read_neg}
use Rattle.lang.specs.Every.{every}
use Rattle.lang.specs.Checks.{unless, absent_refusal, is_letter}
use Rattle.lang.proofs.Every.{every_all, every_to, every_fails}
use Rattle.lang.proofs.Records.{absent_past}
use Rattle.lang.proofs.Checks.{letter_low}
use Rattle.lang.specs.Answers.{reply_of}
use Rattle.captions.specs.declared.RunOptions.{RunOptions}
use Rattle.captions.specs.declared.NextLeft.TheVariants as next
use Rattle.captions.specs.declared.State.{State}
use Rattle.captions.specs.declared.Begun.TheVariants.{Run, Refused}
use Rattle.captions.specs.Replies.{state_numbers, begun_reply}
use Rattle.captions.specs.Begin.{fresh, fresh_state, letters_refusal, override_refusal}

-- ---- the letters

module _ (word : List ℕ) where
  -- one letter more or-ed to those before it: none of them is greater
  pub letters_more : (i all : ℕ) → ((j : ℕ) → j < i → get_or word j 0 ≤ all) → (j : ℕ) → j < i + 1 → get_or word j 0 ≤ bit_or all (get_or word i 0)
  letters_more i all h j l = go (eq-or-lt_of_le (le_of_suc-le-suc (rw add-one at l)))
    where
      go : (j ≡ i) ⊎ (j < i) → get_or word j 0 ≤ bit_or all (get_or word i 0)
      go (inl e) = rw e (omega (arith, or_add_and all (get_or word i 0), and_le_l all (get_or word i 0)))
      go (inr k) = omega (arith, h j k, or_add_and all (get_or word i 0), and_le_r all (get_or word i 0))

  -- the end of the word: each letter is below 32,768
  pub letters_low : (i all : ℕ) → ((j : ℕ) → j < i → get_or word j 0 ≤ all) → length word ≤ i → all ≤ 32767 → 0 ≡ letters_refusal word
  letters_low i all h l a =
      sym (ap (unless 20)
      (every_all (length word) (λ j. is_letter (get_or word j 0)) (λ j k. letter_low (get_or word j 0) (omega (arith, h j (omega arith))))))

  -- letter by letter: the end of the word, and one that is none
  pub letters_each : (i : ℕ) → every i (λ j. is_letter (get_or word j 0)) ≡ true → i ≤ length word → length word ≤ i → 0 ≡ letters_refusal word
  letters_each i e h l = rw (every_to (length word) i (λ j. is_letter (get_or word j 0)) e h l)

  pub letters_fail : (i : ℕ) → i < length word → is_letter (get_or word i 0) ≡ false → 20 ≡ letters_refusal word
  letters_fail i h e = rw (every_fails (length word) i (λ j. is_letter (get_or word j 0)) h e)

-- ---- the override, by its bits

pub low_within : {z : ℤ} {w : ℕ} → Word z w → w ≤ 2147483647 → 0 ≡ absent_refusal 2147483647 z
low_within {w = w} r h = rw (read_pos r (omega arith), le-leb w 2147483647 h)

pub low_past : {z : ℤ} {w : ℕ} (t : Bool) → Word z w → 2147483647 < w → eqb w 4294967295 ≡ t → unless 4 t ≡ absent_refusal 2147483647 z
low_past {w = w} t r h e = rw (← number_is r, absent_past 2147483647 w h (read_lt r), e)

pub over_none : {z : ℤ} {w : ℕ} → Word z w → 2147483648 ≤ w → 0 ≡ override_refusal z
over_none r h = rw (read_neg r h)

pub over_letter : {z : ℤ} {w : ℕ} (t : Bool) → Word z w → w < 2147483648 → is_letter w ≡ t → unless 20 t ≡ override_refusal z
over_letter t r h e = rw (read_pos r h, e)

-- ---- a fresh run

pub fresh_boundary : (word : List ℕ) (options : RunOptions) → options.disable_left_boundary ≡ false → fresh next.Boundary 0 ≡ fresh_state word options
fresh_boundary word options e = rw e

pub fresh_empty : (word : List ℕ) (options : RunOptions) → options.disable_left_boundary ≡ true → length word ≡ 0 →
    fresh next.None 0 ≡ fresh_state word options
fresh_empty [] options e h = rw e
fresh_empty (c ∷ cs) options e h = absurd (omega arith)

pub fresh_letter : (word : List ℕ) (options : RunOptions) → options.disable_left_boundary ≡ true → (length word ≡ 0 → ⊥) →
    fresh (next.Char (get_or word 0 0)) 1 ≡ fresh_state word options
fresh_letter [] options e h = absurd (h refl)
fresh_letter (c ∷ cs) options e h = rw e

module _ (n r : ℕ) (e : n ≡ r) where
  pub begun_refused : (s : State) → (n ≡ 0 → ⊥) → begun_reply (Refused n) ≡ reply_of r (state_numbers s)
  begun_refused s h = rw (← e) (by n h)
    where
      by : (m : ℕ) → (m ≡ 0 → ⊥) → begun_reply (Refused m) ≡ reply_of m (state_numbers s)
      by zero z = absurd (z refl)
      by (suc m) z = refl

  pub begun_run : {s t : State} → n ≡ 0 → s ≡ t → begun_reply (Run s) ≡ reply_of r (state_numbers t)
  begun_run z q = rw (← e, z, q)
