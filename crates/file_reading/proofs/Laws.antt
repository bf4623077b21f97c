-- Laws of the lists of a font: how many numbers they have, and one word more; stores in a row.
-- Assumes nothing.
use mathlib.Core.Path.{◌≡◌, refl, ◌∙◌}
use mathlib.Core.Bool.{true, false}
use mathlib.Core.List.{List, [], ◌∷◌}
use mathlib.Core.Logic.{◌⊎◌, inl, inr}
use Prim.Native.Nat.{ℕ, zero, suc, ◌+◌, ◌*◌, ◌<◌, ◌≤◌}
use native.Mathlib.Nat.{eq-or-lt_of_le}
use native.Mathlib.Numerals.{add-one}
use native.Mathlib.Omega.{arith}
use lib.IntN.{ℤ}
use lib.ListN.{length, set, length-append}
use lib.Seq.{sets}
use Rattle.words.specs.Lists.{Appending}
use Rattle.words.proofs.Lists.{appending_none, appending_more}
use Rattle.files.specs.Commands.{command_numbers, char_entry, is_lig_tagged}
use Rattle.files.specs.Reading.{commands_from, entries_from}

-- ---- the instructions

module _ (file : List ℕ) (w : ℕ) where
  pub length_commands : (n : ℕ) → length (commands_from file w n) ≡ 4 * n
  unfolding commands_from
  length_commands zero = refl
  length_commands (suc n) = length-append (commands_from file w n) (command_numbers file (w + n)) ∙ rw (length_commands n) (omega arith)

  pub commands_none : (d : List ℤ) → Appending (commands_from file w 0) d d
  unfolding commands_from
  commands_none d = appending_none d

  -- one more, by a store of its numbers
  pub commands_more : (n : ℕ) {d₀ d d' : List ℤ} → Appending (commands_from file w n) d₀ d → 4 * n + 4 ≤ length d →
      d' ≡ sets d (4 * n) (command_numbers file (w + n)) → Appending (commands_from file w (n + 1)) d₀ d'
  unfolding commands_from
  commands_more n {d₀} h l e =
      rw (add-one, e, ← length_commands n) (appending_more d₀ (command_numbers file (w + n)) h (omega (arith, length_commands n)))

-- ---- the entries

module _ (file : List ℕ) (c w : ℕ) where
  pub entries_none : (d : List ℤ) → Appending (entries_from file c w 0) d d
  unfolding entries_from
  entries_none d = appending_none d

  pub length_entries_none : length (entries_from file c w 0) ≡ 0
  unfolding entries_from
  length_entries_none = refl

  pub length_entries_more : (n : ℕ) → length (entries_from file c w (n + 1)) ≡ length (entries_from file c w n) + length (char_entry file (c + n) (w + n))
  unfolding entries_from
  length_entries_more n = rw add-one (length-append (entries_from file c w n) (char_entry file (c + n) (w + n)))

  -- as many as there are, by the test of the word
  pub count_tagged : (n m : ℕ) → length (entries_from file c w n) ≡ 2 * m → is_lig_tagged file (w + n) ≡ true →
      length (entries_from file c w (n + 1)) ≡ 2 * (m + 1)
  count_tagged n m e t = length_entries_more n ∙ rw (e, t) (omega arith)

  pub count_untagged : (n m : ℕ) → length (entries_from file c w n) ≡ 2 * m → is_lig_tagged file (w + n) ≡ false →
      length (entries_from file c w (n + 1)) ≡ 2 * m
  count_untagged n m e t = length_entries_more n ∙ rw (e, t) (omega arith)

  -- fewer characters have no more of them
  le_by : (n m : ℕ) → (m ≡ suc n) ⊎ (m < suc n) → (m ≤ n → length (entries_from file c w m) ≤ length (entries_from file c w n)) →
      length (entries_from file c w m) ≤ length (entries_from file c w (n + 1))
  le_by n m (inl e) k = rw (e, add-one) (omega arith)
  le_by n m (inr h) k = omega (arith, k (omega arith), length_entries_more n)

  pub length_entries_le : (n m : ℕ) → m ≤ n → length (entries_from file c w m) ≤ length (entries_from file c w n)
  length_entries_le zero m h = let e : m ≡ 0 = omega arith in rw e (omega arith)
  length_entries_le (suc n) m h = rw add-one at (le_by n m (eq-or-lt_of_le h) (length_entries_le n m))

  pub entries_more : (n : ℕ) {d₀ d d' : List ℤ} {at : ℕ} → Appending (entries_from file c w n) d₀ d → at ≡ length (entries_from file c w n) →
      at + length (char_entry file (c + n) (w + n)) ≤ length d → d' ≡ sets d at (char_entry file (c + n) (w + n)) →
      Appending (entries_from file c w (n + 1)) d₀ d'
  unfolding entries_from
  entries_more n {d₀} h a l e =
      rw (add-one, e, a) (appending_more d₀ (char_entry file (c + n) (w + n)) h (omega arith))

-- ---- stores in a row

pub two_stored : {A : Type 0} (d : List A) (at : ℕ) (x y : A) {d₁ d₂ : List A} → d₁ ≡ set d at x → d₂ ≡ set d₁ (at + 1) y → d₂ ≡ sets d at (x ∷ y ∷ [])
two_stored d at x y e f = rw (f, e, add-one)

pub four_stored : {A : Type 0} (d : List A) (at : ℕ) (x y z u : A) {d₁ d₂ d₃ d₄ : List A} → d₁ ≡ set d at x → d₂ ≡ set d₁ (at + 1) y →
    d₃ ≡ set d₂ (at + 2) z → d₄ ≡ set d₃ (at + 3) u → d₄ ≡ sets d at (x ∷ y ∷ z ∷ u ∷ [])
four_stored d at x y z u e f g h =
    let two : at + 2 ≡ suc (suc at) = omega arith in
    let three : at + 3 ≡ suc (suc (suc at)) = omega arith in
    rw (h, g, f, e, three, two, add-one)
