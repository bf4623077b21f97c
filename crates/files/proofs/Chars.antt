-- Laws of the characters' words of a written file: the entries of a table are read from them again, by ascending character.
-- Assumes nothing.
use mathlib.Core.Path.{◌≡◌, refl, sym, ap, ◌∙◌}
use mathlib.Core.Bool.{Bool, true, false, cond, not}
use mathlib.Core.List.{List, [], ◌∷◌, ◌++◌, append-nil}
use Prim.Native.Nat.{ℕ, zero, suc, ◌+◌, ◌-◌, ◌*◌, ◌/◌, ◌%◌, ◌<◌, ◌≤◌}
use native.Mathlib.Omega.{arith}
use lib.IntN.{ℤ, pos, negsuc}
use lib.Dec.{eqb}
use lib.ListN.{get_or}
use lib.Signed.{non_neg}
use borrow.Author.Tests.{leb-true, eq-eqb, ne_eqb, eqb-false}
use Rattle.lang.specs.Records.{within}
use Rattle.lang.proofs.Every.{both_false}
use Rattle.files.specs.declared.FileLengths.{FileLengths}
use Rattle.files.specs.Lengths.{lengths_of, char_count, char_start}
use Rattle.files.specs.Commands.{word_byte, char_entry}
use Rattle.files.specs.Reading.{entries_from, file_entries}
use Rattle.files.specs.Sections.{char_byte}
use Rattle.files.specs.Writing.{written_lengths}
use Rattle.files.specs.Purpose.{ascending}
use Rattle.files.specs.Writing.{written_char}

-- ---- one word

-- a tag of 1 that is taken off, and another that stays
tag_off : (b : Bool) (x : ℕ) → eqb (x % 4) 1 ≡ b → cond b (4 * (x / 4)) x % 4 ≡ 1 → ⊥
tag_off true x t e = omega arith
tag_off false x t e = eqb-false (x % 4) 1 t e

-- a character with an entry has a width, and the entry is one byte
module _ (old file : List ℕ) (v w c : ℕ) where
  pub char_read : (z : ℤ) → (non_neg z ≡ true → word_byte old v 0 ≡ 0 → ⊥) → (non_neg z ≡ true → within 255 z ≡ true) →
      ((j : ℕ) → j < 4 → word_byte file w j ≡ char_byte old z v j) → char_entry file c w ≡ cond (non_neg z) (pos c ∷ z ∷ []) []
  char_read (pos m) wide byte h =
      let l : m ≤ 255 = leb-true m 255 (byte refl) in
      let e : m % 256 ≡ m = omega arith in
      let t : (4 * (word_byte old v 2 / 4) + 1) % 4 ≡ 1 = omega arith in
      rw (
        h 0 (omega arith),
        h 2 (omega arith),
        h 3 (omega arith),
        ne_eqb (word_byte old v 0) 0 (wide refl),
        eq-eqb ((4 * (word_byte old v 2 / 4) + 1) % 4) 1 t,
        e,
      )
  char_read (negsuc m) wide byte h =
      let x : ℕ = word_byte old v 2 in
      let t : eqb (word_byte file w 2 % 4) 1 ≡ false = ne_eqb (word_byte file w 2 % 4) 1
      (λ e. tag_off (eqb (x % 4) 1) x refl (ap (λ (n : ℕ). n % 4) (sym (h 2 (omega arith))) ∙ e)) in
      rw (t, both_false (not (eqb (word_byte file w 0) 0)))

-- ---- the table, by ascending character

-- what stands at place c
abbrev entry_of : List ℤ → ℕ → List ℤ
entry_of table c = cond (non_neg (get_or table c (negsuc 0))) (pos c ∷ get_or table c (negsuc 0) ∷ []) []

module _ (table : List ℤ) (a : ℕ) where
  -- places that are empty
  ascending_same : (n : ℕ) → ((c : ℕ) → a ≤ c → c < a + n → non_neg (get_or table c (negsuc 0)) ≡ false) → ascending table (a + n) ≡ ascending table a
  unfolding ascending
  ascending_same zero h = ap (ascending table) (let e : a + 0 ≡ a = omega arith in e)
  ascending_same (suc n) h =
      let e : a + suc n ≡ suc (a + n) = omega arith in
      rw (e, h (a + n) (omega arith) (omega arith), append-nil) (ascending_same n (λ c l g. h c l (omega arith)))

  -- words that are read
  ascending_read : (file : List ℕ) (w n : ℕ) → ascending table a ≡ [] → ((i : ℕ) → i < n → char_entry file (a + i) (w + i) ≡ entry_of table (a + i)) →
      entries_from file a w n ≡ ascending table (a + n)
  unfolding ascending entries_from
  ascending_read file w zero z h = sym z ∙ ap (ascending table) (let e : a ≡ a + 0 = omega arith in e)
  ascending_read file w (suc n) z h =
      let e : a + suc n ≡ suc (a + n) = omega arith in
      rw (e, ← ascending_read file w n z (λ i l. h i (omega arith)), h n (omega arith))

ascending_none : (table : List ℤ) (n : ℕ) → ((c : ℕ) → c < n → non_neg (get_or table c (negsuc 0)) ≡ false) → ascending table n ≡ []
unfolding ascending
ascending_none table zero h = refl
ascending_none table (suc n) h = rw (h n (omega arith)) (ap (λ (t : List ℤ). t ++ []) (ascending_none table n (λ c l. h c (omega arith))))

-- ---- a whole file

-- an entry at place c: its character has a word with a width, and the entry is one byte
pub record Holds (old : List ℕ) (l : FileLengths) (c : ℕ) (z : ℤ) : Type 0 where
  pub from : l.bc ≤ c
  pub to : c ≤ l.ec
  pub wide : word_byte old (char_start l + (c - l.bc)) 0 ≡ 0 → ⊥
  pub byte : within 255 z ≡ true

module _ (old file : List ℕ) (l : FileLengths) (table : List ℤ) (low : l.bc ≤ suc l.ec) (high : l.ec ≤ 255)
    (holds : (c : ℕ) → c < 256 → non_neg (get_or table c (negsuc 0)) ≡ true → Holds old l c (get_or table c (negsuc 0)))
    (chars : (i j : ℕ) → i < char_count l → j < 4 → word_byte file (char_start l + i) j ≡ written_char old l table i j)
  where
    -- places of characters that have no word
    empty : (c : ℕ) → c < 256 → (l.bc ≤ c → c ≤ l.ec → ⊥) → non_neg (get_or table c (negsuc 0)) ≡ false
    empty c h g = by (non_neg (get_or table c (negsuc 0))) refl
      where
        by : (b : Bool) → non_neg (get_or table c (negsuc 0)) ≡ b → b ≡ false
        by true t = absurd (g (holds c h t).from (holds c h t).to)
        by false t = refl

    char-at : (i : ℕ) → i < char_count l → char_entry file (l.bc + i) (char_start l + i) ≡ entry_of table (l.bc + i)
    char-at i h =
        let c : l.bc + i < 256 = omega arith in
        let e : char_start l + (l.bc + i - l.bc) ≡ char_start l + i = omega arith in
        char_read old file (char_start l + i) (char_start l + i) (l.bc + i) (get_or table (l.bc + i) (negsuc 0))
        (λ t z. (holds (l.bc + i) c t).wide (ap (λ (n : ℕ). word_byte old n 0) e ∙ z))
        (λ t. (holds (l.bc + i) c t).byte)
        (λ j. chars i j h)

    chars_read : entries_from file l.bc (char_start l) (char_count l) ≡ ascending table 256
    chars_read =
        let e : l.bc + char_count l ≡ suc l.ec = omega arith in
        let g : suc l.ec + (256 - suc l.ec) ≡ 256 = omega arith in
        ascending_read table l.bc file (char_start l) (char_count l) (ascending_none table l.bc (λ c h. empty c (omega arith) (λ a b. omega arith)))
        char-at
        ∙ ap (ascending table) e
        ∙ sym (ascending_same table (suc l.ec) (256 - suc l.ec) (λ c h k. empty c (omega arith) (λ a b. omega arith)))
        ∙ ap (ascending table) g

    pub entries_read_lem : (n k : ℕ) → lengths_of file ≡ written_lengths l n k → file_entries file ≡ ascending table 256
    entries_read_lem n k e = ap (λ (m : FileLengths). entries_from file m.bc (char_start m) (char_count m)) e ∙ chars_read
