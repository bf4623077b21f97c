-- Laws of the table of entries: a place has the entry of its character, and -1 where no entry has the character.
-- Assumes nothing.
use mathlib.Core.Path.{◌≡◌, refl, sym, ap, ◌∙◌}
use mathlib.Core.Bool.{Bool, true, false, not}
use mathlib.Core.List.{List}
use mathlib.Core.Logic.{◌⊎◌, inl, inr}
use Prim.Native.Nat.{ℕ, zero, suc, ◌/◌, ◌%◌, ◌<◌}
use native.Mathlib.Nat.{eq-or-lt_of_le, le_of_suc-le-suc}
use native.Mathlib.Omega.{arith}
use lib.IntN.{ℤ, negsuc}
use lib.Dec.{eqb}
use lib.ListN.{length, get_or, get_or-replicate}
use lib.Seq.{get_or-set_same, get_or-set_other}
use borrow.Author.Tests.{eqb-true, eqb-false, not-true}
use Rattle.words.specs.Words.{word_of}
use Rattle.lang.specs.Every.{both, every}
use Rattle.lang.specs.Records.{within}
use Rattle.lang.specs.Checks.{char_at, entry_at, entered_once, entry_fits, entries_refusal}
use Rattle.lang.specs.Entries.{entered, entries_table}
use Rattle.lang.proofs.Every.{both_left, both_right, every_at}
use Rattle.lang.proofs.Refusals.{unless_none}
use Rattle.lang.proofs.Tables.{length_entered}

-- ---- entries that are taken

module _ (limit : ℕ) (es : List ℤ) (ok : entries_refusal limit es ≡ 0) where
  place : (i : ℕ) → i < length es / 2 → entry_fits limit es i ≡ true
  place i h =
      every_at (length es / 2) i (entry_fits limit es)
      (both_right (eqb (length es % 2) 0) (every (length es / 2) (entry_fits limit es))
      (unless_none 3 (both (eqb (length es % 2) 0) (every (length es / 2) (entry_fits limit es))) ok))
      h

  pub entry_char : (i : ℕ) → i < length es / 2 → within 255 (char_at es i) ≡ true
  entry_char i h = both_left (within 255 (char_at es i)) (both (within limit (entry_at es i)) (entered_once es i)) (place i h)

  -- no two have one character
  pub entry_once : (i j : ℕ) → i < j → j < length es / 2 → word_of (char_at es i) ≡ word_of (char_at es j) → ⊥
  entry_once i j l h e =
      let o : entered_once es j ≡ true = both_right (within limit (entry_at es j)) (entered_once es j)
      (both_right (within 255 (char_at es j)) (both (within limit (entry_at es j)) (entered_once es j)) (place j h)) in
      eqb-false (word_of (char_at es i)) (word_of (char_at es j))
      (not-true (eqb (word_of (char_at es i)) (word_of (char_at es j)))
      (every_at j i (λ k. not (eqb (word_of (char_at es k)) (word_of (char_at es j)))) o l)) e

-- ---- a character among the first n entries

pub record Found (es : List ℤ) (n c : ℕ) : Type 0 where
  pub place : ℕ
  pub inside : place < n
  pub char : word_of (char_at es place) ≡ c

-- none of them has it
abbrev pub Absent : List ℤ → ℕ → ℕ → Type 0
Absent es n c = (i : ℕ) → i < n → word_of (char_at es i) ≡ c → ⊥

found_more : (es : List ℤ) (n c : ℕ) → Found es n c → Found es (suc n) c
found_more es n c v = record { place = v.place; inside = omega (arith, v.inside); char = v.char }

absent_by : (es : List ℤ) (n c i : ℕ) → Absent es n c → (word_of (char_at es n) ≡ c → ⊥) → (i ≡ n) ⊎ (i < n) → word_of (char_at es i) ≡ c → ⊥
absent_by es n c i a d (inl e) g = d (ap (λ (k : ℕ). word_of (char_at es k)) (sym e) ∙ g)
absent_by es n c i a d (inr h) g = a i h g

found_by_lem : (es : List ℤ) (n c : ℕ) (b : Bool) → eqb (word_of (char_at es n)) c ≡ b → Found es n c ⊎ Absent es n c → Found es (suc n) c ⊎ Absent es (suc n) c
found_by_lem es n c true t r = inl (record { place = n; inside = omega arith; char = eqb-true (word_of (char_at es n)) c t })
found_by_lem es n c false t (inl v) = inl (found_more es n c v)
found_by_lem es n c false t (inr a) =
    inr (λ i h. absent_by es n c i a (eqb-false (word_of (char_at es n)) c t) (eq-or-lt_of_le (le_of_suc-le-suc h)))

pub found : (es : List ℤ) (n c : ℕ) → Found es n c ⊎ Absent es n c
found es zero c = inr (λ i h e. omega arith)
found es (suc n) c = found_by_lem es n c (eqb (word_of (char_at es n)) c) refl (found es n c)

-- ---- the table

pub entered_none : (es : List ℤ) (n c : ℕ) → c < 257 → Absent es n c → get_or (entered es n) c (negsuc 0) ≡ negsuc 0
unfolding entered
entered_none es zero c l a = get_or-replicate 257 c (negsuc 0) (negsuc 0) l
entered_none es (suc n) c l a =
    get_or-set_other (entered es n) (word_of (char_at es n)) c (entry_at es n) (negsuc 0) (λ e. a n (omega arith) (sym e))
    ∙ entered_none es n c l (λ i h. a i (omega arith))

entered_by : (es : List ℤ) (n i c : ℕ) → c < 257 → word_of (char_at es i) ≡ c → ((j : ℕ) → i < j → j < suc n → word_of (char_at es i) ≡ word_of (char_at es j) → ⊥) →
    (i ≡ n) ⊎ (i < n) → (i < n → get_or (entered es n) c (negsuc 0) ≡ entry_at es i) → get_or (entered es (suc n)) c (negsuc 0) ≡ entry_at es i
unfolding entered
entered_by es n i c l e d (inl q) r =
    rw (← q, e) (get_or-set_same (entered es i) c (entry_at es i) (negsuc 0) (rw (length_entered es i) l))
entered_by es n i c l e d (inr h) r =
    get_or-set_other (entered es n) (word_of (char_at es n)) c (entry_at es n) (negsuc 0) (λ g. d n h (omega arith) (e ∙ g)) ∙ r h

pub entered_at : (es : List ℤ) (n i c : ℕ) → c < 257 → word_of (char_at es i) ≡ c → ((j : ℕ) → i < j → j < n → word_of (char_at es i) ≡ word_of (char_at es j) → ⊥) →
    i < n → get_or (entered es n) c (negsuc 0) ≡ entry_at es i
entered_at es zero i c l e d h = absurd (omega arith)
entered_at es (suc n) i c l e d h =
    entered_by es n i c l e d (eq-or-lt_of_le (le_of_suc-le-suc h)) (entered_at es n i c l e (λ j a b. d j a (omega arith)))

-- at a character's code the left entry, which stands at 256, does not matter
pub table_is : (es : List ℤ) (left : ℤ) (c : ℕ) → c < 256 → get_or (entries_table es left) c (negsuc 0) ≡ get_or (entered es (length es / 2)) c (negsuc 0)
unfolding entries_table
table_is es left c h = get_or-set_other (entered es (length es / 2)) 256 c left (negsuc 0) (λ e. omega arith)
