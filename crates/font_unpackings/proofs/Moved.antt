-- Laws of the table of entries that are moved back: at each place stands what stood there, moved back. Assumes nothing.
use mathlib.Core.Path.{◌≡◌, refl, ◌∙◌}
use mathlib.Core.Bool.{Bool, true, false, cond}
use mathlib.Core.List.{List}
use mathlib.Core.Logic.{◌⊎◌, inl, inr}
use Prim.Native.Nat.{ℕ, zero, suc, ◌+◌, ◌-◌, ◌*◌, ◌/◌, ◌%◌, ◌<◌, ◌≤◌}
use native.Mathlib.Omega.{arith}
use lib.IntN.{ℤ, pos, negsuc}
use lib.Dec.{ltb, eqb}
use lib.ListN.{length, get_or, set, get_or-replicate}
use lib.Seq.{get_or-set_same, get_or-set_other}
use borrow.Author.Tests.{eq-eqb, ne_eqb, ltb-true}
use Rattle.words.specs.Words.{word_of}
use Rattle.words.proofs.Lists.{length_tabulate, get_d_tabulate}
use Rattle.words.proofs.Tests.{same_or_not}
use Rattle.lang.specs.Every.{both, every}
use Rattle.lang.specs.Records.{within}
use Rattle.lang.specs.Checks.{char_at, entry_at, entered_once, entry_fits, entries_refusal}
use Rattle.lang.specs.Entries.{entered, entries_table}
use Rattle.lang.proofs.Every.{both_left, both_right, every_at}
use Rattle.lang.proofs.Refusals.{unless_none}
use Rattle.lang.proofs.Tables.{length_entered}
use Rattle.files.proofs.Own.{within_pos}
use Rattle.reading.specs.Items.{Left, bnd, chr}
use Rattle.fonts.specs.Fonts.{left_entry_of}
use Rattle.font_unpackings.specs.Unpackings.{moved_number, moved_entries, left_moved_back}

-- an entry, or none, and the same moved back by as many places as there are in front
pub data Back (front : ℕ) : ℤ → ℤ → Type 0 where
  absent : (n : ℕ) → Back front (negsuc n) (negsuc n)
  entry : (e : ℕ) → front ≤ e → Back front (pos e) (pos (e - front))

-- ---- the entries

-- an entry that is taken is no negative number
pub entry_pos : (es : List ℤ) → entries_refusal 65535 es ≡ 0 → (i : ℕ) → i < length es / 2 → entry_at es i ≡ pos (word_of (entry_at es i))
entry_pos es ok i h =
    let all = both_right (eqb (length es % 2) 0) (every (length es / 2) (entry_fits 65535 es))
    (unless_none 3 (both (eqb (length es % 2) 0) (every (length es / 2) (entry_fits 65535 es))) ok) in
    let fits = every_at (length es / 2) i (entry_fits 65535 es) all h in
    let range = both_right (within 255 (char_at es i)) (both (within 65535 (entry_at es i)) (entered_once es i)) fits in
    within_pos 65535 (entry_at es i) (both_left (within 65535 (entry_at es i)) (entered_once es i) range)

module _ (es : List ℤ) (front : ℕ) where
  moved_char : (i : ℕ) → i < length es / 2 → char_at (moved_entries es front) i ≡ char_at es i
  moved_char i h =
      get_d_tabulate (length es) (moved_number es front) (2 * i) (pos 0) (omega arith) ∙ rw (eq-eqb (2 * i % 2) 0 (omega arith))

  moved_entry : (i : ℕ) → i < length es / 2 → entry_at (moved_entries es front) i ≡ pos (word_of (entry_at es i) - front)
  moved_entry i h =
      get_d_tabulate (length es) (moved_number es front) (2 * i + 1) (pos 0) (omega arith) ∙ rw (ne_eqb ((2 * i + 1) % 2) 0 (λ z. omega arith))

  -- ---- the table

  Same : List ℤ → List ℤ → Type 0
  Same t t' = (k : ℕ) → k < 257 → Back front (get_or t k (negsuc 0)) (get_or t' k (negsuc 0))

  -- one more at the same place
  set_by : (t t' : List ℤ) (p k : ℕ) (z z' : ℤ) → length t ≡ 257 → length t' ≡ 257 → k < 257 → (k ≡ p) ⊎ (k ≡ p → ⊥) → Back front z z' →
      Back front (get_or t k (negsuc 0)) (get_or t' k (negsuc 0)) →
      Back front (get_or (set t p z) k (negsuc 0)) (get_or (set t' p z') k (negsuc 0))
  set_by t t' p k z z' l l' h (inl e) b a =
      rw (← e, get_or-set_same t k z (negsuc 0) (omega arith), get_or-set_same t' k z' (negsuc 0) (omega arith)) b
  set_by t t' p k z z' l l' h (inr e) b a = rw (get_or-set_other t p k z (negsuc 0) e, get_or-set_other t' p k z' (negsuc 0) e) a

  set_same : (t t' : List ℤ) (p : ℕ) (z z' : ℤ) → length t ≡ 257 → length t' ≡ 257 → Back front z z' → Same t t' → Same (set t p z) (set t' p z')
  unfolding Same
  set_same t t' p z z' l l' b a k h = set_by t t' p k z z' l l' h (same_or_not k p) b (a k h)

  module _ (ok : entries_refusal 65535 es ≡ 0) (own : (i : ℕ) → i < length es / 2 → front ≤ word_of (entry_at es i)) where
    entry-back : (i : ℕ) → i < length es / 2 → Back front (entry_at es i) (entry_at (moved_entries es front) i)
    entry-back i h = rw (moved_entry i h, entry_pos es ok i h) (entry (word_of (entry_at es i)) (own i h))

    entered-back : (n : ℕ) → n ≤ length es / 2 → Same (entered es n) (entered (moved_entries es front) n)
    unfolding Same entered
    entered-back zero h = λ k l. rw (get_or-replicate 257 k (negsuc 0) (negsuc 0) l) (absent 0)
    entered-back (suc n) h =
        rw (moved_char n (omega arith))
        (set_same (entered es n) (entered (moved_entries es front) n) (word_of (char_at es n)) (entry_at es n) (entry_at (moved_entries es front) n)
        (length_entered es n) (length_entered (moved_entries es front) n) (entry-back n (omega arith)) (entered-back n (omega arith)))

    module _ (left : ℤ) (last : Back front left (left_moved_back left front)) where
      table-back : Same (entries_table es left) (entries_table (moved_entries es front) (left_moved_back left front))
      unfolding entries_table
      table-back =
          rw (length_tabulate (length es) (moved_number es front))
          (set_same (entered es (length es / 2)) (entered (moved_entries es front) (length es / 2)) 256 left (left_moved_back left front)
          (length_entered es (length es / 2)) (length_entered (moved_entries es front) (length es / 2)) last (entered-back (length es / 2) (omega arith)))

      -- the entry of every left
      pub left_back : (x : Left) →
          Back front (left_entry_of (entries_table es left) x) (left_entry_of (entries_table (moved_entries es front) (left_moved_back left front)) x)
      unfolding Same
      left_back bnd = table-back 256 (omega arith)
      left_back (chr c) = by (ltb c 256) refl
        where
          by : (t : Bool) → ltb c 256 ≡ t →
              Back front (cond t (get_or (entries_table es left) c (negsuc 0)) (negsuc 0))
              (cond t (get_or (entries_table (moved_entries es front) (left_moved_back left front)) c (negsuc 0)) (negsuc 0))
          by true t = table-back c (omega (arith, ltb-true c 256 t))
          by false t = absent 0
