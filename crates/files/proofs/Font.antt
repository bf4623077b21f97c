-- What is known of the packed font of a file that is written: packing does not refuse it, and each of its instructions can be read again.
-- Assumes nothing.
use mathlib.Core.Path.{◌≡◌, refl, ap, ◌∙◌}
use mathlib.Core.Bool.{Bool, true, false, cond}
use mathlib.Core.List.{List}
use Prim.Native.Nat.{ℕ, zero, suc, ◌/◌, ◌%◌, ◌<◌}
use native.Mathlib.Omega.{arith}
use lib.IntN.{ℤ}
use lib.Dec.{ltb}
use lib.ListN.{length}
use lib.Signed.{non_neg}
use borrow.Author.Tests.{ltb-true, ltb-false}
use Rattle.words.specs.Words.{word_of}
use Rattle.lang.specs.Records.{count, field, is_kind, absent_or}
use Rattle.lang.specs.Checks.{or_else, char_at, entry_at, absent_refusal}
use Rattle.lang.proofs.Every.{both_left, both_right}
use Rattle.lang.proofs.Refusals.{program_fours, room_is}
use Rattle.pack_labels.specs.Labels.{labels, labels_of, offset_by}
use Rattle.pack_labels.proofs.Redirects.{redirects_le}
use Rattle.pack.specs.Packing.{font_redirects, font_offset, packed_instructions, packing_refusal}
use Rattle.pack.proofs.Packing.{Taken, taken}
use Rattle.files.specs.Writing.{Writable, shared_font, is_in_file}
use Rattle.files.specs.Purpose.{AreI32}
use Rattle.files.proofs.Shared.{shared_length, shared_count, shared_first, shared_kind, shared_taken}
use Rattle.files.proofs.Own.{own_plain, own_next, own_readable}
use Rattle.files.proofs.Packed.{ReadableAt, packed_readable}
use Rattle.files.proofs.Taken.{PacksFontOf, WritesFont}

-- ---- tests that pass

when_true : (a b : Bool) → cond a b true ≡ true → a ≡ true → b ≡ true
when_true true b t e = t
when_true false b t e = cc

labels_none : (es : List ℤ) (n : ℕ) → n ≡ 0 → length (labels es n) ≡ 0
unfolding labels
labels_none es zero e = refl
labels_none es (suc n) e = absurd (omega arith)

offset_plain : (b : Bool) (k : ℕ) → b ≡ false → offset_by b k ≡ k
offset_plain true k e = absurd (let z : ◌≡◌ {A = ℕ} 0 1 = cc in omega arith)
offset_plain false zero e = refl
offset_plain false (suc k) e = refl

none_of_eight : {a b c d e g h i : ℕ} → a ≡ 0 → b ≡ 0 → c ≡ 0 → d ≡ 0 → e ≡ 0 → g ≡ 0 → h ≡ 0 → i ≡ 0 →
    or_else (or_else a (or_else b (or_else c d))) (or_else e (or_else g (or_else h i))) ≡ 0
none_of_eight p q r s t u v w = rw (p, q, r, s, t, u, v, w)

absent_none : (n : ℕ) (z : ℤ) → absent_or n z ≡ true → absent_refusal n z ≡ 0
absent_none n z t = rw t

-- ---- the font

module _ (f : Writable) (p : PacksFontOf f) where
  pub font_fours : length (shared_font f).instructions % 4 ≡ 0
  font_fours = omega (arith, shared_length f.instructions f.kerns, program_fours f.instructions p.program)

  pub font_accepted : packing_refusal (shared_font f) (length (packed_instructions (shared_font f))) (length f.entries) ≡ 0
  font_accepted =
      none_of_eight (shared_taken f.instructions f.kerns p.program) p.entries (absent_none 255 f.boundary p.boundary)
      (absent_none 65535 f.left p.left) p.redirects p.shifts
      (room_is (length (packed_instructions (shared_font f))) (length (packed_instructions (shared_font f))) (omega arith))
      (room_is (length f.entries) (length f.entries) (omega arith))

  pub font_packed : Taken (shared_font f) (length (packed_instructions (shared_font f))) (length f.entries)
  font_packed = taken (shared_font f) (length (packed_instructions (shared_font f))) (length f.entries) font_accepted

  module _ (old : List ℕ) (n k : ℕ) (w : WritesFont old f n k) where
    -- ---- each entry leads to an instruction

    pub entry_in_file : (i : ℕ) → i < length f.entries / 2 → is_in_file old (word_of (char_at f.entries i)) ≡ true
    entry_in_file i h =
        both_left (is_in_file old (word_of (char_at f.entries i))) (ltb (word_of (entry_at f.entries i)) (count f.instructions)) (w.entries i h)

    pub entry_inside : (i : ℕ) → i < length f.entries / 2 → word_of (entry_at f.entries i) < count f.instructions
    entry_inside i h =
        ltb-true (word_of (entry_at f.entries i)) (count f.instructions)
        (both_right (is_in_file old (word_of (char_at f.entries i))) (ltb (word_of (entry_at f.entries i)) (count f.instructions)) (w.entries i h))

    pub left_some : non_neg f.left ≡ true → 0 < count (shared_font f).instructions
    left_some t =
        let l : word_of f.left < count f.instructions =
        ltb-true (word_of f.left) (count f.instructions) (when_true (non_neg f.left) (ltb (word_of f.left) (count f.instructions)) w.left t) in
        omega (arith, shared_count f.instructions f.kerns)

    redirects_some : 0 < font_redirects (shared_font f) → 0 < count f.instructions
    redirects_some h = by (ltb 0 (length f.entries / 2)) refl
      where
        by : (b : Bool) → ltb 0 (length f.entries / 2) ≡ b → 0 < count f.instructions
        by true t = omega (arith, entry_inside 0 (ltb-true 0 (length f.entries / 2) t))
        by false t =
            let e : length f.entries / 2 ≡ 0 = omega (arith, ltb-false 0 (length f.entries / 2) t) in
            absurd (omega (arith, labels_none f.entries (length f.entries / 2) e, redirects_le (non_neg f.boundary) (labels_of f.entries)))

    -- where there is an instruction in front, there is one of the font's own
    pub font_some : 0 < font_offset (shared_font f) → 0 < count (shared_font f).instructions
    font_some h = by (non_neg f.boundary) refl
      where
        by : (b : Bool) → non_neg f.boundary ≡ b → 0 < count (shared_font f).instructions
        by true t =
            let l = ltb-true 0 (count f.instructions) (when_true (non_neg f.boundary) (ltb 0 (count f.instructions)) w.bounded t) in
            omega (arith, shared_count f.instructions f.kerns)
        by false t =
            let e = offset_plain (non_neg f.boundary) (font_redirects (shared_font f)) t in
            let l = redirects_some (omega arith) in
            omega (arith, shared_count f.instructions f.kerns)

    -- ---- its own instructions

    module _ (are : AreI32 f.instructions) where
      own_at : (i : ℕ) → i < count (shared_font f).instructions → i < count f.instructions
      own_at i h = rw (shared_count f.instructions f.kerns) at h

      pub font_plain : (i : ℕ) → i < count (shared_font f).instructions → is_kind 3 (shared_font f).instructions i ≡ false
      font_plain i h =
          let l = own_at i h in
          shared_kind f.instructions f.kerns i l 3 (omega arith)
          ∙ own_plain f.instructions f.kerns are p.program i l (w.instructions i l)

      pub font_next : (i : ℕ) → i < count (shared_font f).instructions → absent_or 127 (field (shared_font f).instructions i 0) ≡ true
      font_next i h =
          let l = own_at i h in
          ap (absent_or 127) (shared_first f.instructions f.kerns i l 0 (omega arith))
          ∙ own_next f.instructions f.kerns are p.program i l (w.instructions i l)

      pub font_readable : (i : ℕ) → i < count (packed_instructions (shared_font f)) → ReadableAt (packed_instructions (shared_font f)) i
      font_readable =
          packed_readable (shared_font f) font_fours p.boundary
          (λ e h. own_readable f.instructions f.kerns are p.program e (own_at e h) (w.instructions e (own_at e h)))
