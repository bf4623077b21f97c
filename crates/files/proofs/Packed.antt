-- Laws of a packed program: its numbers, in front, of the font's own instructions and at the end; and that each instruction of it can be read again.
-- Assumes nothing.
use mathlib.Core.Path.{◌≡◌, refl, sym, ap, ◌∙◌}
use mathlib.Core.Bool.{Bool, true, false}
use mathlib.Core.List.{List}
use Prim.Native.Nat.{ℕ, ◌+◌, ◌-◌, ◌*◌, ◌/◌, ◌%◌, ◌<◌, ◌≤◌}
use native.Mathlib.Omega.{arith}
use lib.IntN.{ℤ, pos, negsuc}
use lib.Dec.{ltb}
use lib.ListN.{length, get_or}
use lib.Signed.{non_neg}
use borrow.Author.Tests.{lt-ltb, leb-true, ltb-true, ltb-false}
use Rattle.lang.specs.Records.{count, field, absent_or}
use Rattle.pack_labels.specs.Labels.{labels_of}
use Rattle.pack.specs.Packing.{Packable, redirect, present_or, left_or, back, font_redirects, font_offset, packed_instructions}
use Rattle.pack.proofs.Packing.{Plan, target_of, number_front, number_old, number_back, plan_few, plan_size, back_some, back_none}
use Rattle.files.proofs.Program.{Readable, redirects, readable_same}

module _ (f : Packable) where
  plan_of : Plan f (labels_of f.entries) (non_neg f.boundary) (font_redirects f) (font_offset f)
  plan_of = record { same = refl; bounded = refl; redirects = refl; offset = refl }

  whole_size : length (packed_instructions f) ≡ 4 * font_offset f + length f.instructions + length (back f.left (font_offset f))
  whole_size = plan_size plan_of

  -- how many there are, with a left entry and without one
  pub count_left : length f.instructions % 4 ≡ 0 → non_neg f.left ≡ true → count (packed_instructions f) ≡ font_offset f + count f.instructions + 1
  count_left z t = omega (arith, whole_size, ap length (back_some f.left (font_offset f) t))

  pub count_plain : length f.instructions % 4 ≡ 0 → non_neg f.left ≡ false → count (packed_instructions f) ≡ font_offset f + count f.instructions
  count_plain z t = omega (arith, whole_size, ap length (back_none f.left (font_offset f) t))

  pub fits_behind : count f.instructions + font_offset f ≤ count (packed_instructions f)
  fits_behind = omega (arith, whole_size)

  pub packed_fours : length f.instructions % 4 ≡ 0 → length (packed_instructions f) ≡ 4 * count (packed_instructions f)
  packed_fours z = by (non_neg f.left) refl
    where
      by : (b : Bool) → non_neg f.left ≡ b → length (packed_instructions f) ≡ 4 * count (packed_instructions f)
      by true t = omega (arith, whole_size, ap length (back_some f.left (font_offset f) t))
      by false t = omega (arith, whole_size, ap length (back_none f.left (font_offset f) t))

  -- ---- number m of an instruction in front, of an old one, and of the one at the end

  abbrev pub target : ℕ → ℕ
  target i = target_of (font_redirects f) (font_offset f) (labels_of f.entries) i

  pub front_field : (i m : ℕ) → i < font_offset f → m < 4 → field (packed_instructions f) i m ≡ get_or (redirect (present_or f.boundary) (target i) 1) m (pos 0)
  front_field i m h l =
      let q : (4 * i + m) / 4 ≡ i = omega arith in
      let r : (4 * i + m) % 4 ≡ m = omega arith in
      rw (lt-ltb i (count (packed_instructions f)) (omega (arith, whole_size)))
      (sym (number_front f.boundary (font_redirects f) (font_offset f) (labels_of f.entries) f.instructions f.left refl (plan_few plan_of) (4 * i + m)
      (omega arith))
      ∙ rw (q, r))

  pub old_field : (e m : ℕ) → e < count f.instructions → m < 4 → field (packed_instructions f) (e + font_offset f) m ≡ field f.instructions e m
  old_field e m h l =
      let j : 4 * (e + font_offset f) + m - 4 * font_offset f ≡ 4 * e + m = omega arith in
      rw (lt-ltb (e + font_offset f) (count (packed_instructions f)) (omega (arith, whole_size)), lt-ltb e (count f.instructions) h)
      (sym (number_old f.boundary (font_redirects f) (font_offset f) (labels_of f.entries) f.instructions f.left refl (plan_few plan_of)
      (4 * (e + font_offset f) + m) (omega arith) (omega arith))
      ∙ ap (λ (n : ℕ). get_or f.instructions n (pos 0)) j)

  pub back_field : (m : ℕ) → length f.instructions % 4 ≡ 0 → non_neg f.left ≡ true → m < 4 →
      field (packed_instructions f) (font_offset f + count f.instructions) m ≡ get_or (redirect (pos 0) (left_or f.left + font_offset f) 0) m (pos 0)
  back_field m z t l =
      let b = back_some f.left (font_offset f) t in
      let j : 4 * (font_offset f + count f.instructions) + m - 4 * font_offset f - length f.instructions ≡ m = omega arith in
      rw (lt-ltb (font_offset f + count f.instructions) (count (packed_instructions f)) (omega (arith, whole_size, ap length b)))
      (sym (number_back f.boundary (font_redirects f) (font_offset f) (labels_of f.entries) f.instructions f.left refl (plan_few plan_of)
      (4 * (font_offset f + count f.instructions) + m) (omega arith) (omega arith))
      ∙ rw (j, b))

-- ---- each instruction can be read again, if each of the font's own can

-- all four numbers of instruction i
abbrev pub ReadableAt : List ℤ → ℕ → Type 0
ReadableAt s i = Readable (field s i 0) (field s i 1) (field s i 2) (field s i 3)

redirect_readable : (z : ℤ) (x : ℕ) → absent_or 255 z ≡ true → Readable (negsuc 0) (present_or z) (pos 3) (pos x)
redirect_readable (pos b) x t = redirects b x (leb-true b 255 t)
redirect_readable (negsuc n) x t = redirects 0 x (omega arith)

module _ (f : Packable) (fours : length f.instructions % 4 ≡ 0) (bounded : absent_or 255 f.boundary ≡ true)
    (own : (e : ℕ) → e < count f.instructions → ReadableAt f.instructions e)
  where
    front-readable : (i : ℕ) → i < font_offset f → ReadableAt (packed_instructions f) i
    front-readable i h =
        readable_same (sym (front_field f i 0 h (omega arith))) (sym (front_field f i 1 h (omega arith))) (sym (front_field f i 2 h (omega arith)))
        (sym (front_field f i 3 h (omega arith))) (redirect_readable f.boundary (target f i + 65536 * 1) bounded)

    old-readable : (e : ℕ) → e < count f.instructions → ReadableAt (packed_instructions f) (e + font_offset f)
    old-readable e h =
        readable_same (sym (old_field f e 0 h (omega arith))) (sym (old_field f e 1 h (omega arith))) (sym (old_field f e 2 h (omega arith)))
        (sym (old_field f e 3 h (omega arith))) (own e h)

    back-readable : non_neg f.left ≡ true → ReadableAt (packed_instructions f) (font_offset f + count f.instructions)
    back-readable t =
        readable_same (sym (back_field f 0 fours t (omega arith))) (sym (back_field f 1 fours t (omega arith))) (sym (back_field f 2 fours t (omega arith)))
        (sym (back_field f 3 fours t (omega arith))) (redirects 0 (left_or f.left + font_offset f + 65536 * 0) (omega arith))

    later-readable : (i : ℕ) → font_offset f ≤ i → i < count (packed_instructions f) → (b : Bool) → ltb (i - font_offset f) (count f.instructions) ≡ b →
        (l : Bool) → non_neg f.left ≡ l → ReadableAt (packed_instructions f) i
    later-readable i h g true t l n =
        let e : i - font_offset f + font_offset f ≡ i = omega arith in
        rw e at (old-readable (i - font_offset f) (ltb-true (i - font_offset f) (count f.instructions) t))
    later-readable i h g false t true n =
        let e : font_offset f + count f.instructions ≡ i =
        omega (arith, count_left f fours n, ltb-false (i - font_offset f) (count f.instructions) t) in
        rw e at (back-readable n)
    later-readable i h g false t false n =
        absurd (omega (arith, count_plain f fours n, ltb-false (i - font_offset f) (count f.instructions) t))

    pub packed_readable : (i : ℕ) → i < count (packed_instructions f) → ReadableAt (packed_instructions f) i
    packed_readable i h = by (ltb i (font_offset f)) refl
      where
        by : (b : Bool) → ltb i (font_offset f) ≡ b → ReadableAt (packed_instructions f) i
        by true t = front-readable i (ltb-true i (font_offset f) t)
        by false t =
            later-readable i (ltb-false i (font_offset f) t) h (ltb (i - font_offset f) (count f.instructions)) refl (non_neg f.left) refl
