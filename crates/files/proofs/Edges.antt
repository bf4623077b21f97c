-- Laws of the first and the last word of the lig/kern section: the boundary character and the left entry are read again.
-- Assumes nothing.
use mathlib.Core.Path.{◌≡◌, refl, sym, ap, ◌∙◌}
use mathlib.Core.Bool.{Bool, true, false, cond}
use mathlib.Core.List.{List}
use Prim.Native.Nat.{ℕ, zero, suc, ◌+◌, ◌-◌, ◌*◌, ◌/◌, ◌%◌, ◌<◌, ◌≤◌}
use native.Mathlib.Omega.{arith}
use lib.IntN.{ℤ, pos, negsuc}
use lib.Dec.{ltb, eqb}
use lib.ListN.{length}
use lib.Signed.{non_neg}
use borrow.Author.Tests.{lt-ltb, leb-true, ltb-true, ltb-false, eqb-true, eq-eqb, ne_eqb}
use Rattle.words.specs.Words.{word_of}
use Rattle.lang.specs.Every.{both}
use Rattle.lang.proofs.Every.{both_false}
use Rattle.lang.specs.Records.{count, field, is_kind, absent_or}
use Rattle.pack_labels.specs.Labels.{offset_by}
use Rattle.pack.specs.Packing.{Packable, present_or, left_or, font_redirects, font_offset, packed_instructions}
use Rattle.files.specs.declared.FileLengths.{FileLengths}
use Rattle.files.specs.Lengths.{lengths_of, command_start, kern_start}
use Rattle.files.specs.Commands.{word_byte, is_first255}
use Rattle.files.specs.Reading.{file_boundary, file_left}
use Rattle.files.specs.Sections.{command_byte, first_byte, last_half}
use Rattle.files.specs.Writing.{written_lengths}
use Rattle.files.specs.Purpose.{moved_left}
use Rattle.files.proofs.Program.{first_of, first_from, next_le}
use Rattle.files.proofs.Packed.{count_left, count_plain, fits_behind, front_field, old_field, back_field}

-- ---- the first byte

first_plain : (z0 z2 : ℤ) (p q : Bool) → eqb (word_of z2) 3 ≡ false → absent_or 127 z0 ≡ true → first_from z0 z2 p q ≤ 128
first_plain z0 z2 p q k t = rw k (next_le z0 t)

first_same : {a a' c c' : ℤ} (p q : Bool) → a ≡ a' → c ≡ c' → first_from a c p q ≡ first_from a' c' p q
first_same p q e g = rw (e, g)

first_redirect : {c : ℤ} (a : ℤ) (p q : Bool) → c ≡ pos 3 → first_from a c p q ≡ first_of p q
first_redirect a p q e = rw e

first_last : (p : Bool) → first_of p true ≡ 255
first_last true = refl
first_last false = refl

-- the last two bytes
half_back : {z2 z3 : ℤ} {t : ℕ} → z2 ≡ pos 3 → z3 ≡ pos (t + 65536 * 0) → t ≤ 65535 →
    cond (eqb (word_of z2) 1) (32768 + word_of z3 % 32768) (word_of z3 % 65536) ≡ t
half_back e g h = rw (e, g) (omega arith)

half_joined : {a b n : ℕ} → a ≡ n / 256 → b ≡ n % 256 → 256 * a + b ≡ n
half_joined e g = omega arith

-- a word that is looked at where there is one
edge_some : (n : ℕ) (t : Bool) (x : ℤ) → 0 < n → t ≡ true → cond (both (ltb 0 n) t) x (negsuc 0) ≡ x
edge_some n t x h e = rw (lt-ltb 0 n h, e)

edge_none : (n : ℕ) (t : Bool) (x : ℤ) → (0 < n → t ≡ false) → cond (both (ltb 0 n) t) x (negsuc 0) ≡ negsuc 0
edge_none zero t x h = refl
edge_none (suc n) t x h = rw (h (omega arith), both_false (ltb 0 (suc n)))

offset_bounded : (b : Bool) (k : ℕ) → b ≡ true → 0 < offset_by b k
offset_bounded true zero e = omega arith
offset_bounded false zero e = absurd (let z : ◌≡◌ {A = ℕ} 0 1 = cc in omega arith)
offset_bounded b (suc k) e = omega arith

-- the packed instructions of g, whose own are no redirects; where there is one in front, there is one of its own
module _ (g : Packable) (fours : length g.instructions % 4 ≡ 0)
    (plain : (e : ℕ) → e < count g.instructions → is_kind 3 g.instructions e ≡ false)
    (next : (e : ℕ) → e < count g.instructions → absent_or 127 (field g.instructions e 0) ≡ true)
    (some : 0 < font_offset g → 0 < count g.instructions)
  where
    abbrev whole : List ℤ
    whole = packed_instructions g

    own_first : (z : ℤ) (e : ℕ) → e < count g.instructions → first_byte whole z (e + font_offset g) ≤ 128
    own_first z e h =
        let p = non_neg z in
        let q = eqb (suc (e + font_offset g)) (count whole) in
        rw (first_same p q (old_field g e 0 h (omega arith)) (old_field g e 2 h (omega arith)))
        (first_plain (field g.instructions e 0) (field g.instructions e 2) p q (plain e h) (next e h))

    front-first : (z : ℤ) (i : ℕ) → i < font_offset g → first_byte whole z i ≡ first_of (non_neg z) (eqb (suc i) (count whole))
    front-first z i h = first_redirect (field whole i 0) (non_neg z) (eqb (suc i) (count whole)) (front_field g i 2 h (omega arith))

    -- with no boundary character the first word is no 255
    first_none : (n : ℕ) → 0 < count whole → (non_neg g.left ≡ true → 0 < count g.instructions) → first_byte whole (negsuc n) 0 ≡ 255 → ⊥
    first_none n h l = by (ltb 0 (font_offset g)) refl
      where
        own-some : (b : Bool) → non_neg g.left ≡ b → font_offset g ≡ 0 → 0 < count g.instructions
        own-some true t e = l t
        own-some false t e = omega (arith, count_plain g fours t)

        by : (b : Bool) → ltb 0 (font_offset g) ≡ b → first_byte whole (negsuc n) 0 ≡ 255 → ⊥
        by true t e =
            let o : 0 < font_offset g = ltb-true 0 (font_offset g) t in
            let c : eqb 1 (count whole) ≡ false = ne_eqb 1 (count whole) (λ q. omega (arith, some o, fits_behind g)) in
            let v : 255 ≡ first_of false (eqb 1 (count whole)) = sym e ∙ front-first (negsuc n) 0 o in
            omega (arith, rw c at v)
        by false t e =
            let o : font_offset g ≡ 0 = omega (arith, ltb-false 0 (font_offset g) t) in
            let q : 0 + font_offset g ≡ 0 = omega arith in
            let v : first_byte whole (negsuc n) (0 + font_offset g) ≤ 128 = own_first (negsuc n) 0 (own-some (non_neg g.left) refl o) in
            let w : first_byte whole (negsuc n) 0 ≤ 128 = rw q at v in
            omega arith

    -- with no left entry the last one is none
    last_none : (z : ℤ) → non_neg g.left ≡ false → 0 < count whole → first_byte whole z (count whole - 1) ≡ 255 → ⊥
    last_none z t h e =
        let c = count_plain g fours t in
        let own : 0 < count g.instructions = by (ltb 0 (font_offset g)) refl in
        let q : count g.instructions - 1 + font_offset g ≡ count whole - 1 = omega arith in
        let v : first_byte whole z (count g.instructions - 1 + font_offset g) ≤ 128 = own_first z (count g.instructions - 1) (omega arith) in
        let w : first_byte whole z (count whole - 1) ≤ 128 = rw q at v in
        omega arith
      where
        by : (b : Bool) → ltb 0 (font_offset g) ≡ b → 0 < count g.instructions
        by true u = some (ltb-true 0 (font_offset g) u)
        by false u = omega (arith, count_plain g fours t, ltb-false 0 (font_offset g) u)

    -- ---- both, from the words of a file whose lig/kern section begins at word w

    module _ (file : List ℕ) (w : ℕ) (bytes : (i j : ℕ) → i < count whole → j < 4 → word_byte file (w + i) j ≡ command_byte whole g.boundary i j) where
      first_at : (j : ℕ) → 0 < count whole → j < 4 → word_byte file w j ≡ command_byte whole g.boundary 0 j
      first_at j h l = ap (λ (n : ℕ). word_byte file n j) (let e : w ≡ w + 0 = omega arith in e) ∙ bytes 0 j h l

      last-at : (j : ℕ) → 0 < count whole → j < 4 → word_byte file (w + count whole - 1) j ≡ command_byte whole g.boundary (count whole - 1) j
      last-at j h l =
          ap (λ (n : ℕ). word_byte file n j) (let e : w + count whole - 1 ≡ w + (count whole - 1) = omega arith in e)
          ∙ bytes (count whole - 1) j (omega arith) l

      boundary-at : (b : ℤ) → g.boundary ≡ b → absent_or 255 b ≡ true → (non_neg g.left ≡ true → 0 < count g.instructions) →
          cond (both (ltb 0 (count whole)) (is_first255 file w)) (pos (word_byte file w 1)) (negsuc 0) ≡ b
      boundary-at (pos b) q t l =
          let o : 0 < font_offset g = offset_bounded (non_neg g.boundary) (font_redirects g) (ap non_neg q) in
          let h : 0 < count whole = omega (arith, fits_behind g) in
          let a : word_byte file w 0 ≡ 255 =
          first_at 0 h (omega arith) ∙ front-first g.boundary 0 o ∙ ap (λ (z : ℤ). first_of (non_neg z) (eqb 1 (count whole))) q in
          let c : word_byte file w 1 ≡ b % 256 = first_at 1 h (omega arith) ∙ ap (λ (z : ℤ). word_of z % 256) (front_field g 0 1 o (omega arith))
          ∙ ap (λ (z : ℤ). word_of (present_or z) % 256) q in
          let d : b ≤ 255 = leb-true b 255 t in
          edge_some (count whole) (is_first255 file w) (pos (word_byte file w 1)) h (eq-eqb (word_byte file w 0) 255 a)
          ∙ ap pos (c ∙ omega arith)
      boundary-at (negsuc m) q t l =
          let e : m ≡ 0 = eqb-true m 0 t in
          edge_none (count whole) (is_first255 file w) (pos (word_byte file w 1))
          (λ h. ne_eqb (word_byte file w 0) 255
          (λ x. first_none m h l (ap (λ (z : ℤ). first_byte whole z 0) (sym q) ∙ sym (first_at 0 h (omega arith)) ∙ x)))
          ∙ ap negsuc (sym e)

      left_at : (z : ℤ) → g.left ≡ z → left_or z + font_offset g ≤ 65535 →
          cond (both (ltb 0 (count whole)) (is_first255 file (w + count whole - 1)))
          (pos (256 * word_byte file (w + count whole - 1) 2 + word_byte file (w + count whole - 1) 3)) (negsuc 0)
          ≡ moved_left z (font_offset g)
      left_at (pos e) q s =
          let t : non_neg g.left ≡ true = ap non_neg q in
          let n = count_left g fours t in
          let h : 0 < count whole = omega arith in
          let last : count whole - 1 ≡ font_offset g + count g.instructions = omega arith in
          let k : field whole (count whole - 1) 2 ≡ pos 3 = ap (λ (i : ℕ). field whole i 2) last ∙ back_field g 2 fours t (omega arith) in
          let x : field whole (count whole - 1) 3 ≡ pos (left_or g.left + font_offset g + 65536 * 0) =
          ap (λ (i : ℕ). field whole i 3) last ∙ back_field g 3 fours t (omega arith) in
          let u : eqb (suc (count whole - 1)) (count whole) ≡ true = eq-eqb (suc (count whole - 1)) (count whole) (omega arith) in
          let a : word_byte file (w + count whole - 1) 0 ≡ 255 =
          last-at 0 h (omega arith)
          ∙ first_redirect (field whole (count whole - 1) 0) (non_neg g.boundary) (eqb (suc (count whole - 1)) (count whole)) k
          ∙ ap (first_of (non_neg g.boundary)) u ∙ first_last (non_neg g.boundary) in
          let y : last_half whole (count whole - 1) ≡ e + font_offset g = half_back k (x ∙ ap (λ (z : ℤ). pos (left_or z + font_offset g + 65536 * 0)) q) s in
          edge_some (count whole) (is_first255 file (w + count whole - 1))
          (pos (256 * word_byte file (w + count whole - 1) 2 + word_byte file (w + count whole - 1) 3)) h
          (eq-eqb (word_byte file (w + count whole - 1) 0) 255 a)
          ∙ ap pos (half_joined (last-at 2 h (omega arith)) (last-at 3 h (omega arith)) ∙ y)
      left_at (negsuc m) q s =
          edge_none (count whole) (is_first255 file (w + count whole - 1))
          (pos (256 * word_byte file (w + count whole - 1) 2 + word_byte file (w + count whole - 1) 3))
          (λ h. ne_eqb (word_byte file (w + count whole - 1) 0) 255
          (λ x. last_none g.boundary (ap non_neg q) h (sym (last-at 0 h (omega arith)) ∙ x)))

      -- ---- and of the whole file

      module _ (l : FileLengths) (k : ℕ) (lengths : lengths_of file ≡ written_lengths l (count whole) k) (start : w ≡ command_start l) where
        pub boundary_read : absent_or 255 g.boundary ≡ true → (non_neg g.left ≡ true → 0 < count g.instructions) → file_boundary file ≡ g.boundary
        boundary_read t h =
            ap (λ (m : FileLengths). cond (both (ltb 0 m.nl) (is_first255 file (command_start m))) (pos (word_byte file (command_start m) 1)) (negsuc 0))
            lengths
            ∙ ap (λ (n : ℕ). cond (both (ltb 0 (count whole)) (is_first255 file n)) (pos (word_byte file n 1)) (negsuc 0)) (sym start)
            ∙ boundary-at g.boundary refl t h

        pub left_read : left_or g.left + font_offset g ≤ 65535 → file_left file ≡ moved_left g.left (font_offset g)
        left_read s =
            ap (λ (m : FileLengths). cond (both (ltb 0 m.nl) (is_first255 file (kern_start m - 1)))
            (pos (256 * word_byte file (kern_start m - 1) 2 + word_byte file (kern_start m - 1) 3)) (negsuc 0)) lengths
            ∙ ap (λ (n : ℕ). cond (both (ltb 0 (count whole)) (is_first255 file (n + count whole - 1)))
            (pos (256 * word_byte file (n + count whole - 1) 2 + word_byte file (n + count whole - 1) 3)) (negsuc 0)) (sym start)
            ∙ left_at g.left refl s
