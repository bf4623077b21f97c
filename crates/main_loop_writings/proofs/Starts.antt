-- Where a character's program starts in a written file: its packed entry, which is inside and stands for the font's own entry, moved by the offset; and no
-- other character has one.
-- Assumes nothing.
use mathlib.Core.Path.{◌≡◌, refl, sym, ap, ◌∙◌}
use mathlib.Core.Bool.{Bool, true, false, cond}
use mathlib.Core.List.{List, [], ◌∷◌}
use Prim.Native.Nat.{ℕ, zero, suc, ◌+◌, ◌-◌, ◌/◌, ◌<◌, ◌≤◌}
use native.Mathlib.Omega.{arith}
use lib.IntN.{ℤ, pos, negsuc}
use lib.Dec.{leb, ltb}
use lib.ListN.{length, get_or, replicate, length-replicate}
use lib.Signed.{non_neg}
use borrow.Author.Tests.{leb-true, leb-false, ltb-true}
use Rattle.words.specs.Words.{word_of}
use Rattle.words.proofs.Lists.{length_tabulate}
use Rattle.lang.specs.Every.{both}
use Rattle.lang.specs.Records.{count, is_kind}
use Rattle.lang.specs.Checks.{unless, or_else, char_at, entry_at, program_refusal, range_refusal, passthrough_refusal}
use Rattle.lang.specs.Answers.{Reply, reply_of, room_refusal}
use Rattle.lang.specs.Entries.{entered}
use Rattle.lang.proofs.Refusals.{or_else_none}
use Rattle.entry_targets.specs.Targets.{target_at, stands_for, entry_refusal}
use Rattle.entry_unpack.specs.Unpacking.{unpack_refusal, unpack_entry}
use Rattle.pack.specs.Packing.{font_offset, packed_entries, packed_entry_number}
use Rattle.pack.specs.Purpose.{old_entry}
use Rattle.files.specs.declared.FileLengths.{FileLengths}
use Rattle.files.specs.Lengths.{lengths_of, char_start}
use Rattle.files.specs.Commands.{word_byte, is_lig_tagged}
use Rattle.files.specs.Writing.{Writable, shared_font, written_kerns, written_instructions, written_table, written_lengths}
use Rattle.files.specs.Purpose.{AreI32}
use Rattle.files.proofs.Lengths.{Fits, taken_fits}
use Rattle.files.proofs.Laid.{Laid}
use Rattle.files.proofs.Own.{within_pos}
use Rattle.files.proofs.Entries.{Absent, entered_none, table_is}
use Rattle.files.proofs.Chars.{char_read}
use Rattle.files.proofs.Taken.{WritesFile}
use Rattle.files.proofs.Table.{unpacks, table_at, table_holds}
use Rattle.main_loop_fonts.specs.Search.{has_program, lig_kern_start}

-- ---- an entry that unpacks

-- an answer that is taken: its number and its value
taken_by : (m : ℕ) (x y : ℤ) → reply_of m (x ∷ []) ≡ reply_of 0 (y ∷ []) → (m ≡ 0) × (x ≡ y)
taken_by zero x y e = (refl, ap (λ (r : Reply). get_or r.values 0 (pos 0)) e)
taken_by (suc m) x y e = absurd (let z : ◌≡◌ {A = ℕ} (suc m) 0 = ap (λ (r : Reply). r.number) e in omega arith)

pos_same : (m n : ℕ) → pos m ≡ pos n → m ≡ n
pos_same m n e = ap word_of e

entry_below : (b : Bool) (x : ℕ) → cond b x 8 ≡ 0 → b ≡ true
entry_below true x e = refl
entry_below false x e = absurd (omega arith)

unpacked_at : (s : List ℤ) (e : ℤ) (p : List ℕ) (room n : ℕ) → unpack_entry s e p room ≡ reply_of 0 (pos n ∷ []) →
    (word_of e < count s) × (stands_for s (word_of e) ≡ n)
unpacked_at s e p room n q =
    let v = taken_by (unpack_refusal s e p room) (pos (stands_for s (word_of e))) (pos n) q in
    let c = or_else (entry_refusal s (word_of e)) (room_refusal (length p) room) in
    let b = or_else (passthrough_refusal p s) c in
    let x = (or_else_none (program_refusal s) (or_else (range_refusal 255 e) b) v.0).1 in
    let y = (or_else_none (passthrough_refusal p s) c (or_else_none (range_refusal 255 e) b x).1).1 in
    let z = (or_else_none (entry_refusal s (word_of e)) (room_refusal (length p) room) y).0 in (
      ltb-true (word_of e) (count s)
          (entry_below (ltb (word_of e) (count s)) (cond (is_kind 3 s (word_of e)) (unless 9 (ltb (target_at s (word_of e)) (count s))) 0) z),
      pos_same (stands_for s (word_of e)) n v.1,
    )

-- ---- a character's word

second : (t : Bool) (x y : ℤ) → get_or (cond t (x ∷ y ∷ []) []) 1 (negsuc 0) ≡ cond t y (negsuc 0)
second true x y = refl
second false x y = refl

either_none : (t : Bool) (x y : ℤ) → t ≡ false → cond t x (negsuc 0) ≡ cond false y (negsuc 0)
either_none t x y e = rw e

-- an entry, or none
start_some : (t : Bool) (n m : ℕ) → cond t (pos n) (negsuc 0) ≡ pos m → (t ≡ true) × (n ≡ m)
start_some true n m e = (refl, pos_same n m e)
start_some false n m e = absurd (let z : false ≡ true = ap non_neg e in let y : ◌≡◌ {A = ℕ} 0 1 = cc in omega arith)

start_none : (t : Bool) (n : ℕ) → cond t (pos n) (negsuc 0) ≡ negsuc 0 → t ≡ false
start_none true n e = absurd (let z : true ≡ false = ap non_neg e in let y : ◌≡◌ {A = ℕ} 0 1 = cc in omega arith)
start_none false n e = refl

some_is : (z : ℤ) → non_neg z ≡ true → cond (non_neg z) z (negsuc 0) ≡ z
some_is z t = rw t

module _ (old file : List ℕ) (f : Writable) (v : WritesFile old f) (are : AreI32 f.instructions)
    (laid : Laid old file (lengths_of old) (written_instructions f) (written_kerns f) (written_table f) f.boundary)
    (lengths : lengths_of file ≡ written_lengths (lengths_of old) (count (written_instructions f)) (length (written_kerns f)))
  where
    abbrev l : FileLengths
    l = lengths_of old

    abbrev entry_of : ℕ → ℤ
    entry_of c = get_or (written_table f) c (negsuc 0)

    abbrev word_at : ℕ → ℕ
    word_at c = char_start l + (c - l.bc)

    fits : Fits (lengths_of old) (length old)
    fits = taken_fits old v.lengths

    abbrev program_by : Bool → Bool → ℕ → Bool
    program_by p q c = both p (both q (is_lig_tagged file (word_at c)))

    program_is : (c : ℕ) → has_program file c ≡ program_by (leb l.bc c) (leb c l.ec) c
    program_is c =
        ap (λ (m : FileLengths). both (leb m.bc c) (both (leb c m.ec) (is_lig_tagged file (char_start m + (c - m.bc))))) lengths

    start_is : (c : ℕ) → lig_kern_start file c ≡ word_byte file (word_at c) 3
    start_is c = ap (λ (m : FileLengths). word_byte file (char_start m + (c - m.bc)) 3) lengths

    -- a character that has a word
    word_read : (c : ℕ) → l.bc ≤ c → c ≤ l.ec → c < 256 →
        cond (is_lig_tagged file (word_at c)) (pos (word_byte file (word_at c) 3)) (negsuc 0) ≡ cond (non_neg (entry_of c)) (entry_of c) (negsuc 0)
    word_read c a b h =
        let q : l.bc + (c - l.bc) ≡ c = omega arith in
        let holds = table_holds old f v are c h in
        sym (second (is_lig_tagged file (word_at c)) (pos c) (pos (word_byte file (word_at c) 3)))
        ∙ ap (λ (es : List ℤ). get_or es 1 (negsuc 0))
        (char_read old file (word_at c) (word_at c) c (entry_of c) (λ t. (holds t).wide) (λ t. (holds t).byte)
        (λ j g. rw q at (laid.chars (c - l.bc) j (omega arith) g)))
        ∙ second (non_neg (entry_of c)) (pos c) (entry_of c)

    -- one that has none has no entry
    word_none : (c : ℕ) → c < 256 → (l.bc ≤ c → c ≤ l.ec → ⊥) → non_neg (entry_of c) ≡ false
    word_none c h g = by (non_neg (entry_of c)) refl
      where
        by : (t : Bool) → non_neg (entry_of c) ≡ t → t ≡ false
        by true t = absurd (g (table_holds old f v are c h t).from (table_holds old f v are c h t).to)
        by false t = refl

    read_by : (c : ℕ) → c < 256 → (p q : Bool) → leb l.bc c ≡ p → leb c l.ec ≡ q →
        cond (program_by p q c) (pos (word_byte file (word_at c) 3)) (negsuc 0) ≡ cond (non_neg (entry_of c)) (entry_of c) (negsuc 0)
    read_by c h true true e g = word_read c (leb-true l.bc c e) (leb-true c l.ec g) h
    read_by c h true false e g = rw (word_none c h (λ a b. omega (arith, b, leb-false c l.ec g)))
    read_by c h false q e g = rw (word_none c h (λ a b. omega (arith, a, leb-false l.bc c e)))

    start-read : (c : ℕ) → c < 256 →
        cond (has_program file c) (pos (lig_kern_start file c)) (negsuc 0) ≡ cond (non_neg (entry_of c)) (entry_of c) (negsuc 0)
    start-read c h = rw (program_is c, start_is c) (read_by c h (leb l.bc c) (leb c l.ec) refl refl)

    -- ---- a character with an entry

    pub record Starts (c i : ℕ) : Type 0 where
      pub has : has_program file c ≡ true
      pub inside : lig_kern_start file c < count (written_instructions f)
      pub stands : stands_for (written_instructions f) (lig_kern_start file c) ≡ old_entry (shared_font f) i + font_offset (shared_font f)

    pub starts : (c i : ℕ) → c < 256 → i < length f.entries / 2 → word_of (char_at f.entries i) ≡ c → Starts c i
    starts c i h g e =
        let u = unpacks old f v are i g in
        let z = entry_at (packed_entries (shared_font f)) i in
        let n = count (written_instructions f) in
        let p : List ℕ = replicate n 0 in
        let long : length p ≡ n = length-replicate {A = ℕ} n 0 in
        let is : entry_of c ≡ pos (word_of z) = table_at old f v are c i h g e ∙ within_pos 255 z u.byte in
        let s = start_some (has_program file c) (lig_kern_start file c) (word_of z) (start-read c h ∙ some_is (entry_of c) (ap non_neg is) ∙ is) in
        let r = unpacked_at (written_instructions f) z p n (old_entry (shared_font f) i + font_offset (shared_font f))
        (u.entry p n long (omega (arith, long))) in
        record {
          has = s.0;
          inside = omega (arith, s.1, r.0);
          stands = ap (stands_for (written_instructions f)) s.1 ∙ r.1;
        }

    -- ---- and without one

    table_none : (c : ℕ) → c < 256 → Absent f.entries (length f.entries / 2) c → entry_of c ≡ negsuc 0
    table_none c h a =
        let es = packed_entries (shared_font f) in
        let n : length es ≡ length f.entries = length_tabulate (length f.entries) (packed_entry_number (shared_font f)) in
        table_is es (negsuc 0) c h
        ∙ ap (λ (k : ℕ). get_or (entered es (k / 2)) c (negsuc 0)) n
        ∙ entered_none es (length f.entries / 2) c (omega arith) (λ i g e. a i g (sym (ap word_of (unpacks old f v are i g).char) ∙ e))

    pub starts_none : (c : ℕ) → c < 256 → Absent f.entries (length f.entries / 2) c → has_program file c ≡ false
    starts_none c h a =
        start_none (has_program file c) (lig_kern_start file c)
        (start-read c h ∙ ap (λ (z : ℤ). cond (non_neg z) z (negsuc 0)) (table_none c h a))
