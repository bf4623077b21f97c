-- What is known of a font that is written: every refusal in its row is 0.
-- Assumes nothing.
use mathlib.Core.Path.{◌≡◌, refl}
use mathlib.Core.Bool.{Bool, true, false}
use mathlib.Core.List.{List}
use Prim.Native.Nat.{ℕ, ◌*◌, ◌/◌, ◌<◌, ◌≤◌}
use native.Mathlib.Omega.{arith}
use lib.Dec.{leb}
use lib.ListN.{length}
use borrow.Author.Tests.{leb-true}
use Rattle.lang.specs.Every.{both, every}
use Rattle.lang.specs.Records.{count, absent_or}
use Rattle.lang.specs.Checks.{or_else, program_refusal, kerns_refusal, entries_refusal, absent_refusal}
use Rattle.lang.specs.Answers.{room_refusal}
use Rattle.lang.proofs.Every.{every_at}
use Rattle.lang.proofs.Refusals.{or_else_none, unless_none}
use Rattle.pack_labels.specs.Labels.{labels_of, largest}
use Rattle.pack.specs.Packing.{font_redirects, font_offset, redirect_refusal, shift_refusal, left_or}
use Rattle.files.specs.Lengths.{lengths_refusal}
use Rattle.files.specs.Writing.{Writable, shared_font, written_kerns, written_instructions, written_size, pack_font_refusal, writable_refusal, write_refusal}
use Rattle.files.specs.Writing.{is_writable, is_entry_writable, is_boundary_writable, is_left_writable}

-- ---- rows of refusals

none_of_four : (a b c d : ℕ) → or_else a (or_else b (or_else c d)) ≡ 0 → (a ≡ 0) × (b ≡ 0) × (c ≡ 0) × (d ≡ 0)
none_of_four a b c d e =
    let x = or_else_none a (or_else b (or_else c d)) e in
    let y = or_else_none b (or_else c d) x.1 in
    let z = or_else_none c d y.1 in
    (x.0, y.0, z.0, z.1)

none_of_seven : (a b c d e g h : ℕ) → or_else a (or_else b (or_else c (or_else d (or_else e (or_else g h))))) ≡ 0 →
    (a ≡ 0) × (b ≡ 0) × (c ≡ 0) × (d ≡ 0) × (e ≡ 0) × (g ≡ 0) × (h ≡ 0)
none_of_seven a b c d e g h n =
    let x = or_else_none a (or_else b (or_else c (or_else d (or_else e (or_else g h))))) n in
    let y = or_else_none b (or_else c (or_else d (or_else e (or_else g h)))) x.1 in
    let z = or_else_none c (or_else d (or_else e (or_else g h))) y.1 in
    let w = none_of_four d e g h z.1 in
    (x.0, y.0, z.0, w.0, w.1, w.2, w.3)

all_of_five : (a b c d e : Bool) → both a (both b (both c (both d e))) ≡ true → (a ≡ true) × (b ≡ true) × (c ≡ true) × (d ≡ true) × (e ≡ true)
all_of_five true true true true true t = (refl, refl, refl, refl, refl)
all_of_five true true true true false t = absurd (let z : ◌≡◌ {A = ℕ} 0 1 = cc in omega arith)
all_of_five true true true false e t = absurd (let z : ◌≡◌ {A = ℕ} 0 1 = cc in omega arith)
all_of_five true true false d e t = absurd (let z : ◌≡◌ {A = ℕ} 0 1 = cc in omega arith)
all_of_five true false c d e t = absurd (let z : ◌≡◌ {A = ℕ} 0 1 = cc in omega arith)
all_of_five false b c d e t = absurd (let z : ◌≡◌ {A = ℕ} 0 1 = cc in omega arith)

-- ---- a font that can be packed

pub record PacksFontOf (f : Writable) : Type 0 where
  pub program : program_refusal f.instructions ≡ 0
  pub kerns : kerns_refusal f.kerns ≡ 0
  pub entries : entries_refusal 65535 f.entries ≡ 0
  pub boundary : absent_or 255 f.boundary ≡ true
  pub left : absent_or 65535 f.left ≡ true
  pub redirects : redirect_refusal (font_redirects (shared_font f)) ≡ 0
  pub shifts : shift_refusal (largest (labels_of f.entries)) (left_or f.left) (font_offset (shared_font f)) ≡ 0

pub font_packs : (f : Writable) → pack_font_refusal f ≡ 0 → PacksFontOf f
font_packs f e =
    let r = none_of_seven (program_refusal f.instructions) (kerns_refusal f.kerns) (entries_refusal 65535 f.entries) (absent_refusal 255 f.boundary)
    (absent_refusal 65535 f.left) (redirect_refusal (font_redirects (shared_font f)))
    (shift_refusal (largest (labels_of f.entries)) (left_or f.left) (font_offset (shared_font f))) e in
    record {
      program = r.0;
      kerns = r.1;
      entries = r.2;
      boundary = unless_none 3 (absent_or 255 f.boundary) r.3;
      left = unless_none 3 (absent_or 65535 f.left) r.4;
      redirects = r.5;
      shifts = r.6;
    }

-- ---- a font that can be written, as n words of the lig/kern section and k kerns

pub record WritesFont (old : List ℕ) (f : Writable) (n k : ℕ) : Type 0 where
  pub bounded : is_boundary_writable f.boundary (count f.instructions) ≡ true
  pub instructions : (i : ℕ) → i < count f.instructions → is_writable f.instructions f.kerns i ≡ true
  pub entries : (i : ℕ) → i < length f.entries / 2 → is_entry_writable old f.entries (count f.instructions) i ≡ true
  pub left : is_left_writable f.left (count f.instructions) ≡ true
  pub size : written_size old n k ≤ 32767

pub font_writes : (old : List ℕ) (f : Writable) (n k : ℕ) → writable_refusal old f n k ≡ 0 → WritesFont old f n k
font_writes old f n k e =
    let a = is_boundary_writable f.boundary (count f.instructions) in
    let b = every (count f.instructions) (is_writable f.instructions f.kerns) in
    let c = every (length f.entries / 2) (is_entry_writable old f.entries (count f.instructions)) in
    let d = is_left_writable f.left (count f.instructions) in
    let r = all_of_five a b c d (leb (written_size old n k) 32767) (unless_none 17 (both a (both b (both c (both d (leb (written_size old n k) 32767))))) e) in
    record {
      bounded = r.0;
      instructions = λ i h. every_at (count f.instructions) i (is_writable f.instructions f.kerns) r.1 h;
      entries = λ i h. every_at (length f.entries / 2) i (is_entry_writable old f.entries (count f.instructions)) r.2 h;
      left = r.3;
      size = leb-true (written_size old n k) 32767 r.4;
    }

-- ---- a font that is written into a file

pub record WritesFile (old : List ℕ) (f : Writable) : Type 0 where
  pub packs : PacksFontOf f
  pub lengths : lengths_refusal old ≡ 0
  pub writes : WritesFont old f (count (written_instructions f)) (length (written_kerns f))

written_by : (old : List ℕ) (f : Writable) (n k room : ℕ) →
    or_else (pack_font_refusal f) (or_else (lengths_refusal old) (or_else (writable_refusal old f n k) (room_refusal (4 * written_size old n k) room))) ≡ 0 →
    PacksFontOf f × (lengths_refusal old ≡ 0) × WritesFont old f n k
written_by old f n k room e =
    let r = none_of_four (pack_font_refusal f) (lengths_refusal old) (writable_refusal old f n k) (room_refusal (4 * written_size old n k) room) e in
    (font_packs f r.0, r.1, font_writes old f n k r.2)

pub written : (old : List ℕ) (f : Writable) (room : ℕ) → write_refusal old f room ≡ 0 → WritesFile old f
written old f room e =
    let r = written_by old f (count (written_instructions f)) (length (written_kerns f)) room e in
    record { packs = r.0; lengths = r.1; writes = r.2 }
