-- Laws of a written file: what stands in it, by the words of its sections, and its lengths.
-- Assumes nothing.
use mathlib.Core.Path.{◌≡◌, ap, ◌∙◌}
use mathlib.Core.List.{List}
use Prim.Native.Nat.{ℕ, ◌+◌, ◌*◌, ◌/◌, ◌%◌, ◌<◌, ◌≤◌}
use native.Mathlib.Omega.{arith}
use lib.IntN.{ℤ}
use lib.ListN.{length, get_or, drop, length-drop}
use Rattle.lang.specs.Records.{count}
use Rattle.files.specs.declared.FileLengths.{FileLengths}
use Rattle.files.specs.Lengths.{file_half, lengths_of, char_count, char_start, command_start, recipe_start, file_end}
use Rattle.files.specs.Commands.{word_byte}
use Rattle.files.specs.Sections.{section_bytes, half_bytes, kern_byte, command_byte}
use Rattle.files.specs.Writing.{written_lengths}
use Rattle.files.proofs.Parts.{Stands, stands_same, length_bytes, length_section, section_at}
use Rattle.files.specs.Writing.{written_front, written_char, old_dimensions, joined_file}
use Rattle.files.proofs.Joined.{Six, six}
use Rattle.files.proofs.Joined.{front_long, front_size, front_old, front_words, front_kerns, front_header}

-- the bytes of a are those of b from one place up to another
pub record Same (a b : List ℕ) (from to : ℕ) : Type 0 where
  pub at : (i : ℕ) → from ≤ i → i < to → get_or a i 0 ≡ get_or b i 0

-- what stands in a file that is written over an old one, whose lengths are l
pub record Laid (old file : List ℕ) (l : FileLengths) (s kerns table : List ℤ) (boundary : ℤ) : Type 0 where
  pub long : length file ≡ 4 * (written_lengths l (count s) (length kerns)).lf
  pub size : Stands file 0 (half_bytes (written_lengths l (count s) (length kerns)).lf)
  pub same_front : Same file old 2 16
  pub word_count : Stands file 16 (half_bytes (count s))
  pub kern_count_lem : Stands file 18 (half_bytes (length kerns))
  pub same_header : Same file old 20 (4 * char_start l)
  pub chars : (i j : ℕ) → i < char_count l → j < 4 → word_byte file (char_start l + i) j ≡ written_char old l table i j
  pub same_dimensions : Same file old (4 * (char_start l + char_count l)) (4 * command_start l)
  pub words : (i j : ℕ) → i < count s → j < 4 → word_byte file (command_start l + i) j ≡ command_byte s boundary i j
  pub kern_words : (i j : ℕ) → i < length kerns → j < 4 → word_byte file (command_start l + count s + i) j ≡ kern_byte kerns i j
  pub recipes : drop (4 * (command_start l + count s + length kerns)) file ≡ drop (4 * recipe_start l) old

module _ (old : List ℕ) (l : FileLengths) (s kerns table : List ℤ) (boundary : ℤ) (long : length old ≡ 4 * file_end l) where
  pieces :
      Six (written_front old l (count s) (length kerns)) (section_bytes (char_count l) (written_char old l table)) (old_dimensions old l)
      (section_bytes (count s) (command_byte s boundary)) (section_bytes (length kerns) (kern_byte kerns)) (drop (4 * recipe_start l) old)
      (4 * char_start l) (4 * (char_start l + char_count l)) (4 * command_start l) (4 * (command_start l + count s)) (4 * (command_start l + count s + length kerns))
  pieces =
      six (written_front old l (count s) (length kerns)) (section_bytes (char_count l) (written_char old l table)) (old_dimensions old l)
      (section_bytes (count s) (command_byte s boundary)) (section_bytes (length kerns) (kern_byte kerns)) (drop (4 * recipe_start l) old)
      (4 * char_start l) (4 * (char_start l + char_count l)) (4 * command_start l) (4 * (command_start l + count s)) (4 * (command_start l + count s + length kerns))
      (front_long old l (count s) (length kerns) long)
      (omega (arith, length_section (char_count l) (written_char old l table)))
      (omega (arith, length_bytes old (4 * (char_start l + char_count l)) (4 * command_start l) (omega arith)))
      (omega (arith, length_section (count s) (command_byte s boundary)))
      (omega (arith, length_section (length kerns) (kern_byte kerns)))

  pub joined_laid : Laid old (joined_file old l s kerns table boundary) l s kerns table boundary
  joined_laid =
      record {
        long = pieces.long ∙ omega (arith, length-drop (4 * recipe_start l) old);
        size = pieces.first (front_size old l (count s) (length kerns) long);
        same_front = record { at = stands_same old 2 16 (pieces.first (front_old old l (count s) (length kerns) long)) (omega arith) };
        word_count = pieces.first (front_words old l (count s) (length kerns) long);
        kern_count_lem = pieces.first (front_kerns old l (count s) (length kerns) long);
        same_header = record { at = stands_same old 20 (4 * char_start l) (pieces.first (front_header old l (count s) (length kerns) long)) (omega arith) };
        chars = section_at (char_count l) (written_char old l table) (char_start l) pieces.second;
        same_dimensions = record { at = stands_same old (4 * (char_start l + char_count l)) (4 * command_start l) pieces.third (omega arith) };
        words = section_at (count s) (command_byte s boundary) (command_start l) pieces.fourth;
        kern_words = section_at (length kerns) (kern_byte kerns) (command_start l + count s) pieces.fifth;
        recipes = pieces.last;
      }

-- ---- its lengths

half_is : (n : ℕ) → n ≤ 65535 → 256 * (n / 256 % 256) + n % 256 ≡ n
half_is n h = omega arith

-- the number of two bytes that stands in a list
pub half_at : {xs : List ℕ} (i n : ℕ) → Stands xs (2 * i) (half_bytes n) → n ≤ 65535 → file_half xs i ≡ n
half_at {xs} i n s h =
    let a : get_or xs (2 * i) 0 ≡ n / 256 % 256 = ap (λ (k : ℕ). get_or xs k 0) (omega arith) ∙ s.at 0 (omega arith) in
    let b : get_or xs (2 * i + 1) 0 ≡ n % 256 = s.at 1 (omega arith) in
    rw (a, b) (half_is n h)

pub half_same : {xs ys : List ℕ} {from to : ℕ} → Same xs ys from to → (i : ℕ) → from ≤ 2 * i → 2 * i + 1 < to → file_half xs i ≡ file_half ys i
half_same s i h g = rw (s.at (2 * i) h (omega arith), s.at (2 * i + 1) (omega arith) g)

lengths_same : {a0 b0 a1 b1 a2 b2 a3 b3 a4 b4 a5 b5 a6 b6 a7 b7 a8 b8 a9 b9 a10 b10 a11 b11 : ℕ} → a0 ≡ b0 → a1 ≡ b1 → a2 ≡ b2 → a3 ≡ b3 → a4 ≡ b4 → a5 ≡ b5 →
    a6 ≡ b6 → a7 ≡ b7 → a8 ≡ b8 → a9 ≡ b9 → a10 ≡ b10 → a11 ≡ b11 →
    ◌≡◌ {A = FileLengths}
    (record {
      lf = a0;
      lh = a1;
      bc = a2;
      ec = a3;
      nw = a4;
      nh = a5;
      nd = a6;
      ni = a7;
      nl = a8;
      nk = a9;
      ne = a10;
      np = a11;
    })
    (record {
      lf = b0;
      lh = b1;
      bc = b2;
      ec = b3;
      nw = b4;
      nh = b5;
      nd = b6;
      ni = b7;
      nl = b8;
      nk = b9;
      ne = b10;
      np = b11;
    })
lengths_same e0 e1 e2 e3 e4 e5 e6 e7 e8 e9 e10 e11 = rw (e0, e1, e2, e3, e4, e5, e6, e7, e8, e9, e10, e11)

-- lengths of the old file, but for three
pub laid_lengths : {old file : List ℕ} {s kerns table : List ℤ} {boundary : ℤ} → Laid old file (lengths_of old) s kerns table boundary →
    (written_lengths (lengths_of old) (count s) (length kerns)).lf ≤ 32767 → lengths_of file ≡ written_lengths (lengths_of old) (count s) (length kerns)
laid_lengths {old} {file} {s} {kerns} v h =
    lengths_same
    (half_at 0 (written_lengths (lengths_of old) (count s) (length kerns)).lf v.size (omega arith))
    (half_same v.same_front 1 (omega arith) (omega arith))
    (half_same v.same_front 2 (omega arith) (omega arith))
    (half_same v.same_front 3 (omega arith) (omega arith))
    (half_same v.same_front 4 (omega arith) (omega arith))
    (half_same v.same_front 5 (omega arith) (omega arith))
    (half_same v.same_front 6 (omega arith) (omega arith))
    (half_same v.same_front 7 (omega arith) (omega arith))
    (half_at 8 (count s) v.word_count (omega arith))
    (half_at 9 (length kerns) v.kern_count_lem (omega arith))
    (half_same v.same_header 10 (omega arith) (omega arith))
    (half_same v.same_header 11 (omega arith) (omega arith))
