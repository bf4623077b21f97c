-- A file that is written into a list of bytes is one.
-- Assumes nothing.
use mathlib.Core.Path.{◌≡◌, refl, sym, ap, ◌∙◌}
use mathlib.Core.Bool.{Bool, true, false, cond}
use mathlib.Core.List.{List, ◌++◌}
use Prim.Native.Nat.{ℕ, zero, suc, ◌+◌, ◌-◌, ◌*◌, ◌/◌, ◌%◌, ◌<◌, ◌≤◌}
use native.Mathlib.Omega.{arith}
use lib.IntN.{ℤ, negsuc}
use lib.Dec.{ltb, eqb}
use lib.ListN.{length, get_or, take, drop, length-take, get_or-append, get_or-eq_default}
use lib.Seq.{get_or-append-add, get_or-take, get_or-drop}
use lib.Signed.{non_neg}
use borrow.Author.Tests.{ltb-true, ltb-false}
use Rattle.words.specs.Words.{word_of}
use Rattle.words.specs.Lists.{tabulate}
use Rattle.words.proofs.Lists.{length_tabulate, get_d_tabulate}
use Rattle.lang.specs.Records.{count, field, is_kind}
use Rattle.files.specs.Lengths.{char_count, char_start, command_start, recipe_start}
use Rattle.files.specs.Commands.{word_byte}
use Rattle.files.specs.Sections.{file_bytes, section_bytes, half_bytes, kern_byte, command_byte, char_byte}
use Rattle.files.specs.declared.FileLengths.{FileLengths}
use Rattle.files.specs.Writing.{written_lengths, written_front, written_char, joined_file}
use Rattle.file_fonts.specs.Purpose.{AreBytes}

-- ---- lists of bytes

record Bytes (xs : List ℕ) : Type 0 where
  at : AreBytes xs

append_at : (xs ys : List ℕ) → AreBytes xs → AreBytes ys → AreBytes (xs ++ ys)
append_at xs ys p q i = by (ltb i (length xs)) refl
  where
    by : (t : Bool) → ltb i (length xs) ≡ t → get_or (xs ++ ys) i 0 < 256
    by true t = rw (get_or-append xs ys 0 i (ltb-true i (length xs) t)) (p i)
    by false t =
        let e : length xs + (i - length xs) ≡ i = omega (arith, ltb-false i (length xs) t) in
        let g : get_or (xs ++ ys) i 0 ≡ get_or ys (i - length xs) 0 = ap (λ (n : ℕ). get_or (xs ++ ys) n 0) (sym e) ∙ get_or-append-add xs ys (i - length xs) 0 in
        omega (arith, g, q (i - length xs))

append : {xs ys : List ℕ} → Bytes xs → Bytes ys → Bytes (xs ++ ys)
append {xs} {ys} p q = record { at = append_at xs ys p.at q.at }

bytes_past : (xs : List ℕ) (i : ℕ) → length xs ≤ i → get_or xs i 0 < 256
bytes_past xs i h = omega (arith, get_or-eq_default xs 0 {n = i} h)

bytes_drop : (n : ℕ) (xs : List ℕ) → AreBytes xs → AreBytes (drop n xs)
bytes_drop n xs p i = omega (arith, get_or-drop n xs i 0, p (n + i))

bytes_take : (n : ℕ) (xs : List ℕ) → AreBytes xs → AreBytes (take n xs)
bytes_take n xs p i = by (ltb i n) refl
  where
    by : (t : Bool) → ltb i n ≡ t → get_or (take n xs) i 0 < 256
    by true t = omega (arith, get_or-take n xs i 0 (ltb-true i n t), p i)
    by false t = bytes_past (take n xs) i (omega (arith, length-take n xs, ltb-false i n t))

bytes_tabulate : (n : ℕ) (f : ℕ → ℕ) → ((j : ℕ) → f j < 256) → AreBytes (tabulate n f)
bytes_tabulate n f p i = by (ltb i n) refl
  where
    by : (t : Bool) → ltb i n ≡ t → get_or (tabulate n f) i 0 < 256
    by true t = omega (arith, get_d_tabulate n f i 0 (ltb-true i n t), p i)
    by false t = bytes_past (tabulate n f) i (omega (arith, length_tabulate n f, ltb-false i n t))

bytes_section : (n : ℕ) (f : ℕ → ℕ → ℕ) → ((i j : ℕ) → f i j < 256) → AreBytes (section_bytes n f)
bytes_section n f p = bytes_tabulate (4 * n) (λ j. f (j / 4) (j % 4)) (λ j. p (j / 4) (j % 4))

bytes_half : (n : ℕ) → AreBytes (half_bytes n)
bytes_half n zero = omega arith
bytes_half n (suc zero) = omega arith
bytes_half n (suc (suc i)) = omega arith

-- ---- one byte

either : (b : Bool) (x y : ℕ) → x < 256 → y < 256 → cond b x y < 256
either true x y p q = p
either false x y p q = q

kern_byte_lem : (kerns : List ℤ) (i j : ℕ) → kern_byte kerns i j < 256
kern_byte_lem kerns i zero = omega arith
kern_byte_lem kerns i (suc zero) = omega arith
kern_byte_lem kerns i (suc (suc zero)) = omega arith
kern_byte_lem kerns i (suc (suc (suc j))) = omega arith

half_lt : (b : Bool) (w : ℕ) → cond b (32768 + w % 32768) (w % 65536) < 65536
half_lt true w = omega arith
half_lt false w = omega arith

command_byte_lem : (s : List ℤ) (boundary : ℤ) (i j : ℕ) → command_byte s boundary i j < 256
command_byte_lem s boundary i zero =
    either (is_kind 3 s i) (cond (non_neg boundary) 255 (cond (eqb (suc i) (count s)) 255 254)) (cond (non_neg (field s i 0)) (word_of (field s i 0) % 256) 128)
    (either (non_neg boundary) 255 (cond (eqb (suc i) (count s)) 255 254) (omega arith) (either (eqb (suc i) (count s)) 255 254 (omega arith) (omega arith)))
    (either (non_neg (field s i 0)) (word_of (field s i 0) % 256) 128 (omega arith) (omega arith))
command_byte_lem s boundary i (suc zero) = omega arith
command_byte_lem s boundary i (suc (suc zero)) = omega (arith, half_lt (is_kind 1 s i) (word_of (field s i 3)))
command_byte_lem s boundary i (suc (suc (suc j))) = omega arith

char_byte_lem : (old : List ℕ) → AreBytes old → (entry : ℤ) (w j : ℕ) → char_byte old entry w j < 256
char_byte_lem old p entry w zero = p (4 * w + 0)
char_byte_lem old p entry w (suc zero) = p (4 * w + 1)
char_byte_lem old p entry w (suc (suc zero)) =
    let l = p (4 * w + 2) in
    let x = word_byte old w 2 in
    either (non_neg entry) (4 * (x / 4) + 1) (cond (eqb (x % 4) 1) (4 * (x / 4)) x) (omega arith)
    (either (eqb (x % 4) 1) (4 * (x / 4)) x (omega arith) l)
char_byte_lem old p entry w (suc (suc (suc j))) =
    let x = word_byte old w 2 in
    either (non_neg entry) (word_of entry % 256) (cond (eqb (x % 4) 1) 0 (word_byte old w 3)) (omega arith)
    (either (eqb (x % 4) 1) 0 (word_byte old w 3) (omega arith) (p (4 * w + 3)))

-- ---- the file

module _ (old : List ℕ) (p : AreBytes old) (l : FileLengths) where
  piece : (a e : ℕ) → Bytes (file_bytes old a e)
  piece a e = record { at = bytes_take (e - a) (drop a old) (bytes_drop a old p) }

  half : (n : ℕ) → Bytes (half_bytes n)
  half n = record { at = bytes_half n }

  section : (n : ℕ) (f : ℕ → ℕ → ℕ) → ((i j : ℕ) → f i j < 256) → Bytes (section_bytes n f)
  section n f h = record { at = bytes_section n f h }

  front : (n k : ℕ) → Bytes (written_front old l n k)
  front n k =
      append (append (append (append (half (written_lengths l n k).lf) (piece 2 16)) (half n)) (half k)) (piece 20 (4 * char_start l))

  joined : (s kerns table : List ℤ) (boundary : ℤ) → Bytes (joined_file old l s kerns table boundary)
  joined s kerns table boundary =
      append
      (append
      (append
      (append
      (append (front (count s) (length kerns))
      (section (char_count l) (written_char old l table) (λ i j. char_byte_lem old p (get_or table (l.bc + i) (negsuc 0)) (char_start l + i) j)))
      (piece (4 * (char_start l + char_count l)) (4 * command_start l)))
      (section (count s) (command_byte s boundary) (command_byte_lem s boundary)))
      (section (length kerns) (kern_byte kerns) (kern_byte_lem kerns)))
      (record { at = bytes_drop (4 * recipe_start l) old p })

  pub bytes_joined : (s kerns table : List ℤ) (boundary : ℤ) → AreBytes (joined_file old l s kerns table boundary)
  bytes_joined s kerns table boundary = (joined s kerns table boundary).at
