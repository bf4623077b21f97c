-- Laws of the kerns of a written file: each is an i32, and is read again from its four bytes.
-- Assumes nothing.
use mathlib.Core.Path.{◌≡◌, refl, ap, ◌∙◌}
use mathlib.Core.Bool.{Bool, true, false, cond}
use mathlib.Core.List.{List, [], ◌∷◌, ◌++◌}
use Prim.Native.Nat.{ℕ, zero, suc, ◌+◌, ◌*◌, ◌/◌, ◌%◌, ◌<◌, ◌≤◌}
use native.Mathlib.Omega.{arith}
use lib.IntN.{ℤ, pos}
use lib.Dec.{ltb, eqb}
use lib.ListN.{length, get_or, get_or-eq_default}
use mir.Syntax.{w32}
use mir.Val.{SFits}
use borrow.Author.Tests.{ltb-true, ltb-false, eqb-true, eqb-false}
use Rattle.words.specs.Words.{word_of}
use Rattle.words.specs.Lists.{tabulate}
use Rattle.words.proofs.Bits.{number_word, word_lt}
use Rattle.words.proofs.Lists.{length_tabulate, get_d_tabulate, tabulate_ext}
use Rattle.lang.specs.Records.{count, field, is_kind}
use Rattle.program_kerns.specs.Kerns.{changed, kern_at, packed, kern_place, values, kerns_of}
use Rattle.program_kerns.proofs.Places.{snoc_at, snoc_end, snoc_length}
use Rattle.pack.proofs.Packing.{tabulate_get_d}
use Rattle.files.specs.declared.FileLengths.{FileLengths}
use Rattle.files.specs.Lengths.{lengths_of, command_start, kern_start}
use Rattle.files.specs.Commands.{word_byte, kern_number}
use Rattle.files.specs.Reading.{file_kerns}
use Rattle.files.specs.Sections.{kern_byte}
use Rattle.files.specs.Writing.{written_lengths}
use Rattle.files.specs.Purpose.{AreI32}

-- ---- every kern is an i32

fits_zero : SFits w32 (pos 0)
fits_zero = record { sfits = omega arith }

fits_either : (b : Bool) (x y : ℤ) → SFits w32 x → SFits w32 y → SFits w32 (cond b x y)
fits_either true x y p q = p
fits_either false x y p q = q

pub fits_field : (s : List ℤ) → AreI32 s → (i m : ℕ) → SFits w32 (field s i m)
fits_field s h i m = fits_either (ltb i (count s)) (get_or s (4 * i + m) (pos 0)) (pos 0) (h (4 * i + m)) fits_zero

fits_snoc : (ks : List ℤ) (v : ℤ) → AreI32 ks → SFits w32 v → AreI32 (ks ++ (v ∷ []))
fits_snoc ks v h f j = by (ltb j (length ks)) refl (eqb j (length ks)) refl
  where
    by : (b : Bool) → ltb j (length ks) ≡ b → (q : Bool) → eqb j (length ks) ≡ q → SFits w32 (get_or (ks ++ (v ∷ [])) j (pos 0))
    by true t q g = rw (snoc_at ks v j (ltb-true j (length ks) t)) (h j)
    by false t true g = rw (eqb-true j (length ks) g, snoc_end ks v) f
    by false t false g =
        let d : j ≡ length ks → ⊥ = eqb-false j (length ks) g in
        let l : length (ks ++ (v ∷ [])) ≤ j = omega (arith, snoc_length ks v, ltb-false j (length ks) t) in
        rw (get_or-eq_default (ks ++ (v ∷ [])) (pos 0) {n = j} l) fits_zero

fits_shared : (ks : List ℤ) (v : ℤ) (b c : Bool) → AreI32 ks → SFits w32 v → AreI32 (cond b (cond c (ks ++ (v ∷ [])) ks) ks)
fits_shared ks v true true h f = fits_snoc ks v h f
fits_shared ks v true false h f = h
fits_shared ks v false c h f = h

fits_values : (s : List ℤ) → AreI32 s → (n : ℕ) → AreI32 (values s n)
unfolding values
fits_values s h zero = λ j. fits_zero
fits_values s h (suc n) =
    fits_shared (values s n) (field s n 3) (is_kind 0 s n) (eqb (kern_place (field s n 3) (values s n)) (length (values s n))) (fits_values s h n)
    (fits_field s h n 3)

fits_tabulate : (n : ℕ) (f : ℕ → ℤ) → ((j : ℕ) → SFits w32 (f j)) → AreI32 (tabulate n f)
fits_tabulate n f h j = by (ltb j n) refl
  where
    by : (b : Bool) → ltb j n ≡ b → SFits w32 (get_or (tabulate n f) j (pos 0))
    by true t = rw (get_d_tabulate n f j (pos 0) (ltb-true j n t)) (h j)
    by false t =
        let l : length (tabulate n f) ≤ j = omega (arith, length_tabulate n f, ltb-false j n t) in
        rw (get_or-eq_default (tabulate n f) (pos 0) {n = j} l) fits_zero

fits_packed : (s kerns : List ℤ) → AreI32 s → AreI32 kerns → AreI32 (packed s kerns)
fits_packed s kerns h g =
    fits_tabulate (length s) (changed s (is_kind 1 s) (pos 0) (kern_at s kerns))
    (λ j. let x : ℤ = get_or s j (pos 0) in
    fits_either (is_kind 1 s (j / 4)) (cond (eqb (j % 4) 2) (pos 0) (cond (eqb (j % 4) 3) (kern_at s kerns (j / 4)) x)) x
    (fits_either (eqb (j % 4) 2) (pos 0) (cond (eqb (j % 4) 3) (kern_at s kerns (j / 4)) x) fits_zero
    (fits_either (eqb (j % 4) 3) (kern_at s kerns (j / 4)) x (g (word_of (field s (j / 4) 3))) (h j)))
    (h j))

pub fits_kerns : (s kerns : List ℤ) → AreI32 s → AreI32 kerns → AreI32 (kerns_of (packed s kerns))
fits_kerns s kerns h g = fits_values (packed s kerns) (fits_packed s kerns h g) (count (packed s kerns))

-- ---- four bytes of a word

bytes_join : (w : ℕ) → w < 4294967296 → 16777216 * (w / 16777216 % 256) + 65536 * (w / 65536 % 256) + 256 * (w / 256 % 256) + w % 256 ≡ w
bytes_join w h =
    let a : w / 65536 ≡ w / 256 / 256 = omega arith in
    let b : w / 16777216 ≡ w / 65536 / 256 = omega arith in
    let c : 256 * (w / 256) + w % 256 ≡ w = omega arith in
    let d : 256 * (w / 256 / 256) + w / 256 % 256 ≡ w / 256 = omega arith in
    let e : 256 * (w / 65536 / 256) + w / 65536 % 256 ≡ w / 65536 = omega arith in
    let g : w / 16777216 % 256 ≡ w / 16777216 = omega arith in
    omega arith

kern_at_lem : (file : List ℕ) (kerns : List ℤ) (w i : ℕ) → AreI32 kerns → ((j : ℕ) → j < 4 → word_byte file w j ≡ kern_byte kerns i j) →
    kern_number file w ≡ get_or kerns i (pos 0)
kern_at_lem file kerns w i f h =
    rw (
      h 0 (omega arith),
      h 1 (omega arith),
      h 2 (omega arith),
      h 3 (omega arith),
      bytes_join (word_of (get_or kerns i (pos 0))) (word_lt (get_or kerns i (pos 0)) (f i)),
    )
    (number_word (get_or kerns i (pos 0)) (f i))

-- ---- all of them

-- a file whose kerns begin at word w
pub kerns_from : (file : List ℕ) (kerns : List ℤ) (w : ℕ) → AreI32 kerns →
    ((i j : ℕ) → i < length kerns → j < 4 → word_byte file (w + i) j ≡ kern_byte kerns i j) →
    tabulate (length kerns) (λ i. kern_number file (w + i)) ≡ kerns
kerns_from file kerns w f h =
    tabulate_ext (length kerns) (λ i. kern_number file (w + i)) (λ i. get_or kerns i (pos 0)) (λ i l. kern_at_lem file kerns (w + i) i f (λ j. h i j l))
    ∙ tabulate_get_d kerns (pos 0)

pub kerns_read : (file : List ℕ) (l : FileLengths) (n : ℕ) (kerns : List ℤ) → lengths_of file ≡ written_lengths l n (length kerns) → AreI32 kerns →
    ((i j : ℕ) → i < length kerns → j < 4 → word_byte file (command_start l + n + i) j ≡ kern_byte kerns i j) → file_kerns file ≡ kerns
kerns_read file l n kerns e f h =
    ap (λ (m : FileLengths). tabulate m.nk (λ i. kern_number file (kern_start m + i))) e ∙ kerns_from file kerns (command_start l + n) f h
