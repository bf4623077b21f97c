-- Laws of a part that is lent from a place on: what is written into its front is a run of stores there in the whole.
-- Assumes nothing.
use mathlib.Core.Path.{◌≡◌, sym, ap, ◌∙◌}
use mathlib.Core.List.{List, [], ◌++◌, append_assoc, append-nil}
use Prim.Native.Nat.{ℕ, ◌+◌, ◌-◌, ◌*◌, ◌/◌, ◌≤◌, min}
use native.Mathlib.Omega.{arith}
use lib.IntN.{ℤ}
use lib.ListN.{length, take, drop, length-append, length-drop, drop_of_length-le}
use lib.Seq.{sets, sets-eq, drop-drop, take-length, take_all}
use borrow.Rule.Slice.PartMut.{mid_of, post_of, put_mid, mid_len, Post-is}
use Rattle.words.proofs.Lists.{sets_append}
use Rattle.lang.specs.Records.{count}
use Rattle.files.specs.declared.FileLengths.{FileLengths}
use Rattle.files.specs.Lengths.{char_count, char_start, command_start, recipe_start, file_end}
use Rattle.files.specs.Sections.{section_bytes, words_in_front, bytes_in_front, kern_byte, command_byte}
use Rattle.files.proofs.Parts.{length_section, length_bytes}
use Rattle.files.specs.Writing.{written_front, written_char, old_dimensions, joined_file}
use Rattle.files.proofs.Joined.{front_long}

-- the part from a place on, to the end
mid_is : (a : ℕ) (out : List ℕ) → mid_of a (length out - a) out ≡ drop a out
mid_is a out = ap (λ (k : ℕ). take k (drop a out)) (sym (length-drop a out)) ∙ take-length (drop a out)

mid_long : (a : ℕ) (out : List ℕ) → length (mid_of a (length out - a) out) ≡ length out - a
mid_long a out = mid_len a (length out) out (omega arith)

-- nothing comes after it
post_none : (a : ℕ) (out : List ℕ) → a ≤ length out → post_of a (length out - a) out ≡ []
post_none a out h = Post-is a (length out) out h ∙ drop_of_length-le out {i = length out} (omega arith)

part_front_lem : (a : ℕ) (out ys vs : List ℕ) → a + length vs ≤ length out → ys ≡ vs ++ drop (length vs) (mid_of a (length out - a) out) →
    put_mid a (length out - a) out ys ≡ sets out a vs
part_front_lem a out ys vs h e =
    rw (e, post_none a out (omega arith), mid_is a out, append-nil)
    (ap (λ (t : List ℕ). take a out ++ (vs ++ t)) (drop-drop (length vs) a out) ∙ sym (append_assoc (take a out) vs (drop (a + length vs) out))
    ∙ sym (sets-eq vs out a h))

-- words
pub words_part : (a n : ℕ) (f : ℕ → ℕ → ℕ) (out ys : List ℕ) → a + 4 * n ≤ length out → ys ≡ words_in_front n f (mid_of a (length out - a) out) →
    put_mid a (length out - a) out ys ≡ sets out a (section_bytes n f)
words_part a n f out ys h e =
    part_front_lem a out ys (section_bytes n f) (omega (arith, length_section n f))
    (e ∙ rw (length_section n f)
    (ap (λ (m : ℕ). section_bytes m f ++ drop (4 * m) (mid_of a (length out - a) out))
    (let q : min n (length (mid_of a (length out - a) out) / 4) ≡ n = rw (mid_long a out) (omega arith) in q)))

-- bytes
pub bytes_part : (a : ℕ) (bytes out ys : List ℕ) → a + length bytes ≤ length out → ys ≡ bytes_in_front bytes (mid_of a (length out - a) out) →
    put_mid a (length out - a) out ys ≡ sets out a bytes
bytes_part a bytes out ys h e =
    part_front_lem a out ys bytes h
    (e ∙ ap (λ (xs : List ℕ). xs ++ drop (length bytes) (mid_of a (length out - a) out))
    (take_all (length (mid_of a (length out - a) out)) bytes (omega (arith, mid_long a out))))

-- a run of stores, and one that goes on where it ended
pub runs_join : {e f : List ℕ} (d : List ℕ) (i j : ℕ) (xs ys : List ℕ) → e ≡ sets d i xs → f ≡ sets e j ys → i + length xs ≡ j → f ≡ sets d i (xs ++ ys)
runs_join d i j xs ys x y h = y ∙ (λ k. sets (x k) (sym h k) ys) ∙ sym (sets_append xs ys d i)

-- ---- a whole file

-- three runs, the front, the characters with the dimensions, and the rest, are the file
joined_lists : (F C D W K R : List ℕ) → F ++ (C ++ D) ++ (W ++ K ++ R) ≡ F ++ C ++ D ++ W ++ K ++ R
joined_lists F C D W K R = simp append_assoc

pub runs_file : {d₁ d₂ d₃ : List ℕ} (d old : List ℕ) (l : FileLengths) (s kerns table : List ℤ) (boundary : ℤ) → length old ≡ 4 * file_end l →
    d₁ ≡ sets d 0 (written_front old l (count s) (length kerns)) →
    d₂ ≡ sets d₁ (4 * char_start l) (section_bytes (char_count l) (written_char old l table) ++ old_dimensions old l) →
    d₃ ≡ sets d₂ (4 * command_start l)
    (section_bytes (count s) (command_byte s boundary) ++ section_bytes (length kerns) (kern_byte kerns) ++ drop (4 * recipe_start l) old) →
    d₃ ≡ sets d 0 (joined_file old l s kerns table boundary)
runs_file d old l s kerns table boundary h x y z =
    let F = written_front old l (count s) (length kerns) in
    let C = section_bytes (char_count l) (written_char old l table) in
    let D = old_dimensions old l in
    let W = section_bytes (count s) (command_byte s boundary) in
    let K = section_bytes (length kerns) (kern_byte kerns) in
    let R = drop (4 * recipe_start l) old in
    let f : length F ≡ 4 * char_start l = front_long old l (count s) (length kerns) h in
    let m : length (C ++ D) ≡ 4 * (command_start l - char_start l) =
    length-append C D
    ∙ omega (arith, length_section (char_count l) (written_char old l table), length_bytes old (4 * (char_start l + char_count l)) (4 * command_start l) (omega (arith, h))) in
    let n : length (F ++ (C ++ D)) ≡ 4 * command_start l = length-append F (C ++ D) ∙ omega (arith, f, m) in
    runs_join d 0 (4 * command_start l) (F ++ (C ++ D)) (W ++ K ++ R) (runs_join d 0 (4 * char_start l) F (C ++ D) x y (omega (arith, f))) z (omega (arith, n))
    ∙ ap (λ (xs : List ℕ). sets d 0 xs) (joined_lists F C D W K R)
