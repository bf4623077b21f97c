-- Each instruction of a written file is one that TeX takes when it loads the file: those in front and at the end lead to instructions, and of the font's own
-- no next passes the end and no kern is past the kerns.
-- Assumes nothing.
use mathlib.Core.Path.{◌≡◌, refl, sym, ap, ◌∙◌}
use mathlib.Core.Bool.{Bool, true, false, cond}
use mathlib.Core.List.{List}
use Prim.Native.Nat.{ℕ, suc, ◌+◌, ◌-◌, ◌*◌, ◌/◌, ◌%◌, ◌<◌, ◌≤◌}
use native.Mathlib.Omega.{arith}
use lib.IntN.{ℤ, pos, negsuc}
use lib.Dec.{leb, ltb, eqb}
use lib.ListN.{length, get_or}
use lib.Signed.{non_neg}
use borrow.Author.Tests.{lt-ltb, le-leb, lt-leb, leb-true, ltb-true, ltb-false}
use Rattle.words.specs.Words.{word_of}
use Rattle.lang.specs.Every.{both, every}
use Rattle.lang.specs.Records.{count, field, is_kind, absent_or}
use Rattle.lang.proofs.Every.{every_at}
use Rattle.pack_labels.specs.Labels.{labels_of}
use Rattle.pack_labels.proofs.Redirects.{Under, none, next, labels_under, largest_le}
use Rattle.pack.specs.Packing.{left_or, font_redirects, font_offset}
use Rattle.files.specs.declared.FileLengths.{FileLengths}
use Rattle.files.specs.Lengths.{lengths_of, command_start}
use Rattle.files.specs.Commands.{word_byte}
use Rattle.files.specs.Sections.{last_half, command_byte}
use Rattle.files.specs.Writing.{Writable, shared_font, written_kerns, written_instructions, written_table, written_lengths}
use Rattle.files.specs.Purpose.{AreI32}
use Rattle.files.proofs.Laid.{Laid}
use Rattle.files.proofs.Shared.{shared_count, shared_first, shared_index}
use Rattle.files.proofs.Program.{Readable, redirects, kerns, ligates, first_of, next_byte, first_from}
use Rattle.files.proofs.Packed.{target, count_left, count_plain, fits_behind, front_field, old_field, back_field}
use Rattle.files.proofs.Taken.{WritesFile}
use Rattle.files.proofs.Font.{font_fours, font_some, font_plain, font_readable, entry_inside}
use Rattle.main_loop_fonts.specs.Search.{instruction_byte, loads_instruction}
use Rattle.main_loop_writings.specs.Purpose.{next_inside, nexts_inside}

-- ---- what TeX asks of an instruction, by its bytes: n instructions, m kerns

abbrev loads_by : ℕ → ℕ → ℕ → ℕ → ℕ → ℕ → Bool
loads_by k n m a c d =
    cond (leb a 128) (both (cond (ltb a 128) (ltb (k + a + 1) n) true) (cond (leb 128 c) (ltb (256 * (c - 128) + d) m) true)) (ltb (256 * c + d) n)

loads_same : {n n' m m' a a' c c' d d' : ℕ} (k : ℕ) → n ≡ n' → m ≡ m' → a ≡ a' → c ≡ c' → d ≡ d' → loads_by k n m a c d ≡ loads_by k n' m' a' c' d'
loads_same k e g p q r = rw (e, g, p, q, r)

-- a redirect
first_high : (p q : Bool) → 128 < first_of p q
first_high true q = omega arith
first_high false true = omega arith
first_high false false = omega arith

loads_redirect : (k n m a x : ℕ) → 128 < a → x < n → loads_by k n m a (x / 256) (x % 256) ≡ true
loads_redirect k n m a x h l =
    let e : 256 * (x / 256) + x % 256 ≡ x = omega arith in
    rw (lt-leb a 128 h, e, lt-ltb x n l)

half_redirect : {z2 z3 : ℤ} (x : ℕ) → z2 ≡ pos 3 → z3 ≡ pos x → cond (eqb (word_of z2) 1) (32768 + word_of z3 % 32768) (word_of z3 % 65536) ≡ x % 65536
half_redirect x e g = rw (e, g)

-- another
abbrev half_from : ℤ → ℤ → ℕ
half_from z2 z3 = cond (eqb (word_of z2) 1) (32768 + word_of z3 % 32768) (word_of z3 % 65536)

abbrev NextLoads : ℕ → ℕ → ℤ → Type 0
NextLoads k n z = cond (non_neg z) (ltb (k + word_of z + 1) n) true ≡ true

loads_next_lem : (k n : ℕ) (z : ℤ) → absent_or 127 z ≡ true → NextLoads k n z →
    (leb (next_byte z) 128 ≡ true) × (cond (ltb (next_byte z) 128) (ltb (k + next_byte z + 1) n) true ≡ true)
loads_next_lem k n (pos i) t h =
    let l : i ≤ 127 = leb-true i 127 t in
    let e : i % 256 ≡ i = omega arith in
    (rw e (le-leb i 128 (omega arith)), rw (e, lt-ltb i 128 (omega arith)) h)
loads_next_lem k n (negsuc i) t h = (refl, refl)

loads_plain : (k n m c d : ℕ) (z : ℤ) → absent_or 127 z ≡ true → NextLoads k n z → cond (leb 128 c) (ltb (256 * (c - 128) + d) m) true ≡ true →
    loads_by k n m (next_byte z) c d ≡ true
loads_plain k n m c d z t h g = let v = loads_next_lem k n z t h in rw (v.0, v.1, g)

loads_own : {z0 z1 z2 z3 : ℤ} (k n m : ℕ) (p q : Bool) → Readable z0 z1 z2 z3 → eqb (word_of z2) 3 ≡ false → NextLoads k n z0 →
    (eqb (word_of z2) 1 ≡ true → word_of z3 < m) → loads_by k n m (first_from z0 z2 p q) (half_from z2 z3 / 256) (half_from z2 z3 % 256) ≡ true
loads_own k n m p q (redirects r x h) t g i = absurd (let z : ◌≡◌ {A = ℕ} 0 1 = cc in omega arith)
loads_own k n m p q (kerns z r x a h l) t g i =
    let e : 256 * ((32768 + x % 32768) / 256 - 128) + (32768 + x % 32768) % 256 ≡ x = omega arith in
    loads_plain k n m ((32768 + x % 32768) / 256) ((32768 + x % 32768) % 256) z a g
    (rw (le-leb 128 ((32768 + x % 32768) / 256) (omega arith), e, lt-ltb x m (i refl)))
loads_own k n m p q (ligates z r x a h l) t g i =
    loads_plain k n m (x % 65536 / 256) (x % 65536 % 256) z a g (rw (lt-leb 128 (x % 65536 / 256) (omega arith)))

-- a label is below what all entries are below
under_lt : {b : ℕ} {ls : List ℕ} → Under b ls → 0 < b → (i : ℕ) → get_or ls i 0 < b
under_lt none h i = h
under_lt (next l u) h i = omega (arith, l, largest_le (next l u) i)

-- ---- a written file

module _ (old file : List ℕ) (f : Writable) (v : WritesFile old f) (are : AreI32 f.instructions) (nexts : nexts_inside f.instructions ≡ true)
    (laid : Laid old file (lengths_of old) (written_instructions f) (written_kerns f) (written_table f) f.boundary)
    (lengths : lengths_of file ≡ written_lengths (lengths_of old) (count (written_instructions f)) (length (written_kerns f)))
  where
    abbrev whole : List ℤ
    whole = written_instructions f

    abbrev offset : ℕ
    offset = font_offset (shared_font f)

    byte_at : (k j : ℕ) → k < count whole → j < 4 → instruction_byte file k j ≡ command_byte whole f.boundary k j
    byte_at k j h l = ap (λ (m : FileLengths). word_byte file (command_start m + k) j) lengths ∙ laid.words k j h l

    Loads : ℕ → Type 0
    Loads k = loads_instruction file k ≡ true

    loads-as : (k a x : ℕ) → k < count whole → first_from (field whole k 0) (field whole k 2) (non_neg f.boundary) (eqb (suc k) (count whole)) ≡ a →
        last_half whole k ≡ x → loads_by k (count whole) (length (written_kerns f)) a (x / 256) (x % 256) ≡ true → Loads k
    unfolding Loads
    loads-as k a x h e g t =
        loads_same k (ap (λ (m : FileLengths). m.nl) lengths) (ap (λ (m : FileLengths). m.nk) lengths) (byte_at k 0 h (omega arith) ∙ e)
        (byte_at k 2 h (omega arith) ∙ ap (λ (n : ℕ). n / 256) g) (byte_at k 3 h (omega arith) ∙ ap (λ (n : ℕ). n % 256) g)
        ∙ t

    redirect-loads : (k x : ℕ) → k < count whole → field whole k 2 ≡ pos 3 → field whole k 3 ≡ pos x → x % 65536 < count whole → Loads k
    redirect-loads k x h e g l =
        let p = non_neg f.boundary in
        let q = eqb (suc k) (count whole) in
        loads-as k (first_of p q) (x % 65536) h (ap (λ (z : ℤ). first_from (field whole k 0) z p q) e) (half_redirect x e g)
        (loads_redirect k (count whole) (length (written_kerns f)) (first_of p q) (x % 65536) (first_high p q) l)

    -- in front

    some-own : 0 < offset → 0 < count f.instructions
    some-own h =
        omega (
          arith,
          font_some f v.packs old (count whole) (length (written_kerns f)) v.writes h,
          shared_count f.instructions f.kerns,
        )

    label-lt : 0 < offset → (i : ℕ) → get_or (labels_of f.entries) i 0 < count f.instructions
    label-lt h i =
        under_lt
        (labels_under f.entries (count f.instructions) (length f.entries / 2)
        (entry_inside f v.packs old (count whole) (length (written_kerns f)) v.writes))
        (some-own h) i

    target-lt : (k : ℕ) → 0 < offset → target (shared_font f) k < count whole
    target-lt k h = by (eqb (font_redirects (shared_font f)) 0)
      where
        by : (t : Bool) → cond t 0 (get_or (labels_of f.entries) k 0 + offset) < count whole
        by true = omega (arith, h, fits_behind (shared_font f))
        by false = omega (arith, label-lt h k, fits_behind (shared_font f), shared_count f.instructions f.kerns)

    front-loads : (k : ℕ) → k < offset → Loads k
    front-loads k h =
        redirect-loads k (target (shared_font f) k + 65536 * 1) (omega (arith, h, fits_behind (shared_font f))) (front_field (shared_font f) k 2 h (omega arith))
        (front_field (shared_font f) k 3 h (omega arith))
        (omega (arith, target-lt k (omega (arith, h))))

    -- at the end

    left_lt : (z : ℤ) → cond (non_neg z) (ltb (word_of z) (count f.instructions)) true ≡ true → non_neg z ≡ true → left_or z < count f.instructions
    left_lt (pos e) t n = ltb-true e (count f.instructions) t
    left_lt (negsuc e) t n = absurd (let z : ◌≡◌ {A = ℕ} 0 1 = cc in omega arith)

    back-loads : non_neg f.left ≡ true → Loads (offset + count (shared_font f).instructions)
    back-loads n =
        let fours = font_fours f v.packs in
        let c = count_left (shared_font f) fours n in
        redirect-loads (offset + count (shared_font f).instructions) (left_or f.left + offset + 65536 * 0) (omega (arith, c))
        (back_field (shared_font f) 2 fours n (omega arith)) (back_field (shared_font f) 3 fours n (omega arith))
        (omega (arith, c, left_lt f.left v.writes.left n, shared_count f.instructions f.kerns))

    -- the font's own

    next-loads : (e : ℕ) (z : ℤ) → cond (non_neg z) (ltb (e + word_of z + 1) (count f.instructions)) true ≡ true →
        NextLoads (e + offset) (count whole) z
    next-loads e (pos i) t =
        lt-ltb (e + offset + i + 1) (count whole)
        (omega (
          arith,
          ltb-true (e + i + 1) (count f.instructions) t,
          fits_behind (shared_font f),
          shared_count f.instructions f.kerns,
        ))
    next-loads e (negsuc i) t = refl

    own-loads : (e : ℕ) → e < count (shared_font f).instructions → Loads (e + offset)
    own-loads e h =
        let n = count whole in
        let m = length (written_kerns f) in
        let k = e + offset in
        let l : e < count f.instructions = omega (arith, h, shared_count f.instructions f.kerns) in
        let inside : k < n = omega (arith, h, fits_behind (shared_font f)) in
        let kind : field whole k 2 ≡ field (shared_font f).instructions e 2 = old_field (shared_font f) e 2 h (omega arith) in
        let operand : field whole k 3 ≡ field (shared_font f).instructions e 3 = old_field (shared_font f) e 3 h (omega arith) in
        let first : field whole k 0 ≡ field f.instructions e 0 =
        old_field (shared_font f) e 0 h (omega arith) ∙ shared_first f.instructions f.kerns e l 0 (omega arith) in
        let plain : is_kind 3 whole k ≡ false = ap (λ (z : ℤ). eqb (word_of z) 3) kind ∙ font_plain f v.packs old n m v.writes are e h in
        loads-as k (first_from (field whole k 0) (field whole k 2) (non_neg f.boundary) (eqb (suc k) n)) (last_half whole k) inside refl refl
        (loads_own k n m (non_neg f.boundary) (eqb (suc k) n) (font_readable f v.packs old n m v.writes are k inside) plain
        (rw first (next-loads e (field f.instructions e 0) (every_at (count f.instructions) e (next_inside f.instructions) nexts l)))
        (λ t. rw operand (shared_index f.instructions f.kerns e l (ap (λ (z : ℤ). eqb (word_of z) 1) (sym kind) ∙ t))))

    -- every one

    later-loads : (k : ℕ) → offset ≤ k → k < count whole → (t : Bool) → ltb (k - offset) (count (shared_font f).instructions) ≡ t → (u : Bool) →
        non_neg f.left ≡ u → Loads k
    later-loads k h g true t u n =
        let e : k - offset + offset ≡ k = omega arith in
        rw e at (own-loads (k - offset) (ltb-true (k - offset) (count (shared_font f).instructions) t))
    later-loads k h g false t true n =
        let e : offset + count (shared_font f).instructions ≡ k =
        omega (arith, count_left (shared_font f) (font_fours f v.packs) n, ltb-false (k - offset) (count (shared_font f).instructions) t) in
        rw e at (back-loads n)
    later-loads k h g false t false n =
        absurd (omega (arith, count_plain (shared_font f) (font_fours f v.packs) n, ltb-false (k - offset) (count (shared_font f).instructions) t))

    pub instruction_loads : (k : ℕ) → k < count whole → loads_instruction file k ≡ true
    unfolding Loads
    instruction_loads k h = by (ltb k offset) refl
      where
        by : (t : Bool) → ltb k offset ≡ t → loads_instruction file k ≡ true
        by true t = front-loads k (ltb-true k offset t)
        by false t = later-loads k (ltb-false k offset t) h (ltb (k - offset) (count (shared_font f).instructions)) refl (non_neg f.left) refl
