-- Laws of the words of the lig/kern section: an instruction that is written is read again, a redirect without its flag.
-- Assumes nothing.
use mathlib.Core.Path.{◌≡◌, refl, sym, ap, ◌∙◌}
use mathlib.Core.Bool.{Bool, true, false, cond}
use mathlib.Core.List.{List, [], ◌∷◌, ◌++◌, append_assoc}
use Prim.Native.Nat.{ℕ, zero, suc, ◌+◌, ◌-◌, ◌*◌, ◌/◌, ◌%◌, ◌<◌, ◌≤◌}
use native.Mathlib.Omega.{arith}
use lib.IntN.{ℤ, pos, negsuc}
use lib.Dec.{eqb}
use lib.ListN.{length}
use lib.Signed.{non_neg}
use borrow.Author.Tests.{lt-ltb, le-ltb, le-leb, lt-leb, leb-true, eqb-true}
use Rattle.words.specs.Words.{word_of}
use Rattle.words.specs.Lists.{tabulate}
use Rattle.lang.specs.Records.{count, field, is_kind, absent_or}
use Rattle.program_kerns.specs.Kerns.{changed}
use Rattle.files.specs.declared.FileLengths.{FileLengths}
use Rattle.files.specs.Lengths.{lengths_of, command_start}
use Rattle.files.specs.Commands.{word_byte, command_next, command_kind, command_operand, command_numbers}
use Rattle.files.specs.Reading.{commands_from, file_instructions}
use Rattle.files.specs.Sections.{command_byte}
use Rattle.files.specs.Writing.{written_lengths}
use Rattle.files.specs.Purpose.{unflagged}
use Rattle.files.proofs.Shared.{same_either}

-- ---- the four numbers of an instruction that can be written

pub data Readable : ℤ → ℤ → ℤ → ℤ → Type 0 where
  redirects : (r x : ℕ) → r ≤ 255 → Readable (negsuc 0) (pos r) (pos 3) (pos x)
  kerns : (z : ℤ) (r x : ℕ) → absent_or 127 z ≡ true → r ≤ 255 → x ≤ 32767 → Readable z (pos r) (pos 1) (pos x)
  ligates : (z : ℤ) (r x : ℕ) → absent_or 127 z ≡ true → r ≤ 255 → x ≤ 32767 → Readable z (pos r) (pos 2) (pos x)

pub readable_same : {a a' b b' c c' d d' : ℤ} → a ≡ a' → b ≡ b' → c ≡ c' → d ≡ d' → Readable a b c d → Readable a' b' c' d'
readable_same p q r s h = rw (← p, ← q, ← r, ← s) h

-- ---- four bytes as four numbers

abbrev numbers_of : ℕ → ℕ → ℕ → ℕ → List ℤ
numbers_of a b c d = command_next a ∷ pos b ∷ pos (command_kind a c) ∷ pos (command_operand a c d) ∷ []

module _ (a b c d : ℕ) where
  numbers_redirect : 128 < a → numbers_of a b c d ≡ negsuc 0 ∷ pos b ∷ pos 3 ∷ pos (256 * c + d) ∷ []
  numbers_redirect h = rw (le-ltb a 128 (omega arith), lt-ltb 128 a h, lt-leb a 128 h)

  numbers_kern : a ≤ 128 → 128 ≤ c → numbers_of a b c d ≡ command_next a ∷ pos b ∷ pos 1 ∷ pos (256 * (c - 128) + d) ∷ []
  numbers_kern h g = rw (le-ltb 128 a h, le-leb a 128 h, le-leb 128 c g)

  numbers_ligature : a ≤ 128 → c < 128 → numbers_of a b c d ≡ command_next a ∷ pos b ∷ pos 2 ∷ pos (256 * c + d) ∷ []
  numbers_ligature h g = rw (le-ltb 128 a h, le-leb a 128 h, lt-leb 128 c g)

-- ---- the first byte

-- of a redirect
abbrev pub first_of : Bool → Bool → ℕ
first_of p q = cond p 255 (cond q 255 254)

first_high : (p q : Bool) → 128 < first_of p q
first_high true q = omega arith
first_high false true = omega arith
first_high false false = omega arith

-- of another instruction, from its next
abbrev pub next_byte : ℤ → ℕ
next_byte z = cond (non_neg z) (word_of z % 256) 128

pub next_le : (z : ℤ) → absent_or 127 z ≡ true → next_byte z ≤ 128
next_le (pos m) t = let h : m ≤ 127 = leb-true m 127 t in omega arith
next_le (negsuc m) t = omega arith

next_read : (z : ℤ) → absent_or 127 z ≡ true → command_next (next_byte z) ≡ z
next_read (pos m) t =
    let h : m ≤ 127 = leb-true m 127 t in
    let e : m % 256 ≡ m = omega arith in
    rw (e, lt-ltb m 128 (omega arith))
next_read (negsuc m) t = let e : m ≡ 0 = eqb-true m 0 t in rw e

-- ---- an instruction from its bytes

abbrev pub first_from : ℤ → ℤ → Bool → Bool → ℕ
first_from z0 z2 p q = cond (eqb (word_of z2) 3) (first_of p q) (next_byte z0)

abbrev half_from : ℤ → ℤ → ℕ
half_from z2 z3 = cond (eqb (word_of z2) 1) (32768 + word_of z3 % 32768) (word_of z3 % 65536)

four_same : {a a' b b' c c' d d' : ℤ} → a ≡ a' → b ≡ b' → c ≡ c' → d ≡ d' → ◌≡◌ {A = List ℤ} (a ∷ b ∷ c ∷ d ∷ []) (a' ∷ b' ∷ c' ∷ d' ∷ [])
four_same p q r s = rw (p, q, r, s)

read_back : {z0 z1 z2 z3 : ℤ} → Readable z0 z1 z2 z3 → (p q : Bool) →
    numbers_of (first_from z0 z2 p q) (word_of z1 % 256) (half_from z2 z3 / 256) (half_from z2 z3 % 256)
    ≡ z0 ∷ z1 ∷ cond (eqb (word_of z2) 3) (pos 3) z2 ∷ cond (eqb (word_of z2) 3) (pos (word_of z3 % 65536)) z3 ∷ []
read_back (redirects r x h) p q =
    numbers_redirect (first_of p q) (r % 256) (x % 65536 / 256) (x % 65536 % 256) (first_high p q)
    ∙ four_same refl (ap pos (let e : r % 256 ≡ r = omega arith in e)) refl
    (ap pos (let e : 256 * (x % 65536 / 256) + x % 65536 % 256 ≡ x % 65536 = omega arith in e))
read_back (kerns z r x t h g) p q =
    numbers_kern (next_byte z) (r % 256) ((32768 + x % 32768) / 256) ((32768 + x % 32768) % 256) (next_le z t) (omega arith)
    ∙ four_same (next_read z t) (ap pos (let e : r % 256 ≡ r = omega arith in e)) refl
    (ap pos (let e : 256 * ((32768 + x % 32768) / 256 - 128) + (32768 + x % 32768) % 256 ≡ x = omega arith in e))
read_back (ligates z r x t h g) p q =
    numbers_ligature (next_byte z) (r % 256) (x % 65536 / 256) (x % 65536 % 256) (next_le z t) (omega arith)
    ∙ four_same (next_read z t) (ap pos (let e : r % 256 ≡ r = omega arith in e)) refl
    (ap pos (let e : 256 * (x % 65536 / 256) + x % 65536 % 256 ≡ x = omega arith in e))

-- ---- the whole program

tabulate_four : (m : ℕ) (g : ℕ → ℤ) →
    tabulate (suc (suc (suc (suc m)))) g ≡ tabulate m g ++ (g m ∷ g (suc m) ∷ g (suc (suc m)) ∷ g (suc (suc (suc m))) ∷ [])
unfolding tabulate
tabulate_four m g = simp append_assoc

commands_list : (file : List ℕ) (w n : ℕ) (g : ℕ → ℤ) →
    ((i : ℕ) → i < n → command_numbers file (w + i) ≡ g (4 * i) ∷ g (4 * i + 1) ∷ g (4 * i + 2) ∷ g (4 * i + 3) ∷ []) →
    commands_from file w n ≡ tabulate (4 * n) g
unfolding commands_from tabulate
commands_list file w zero g h = refl
commands_list file w (suc n) g h =
    let e : 4 * suc n ≡ suc (suc (suc (suc (4 * n)))) = omega arith in
    let a : 4 * n + 1 ≡ suc (4 * n) = omega arith in
    let b : 4 * n + 2 ≡ suc (suc (4 * n)) = omega arith in
    let c : 4 * n + 3 ≡ suc (suc (suc (4 * n))) = omega arith in
    ap (λ (t : List ℤ). t ++ command_numbers file (w + n)) (commands_list file w n g (λ i l. h i (omega arith)))
    ∙ ap (λ (t : List ℤ). tabulate (4 * n) g ++ t) (h n (omega arith) ∙ four_same refl (ap g a) (ap g b) (ap g c))
    ∙ sym (tabulate_four (4 * n) g) ∙ ap (λ (m : ℕ). tabulate m g) (sym e)

-- a file whose lig/kern section begins at word w
module _ (file : List ℕ) (s : List ℤ) (boundary : ℤ) (w : ℕ)
    (bytes : (i j : ℕ) → i < count s → j < 4 → word_byte file (w + i) j ≡ command_byte s boundary i j)
    (readable : (i : ℕ) → i < count s → Readable (field s i 0) (field s i 1) (field s i 2) (field s i 3))
  where
    abbrev number : ℕ → ℤ
    number = changed s (is_kind 3 s) (pos 3) (λ i. pos (word_of (field s i 3) % 65536))

    number_at : (i m : ℕ) → i < count s → m < 4 →
        number (4 * i + m) ≡ cond (is_kind 3 s i) (cond (eqb m 2) (pos 3) (cond (eqb m 3) (pos (word_of (field s i 3) % 65536)) (field s i m))) (field s i m)
    number_at i m h l =
        let q : (4 * i + m) / 4 ≡ i = omega arith in
        let r : (4 * i + m) % 4 ≡ m = omega arith in
        rw (q, r, lt-ltb i (count s) h)

    number_first : (i : ℕ) → i < count s → field s i 0 ≡ number (4 * i)
    number_first i h =
        let e : 4 * i + 0 ≡ 4 * i = omega arith in
        sym (ap number (sym e) ∙ number_at i 0 h (omega arith) ∙ same_either (is_kind 3 s i) (field s i 0))

    instruction_read : (i : ℕ) → i < count s →
        command_numbers file (w + i) ≡ number (4 * i) ∷ number (4 * i + 1) ∷ number (4 * i + 2) ∷ number (4 * i + 3) ∷ []
    instruction_read i h =
        rw (bytes i 0 h (omega arith), bytes i 1 h (omega arith), bytes i 2 h (omega arith), bytes i 3 h (omega arith))
        (read_back (readable i h) (non_neg boundary) (eqb (suc i) (count s))
        ∙ four_same (number_first i h) (sym (number_at i 1 h (omega arith) ∙ same_either (is_kind 3 s i) (field s i 1)))
        (sym (number_at i 2 h (omega arith))) (sym (number_at i 3 h (omega arith))))

    pub commands_read : length s ≡ 4 * count s → commands_from file w (count s) ≡ unflagged s
    commands_read e = commands_list file w (count s) number instruction_read ∙ ap (λ (n : ℕ). tabulate n number) (sym e)

    pub program_read : (l : FileLengths) (k : ℕ) → lengths_of file ≡ written_lengths l (count s) k → w ≡ command_start l → length s ≡ 4 * count s →
        file_instructions file ≡ unflagged s
    program_read l k e q r =
        ap (λ (m : FileLengths). commands_from file (command_start m) m.nl) e ∙ ap (λ (n : ℕ). commands_from file n (count s)) (sym q) ∙ commands_read r
