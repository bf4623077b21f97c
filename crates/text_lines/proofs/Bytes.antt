-- Lines as bytes: one after the other, and how many.
-- Assumes nothing.
use mathlib.Core.Path.{◌≡◌, refl, sym, ap, ◌∙◌}
use mathlib.Core.List.{List, [], ◌∷◌, ◌++◌, append_assoc}
use mathlib.Core.Logic.{◌⊎◌, inl, inr}
use Prim.Native.Nat.{ℕ, zero, suc, ◌+◌, ◌*◌, ◌<◌, ◌≤◌}
use native.Mathlib.Nat.{eq-or-lt_of_le, le_of_suc-le-suc, suc-mul}
use native.Mathlib.Omega.{arith}
use lib.ListN.{length, length-append}
use Rattle.words.specs.Lists.{tabulate}
use Rattle.columns.specs.Lines.{Line, fields_of, write_line, text_of}
use Rattle.columns.specs.Replying.{bytes_of}
use Rattle.columns.proofs.ReadBack.{fields_long}
use Rattle.text_lines.specs.Writing.{line_bytes}

-- ---- lines

pub bytes_append : (ls ms : List Line) → bytes_of (ls ++ ms) ≡ bytes_of ls ++ bytes_of ms
unfolding text_of
bytes_append [] ms = refl
bytes_append (l ∷ ls) ms = ap (λ (t : List ℕ). write_line l ++ (10 ∷ t)) (bytes_append ls ms) ∙ sym (append_assoc (write_line l) (10 ∷ bytes_of ls) (bytes_of ms))

pub bytes_none : bytes_of [] ≡ []
unfolding text_of
bytes_none = refl

pub bytes_one : (l : Line) → bytes_of (l ∷ []) ≡ line_bytes l
unfolding text_of
bytes_one l = refl

pub bytes_first : (l : Line) (ls : List Line) → bytes_of (l ∷ ls) ≡ line_bytes l ++ bytes_of ls
bytes_first l ls = bytes_append (l ∷ []) ls ∙ ap (λ (t : List ℕ). t ++ bytes_of ls) (bytes_one l)

pub bytes_last : (ls : List Line) (l : Line) → bytes_of (ls ++ (l ∷ [])) ≡ bytes_of ls ++ line_bytes l
bytes_last ls l = bytes_append ls (l ∷ []) ∙ ap (λ (t : List ℕ). bytes_of ls ++ t) (bytes_one l)

-- ---- how many

pub line_length_lem : (l : Line) → length (line_bytes l) ≡ 2 + 12 * length l.numbers
line_length_lem l = omega (arith, length-append (fields_of l.numbers) (10 ∷ []), fields_long l.numbers)

-- a sum of parts holds each part after those before it
grows_by : (s f : ℕ → ℕ) → ((n : ℕ) → s (suc n) ≡ s n + f n) → (i n : ℕ) → (i ≡ n) ⊎ (i < n) → (i < n → s i + f i ≤ s n) → s i + f i ≤ s (suc n)
grows_by s f e i n (inl q) k = rw q (omega (arith, e n))
grows_by s f e i n (inr h) k = omega (arith, e n, k h)

pub grows : (s f : ℕ → ℕ) → ((n : ℕ) → s (suc n) ≡ s n + f n) → (i n : ℕ) → i < n → s i + f i ≤ s n
grows s f e i zero h = absurd (omega arith)
grows s f e i (suc n) h = grows_by s f e i n (eq-or-lt_of_le (le_of_suc-le-suc h)) (grows s f e i n)

module _ (f : ℕ → Line) where
  last_length : (n : ℕ) → length (bytes_of (tabulate (suc n) f)) ≡ length (bytes_of (tabulate n f)) + length (line_bytes (f n))
  unfolding tabulate
  last_length n = ap length (bytes_last (tabulate n f) (f n)) ∙ length-append (bytes_of (tabulate n f)) (line_bytes (f n))

  -- lines of one length
  pub lines_length : (each : ℕ) → ((i : ℕ) → length (line_bytes (f i)) ≡ each) → (n : ℕ) → length (bytes_of (tabulate n f)) ≡ n * each
  unfolding tabulate text_of
  lines_length each e zero = omega arith
  lines_length each e (suc n) = last_length n ∙ (λ i. lines_length each e n i + e n i) ∙ sym (suc-mul n each)

  -- there is room for line i among n lines
  pub lines_room : (i n : ℕ) → i < n → length (bytes_of (tabulate i f)) + length (line_bytes (f i)) ≤ length (bytes_of (tabulate n f))
  lines_room = grows (λ n. length (bytes_of (tabulate n f))) (λ n. length (line_bytes (f n))) last_length
