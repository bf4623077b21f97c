-- Lines and runs of lines, each written after the one before it.
-- Assumes nothing.
use mathlib.Core.Path.{◌≡◌, refl, ap, ◌∙◌}
use mathlib.Core.List.{List, [], ◌∷◌, ◌++◌}
use Prim.Native.Nat.{ℕ, suc, ◌+◌, ◌*◌}
use native.Mathlib.Numerals.{add-one}
use native.Mathlib.Omega.{arith}
use lib.IntN.{ℤ, pos}
use lib.ListN.{length, get_or, set, length-append}
use lib.Seq.{sets, length-sets}
use Rattle.words.specs.Lists.{tabulate}
use Rattle.words.proofs.Lists.{length_tabulate}
use Rattle.columns.specs.Lines.{Line, fields_of, text_of}
use Rattle.columns.specs.Replying.{line_of, pair_line, bytes_of}
use Rattle.columns.proofs.ReadBack.{fields_long}
use Rattle.text_digits.proofs.Stores.{sets_after}
use Rattle.text_justify.specs.InFields.{numbers_from, five_from}
use Rattle.text_justify.proofs.Fill.{from_length}
use Rattle.text_lines.specs.Writing.{line_at, lines_from, line_bytes, Puts}
use Rattle.text_lines.proofs.Bytes.{bytes_last, line_length_lem, lines_length}

-- ---- a line: its letter, its fields, a line feed

pub line_put : (letter : ℕ) (fs l d : List ℕ) (at end : ℕ) → end ≡ at + 1 + length fs → d ≡ sets (set l at letter) (at + 1) fs →
    set d end 10 ≡ sets l at ((letter ∷ fs) ++ (10 ∷ []))
line_put letter fs l d at end q e =
    let o : at + 1 ≡ suc at = add-one at in
    let p : end ≡ at + length (letter ∷ fs) = omega arith in
    sets_after (letter ∷ fs) (10 ∷ []) l d (set d end 10) at end (e ∙ ap (λ (k : ℕ). sets (set l at letter) k fs) o) p refl

pub line_puts : (letter : ℕ) (numbers : List ℤ) (from n : ℕ) (l d : List ℕ) (at : ℕ) →
    d ≡ sets (set l at letter) (at + 1) (fields_of (numbers_from numbers from n)) →
    Puts (line_bytes (line_of letter (numbers_from numbers from n))) l at (at + 2 + 12 * n) (set d (at + 1 + 12 * n) 10)
line_puts letter numbers from n l d at e =
    let q = from_length numbers from n in
    record {
      next = omega (arith, length-append (letter ∷ fields_of (numbers_from numbers from n)) (10 ∷ []), q);
      written = line_put letter (fields_of (numbers_from numbers from n)) l d at (at + 1 + 12 * n) (omega (arith, q)) e;
    }

-- ---- P

pub pair_puts : (pairs : List ℤ) (k : ℕ) (l d : List ℕ) (at : ℕ) → d ≡ sets (set l at 80) (at + 1) (fields_of (five_from pairs (6 * k))) →
    Puts (line_bytes (pair_line pairs k)) l at (at + 62) (set d (at + 61) 10)
unfolding tabulate
pair_puts pairs k l d at e =
    let zs = (pair_line pairs k).numbers in
    record {
      next = omega (arith, line_length_lem (pair_line pairs k));
      written = line_put 80 (fields_of zs) l d at (at + 61) (omega (arith, fields_long zs)) e;
    }

-- ---- one after the other

pub puts_none : (l : List ℕ) (at : ℕ) → Puts [] l at at l
puts_none l at = record { next = omega arith; written = refl }

pub puts_both : {vs ws l d d' : List ℕ} {at j r : ℕ} → Puts vs l at j d → Puts ws d j r d' → Puts (vs ++ ws) l at r d'
puts_both {vs} {ws} {l} {d} {d'} {at} {j} a b =
    record { next = omega (arith, a.next, b.next, length-append vs ws); written = sets_after vs ws l d d' at j a.written a.next b.written }

pub puts_length : {vs l d : List ℕ} {at j : ℕ} → Puts vs l at j d → length d ≡ length l
puts_length {vs} {l} {at = at} a = ap length a.written ∙ length-sets l at vs

-- ---- a run of lines

module _ (letter n : ℕ) (numbers : List ℤ) (k : ℕ) (l : List ℕ) (at : ℕ) where
  abbrev at_line : ℕ → Line
  at_line i = line_at letter n numbers (k + i)

  abbrev some_bytes : ℕ → List ℕ
  some_bytes i = bytes_of (lines_from letter n numbers k i)

  pub at_length : (i : ℕ) → length (line_bytes (at_line i)) ≡ 12 * n + 2
  at_length i = omega (arith, line_length_lem (at_line i), length_tabulate n (λ j. get_or numbers (n * (k + i) + j) (pos 0)))

  pub run_length : (count : ℕ) → length (some_bytes count) ≡ count * (12 * n + 2)
  run_length count = lines_length at_line (12 * n + 2) at_length count

  pub lines_none : Puts (some_bytes 0) l at at l
  unfolding tabulate text_of
  lines_none = puts_none l at

  pub lines_more : {d d' : List ℕ} {next r : ℕ} (i : ℕ) → Puts (some_bytes i) l at next d → Puts (line_bytes (at_line i)) d next r d' →
      Puts (some_bytes (i + 1)) l at r d'
  unfolding tabulate
  lines_more i a b =
      let e : some_bytes (i + 1) ≡ some_bytes i ++ line_bytes (at_line i) = ap some_bytes (add-one i) ∙ bytes_last (tabulate i at_line) (at_line i) in
      rw e (puts_both a b)
