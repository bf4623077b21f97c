-- The lines of the reply as lines of so many numbers each, and how many bytes they have.
-- Assumes nothing.
use mathlib.Core.Path.{◌≡◌, sym, ap, subst, ◌∙◌}
use mathlib.Core.List.{List, [], ◌∷◌}
use Prim.Native.Nat.{ℕ, ◌+◌, ◌*◌, ◌^◌, ◌≤◌}
use native.Mathlib.Nat.{add-zero}
use native.Mathlib.Omega.{arith}
use lib.IntN.{ℤ, pos}
use lib.ListN.{length, get_or}
use Rattle.words.specs.Lists.{tabulate}
use Rattle.words.proofs.Lists.{tabulate_ext}
use Rattle.columns.specs.Lines.{Line}
use Rattle.columns.specs.Replying.{line_of, op_line, loop_line, item_line, bytes_of}
use Rattle.text_justify.specs.InFields.{numbers_from}
use Rattle.text_lines.specs.Writing.{line_at, lines_from, line_bytes, HasRoom, Puts, lines_fit, PutsWhere}
use Rattle.text_lines.proofs.Taken.{where_puts, taken_is}
use Rattle.text_lines.proofs.Bytes.{bytes_one, line_length_lem, lines_length}

-- ---- so many numbers, written out

module _ (numbers : List ℤ) (p : ℕ) where
  two_numbers : numbers_from numbers p 2 ≡ get_or numbers p (pos 0) ∷ get_or numbers (p + 1) (pos 0) ∷ []
  unfolding tabulate
  two_numbers = rw (add-zero p)

  six_numbers : numbers_from numbers p 6
      ≡ get_or numbers p (pos 0) ∷ get_or numbers (p + 1) (pos 0) ∷ get_or numbers (p + 2) (pos 0) ∷ get_or numbers (p + 3) (pos 0) ∷ get_or numbers (p + 4) (pos 0)
      ∷ get_or numbers (p + 5) (pos 0) ∷ []
  unfolding tabulate
  six_numbers = rw (add-zero p)

-- ---- O, X and T

pub op_lines : (ops : List ℤ) (k count : ℕ) → lines_from 79 2 ops k count ≡ tabulate count (λ j. op_line ops (k + j))
op_lines ops k count = tabulate_ext count (λ j. line_at 79 2 ops (k + j)) (λ j. op_line ops (k + j)) (λ j h. ap (line_of 79) (two_numbers ops (2 * (k + j))))

-- lines from the first on
from_first : (letter n : ℕ) (numbers : List ℤ) (f : ℕ → Line) → ((i : ℕ) → line_at letter n numbers i ≡ f i) → (count : ℕ) →
    lines_from letter n numbers 0 count ≡ tabulate count f
from_first letter n numbers f e count =
    tabulate_ext count (λ i. line_at letter n numbers (0 + i)) f (λ i h. let z : 0 + i ≡ i = omega arith in ap (line_at letter n numbers) z ∙ e i)

pub loop_lines : (loops : List ℤ) (count : ℕ) → lines_from 88 2 loops 0 count ≡ tabulate count (loop_line loops)
loop_lines loops count = from_first 88 2 loops (loop_line loops) (λ i. ap (line_of 88) (two_numbers loops (2 * i))) count

pub item_lines : (items : List ℤ) (count : ℕ) → lines_from 84 6 items 0 count ≡ tabulate count (item_line items)
item_lines items count = from_first 84 6 items (item_line items) (λ i. ap (line_of 84) (six_numbers items (6 * i))) count

-- ---- W: a line of the one number of a list

pub one_line : (letter : ℕ) (a : ℤ) → bytes_of (lines_from letter 1 (a ∷ []) 0 1) ≡ line_bytes (line_of letter (a ∷ []))
unfolding tabulate
one_line letter a = bytes_one (line_of letter (a ∷ []))

-- ---- how many bytes

pub ops_length : (ops : List ℤ) (k count : ℕ) → length (bytes_of (tabulate count (λ j. op_line ops (k + j)))) ≡ count * 26
ops_length ops k count = lines_length (λ j. op_line ops (k + j)) 26 (λ j. line_length_lem (op_line ops (k + j))) count

pub loops_length : (loops : List ℤ) (count : ℕ) → length (bytes_of (tabulate count (loop_line loops))) ≡ count * 26
loops_length loops count = lines_length (loop_line loops) 26 (λ i. line_length_lem (loop_line loops i)) count

pub items_length : (items : List ℤ) (count : ℕ) → length (bytes_of (tabulate count (item_line items))) ≡ count * 74
items_length items count = lines_length (item_line items) 74 (λ i. line_length_lem (item_line items i)) count

-- ---- written: lines for which there is room

pub puts_lines : (letter n : ℕ) (numbers : List ℤ) (k count : ℕ) {bytes l d : List ℕ} {at r : ℕ} → n ≤ 6 → k ≤ 2 ^ 60 →
    bytes_of (lines_from letter n numbers k count) ≡ bytes → HasRoom bytes l at →
    PutsWhere (lines_fit n k count at (length l)) (bytes_of (lines_from letter n numbers k count)) l at r d → Puts bytes l at r d
puts_lines letter n numbers k count {bytes} {l} {d} {at} {r} s c e h p =
    let t = taken_is letter n numbers k count l at s c (subst (λ (bs : List ℕ). HasRoom bs l at) (sym e) h) in
    subst (λ (bs : List ℕ). Puts bs l at r d) e (where_puts (lines_fit n k count at (length l)) t p)
