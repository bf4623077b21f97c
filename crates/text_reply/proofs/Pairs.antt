-- The pair table: one pair with its ops after the other.
-- Assumes nothing.
use mathlib.Core.Path.{◌≡◌, sym, ap, ◌∙◌}
use mathlib.Core.List.{List, ◌∷◌, ◌++◌}
use Prim.Native.Nat.{ℕ, suc, ◌+◌, ◌*◌, ◌^◌, ◌<◌, ◌≤◌}
use native.Mathlib.Numerals.{add-one}
use native.Mathlib.Omega.{arith}
use lib.IntN.{ℤ}
use lib.ListN.{length, length-append}
use Rattle.words.specs.Words.{Word}
use Rattle.words.specs.Lists.{tabulate}
use Rattle.words.proofs.Bits.{read_lt}
use Rattle.captions.specs.Tables.{pair_count, number, first_op, count_of}
use Rattle.columns.specs.Lines.{Line, text_of}
use Rattle.columns.specs.Replying.{pair_line, op_line, table_lines, bytes_of}
use Rattle.text_lines.specs.Writing.{lines_from, line_bytes, HasRoom, Puts, lines_fit, PutsWhere}
use Rattle.text_lines.proofs.Bytes.{bytes_append, bytes_first, line_length_lem, grows}
use Rattle.text_lines.proofs.Steps.{puts_none, puts_both, puts_length}
use Rattle.text_lines.proofs.Taken.{pair_taken, where_puts}
use Rattle.text_reply.specs.Sizes.{table_bytes}
use Rattle.text_reply.proofs.Shapes.{op_lines, ops_length, puts_lines}

-- ---- a pair and its ops

module _ (pairs ops : List ℤ) where
  -- the first k pairs
  abbrev some_pairs : ℕ → List ℕ
  some_pairs k = bytes_of (table_lines pairs ops k)

  abbrev ops_of : ℕ → List ℕ
  ops_of k = bytes_of (lines_from 79 2 ops (first_op pairs k) (count_of pairs k))

  pub pairs_more : (k : ℕ) → some_pairs (suc k) ≡ some_pairs k ++ (line_bytes (pair_line pairs k) ++ ops_of k)
  unfolding table_lines
  pairs_more k =
      bytes_append (table_lines pairs ops k) (pair_line pairs k ∷ tabulate (count_of pairs k) (λ j. op_line ops (first_op pairs k + j)))
      ∙ ap (λ (t : List ℕ). some_pairs k ++ t)
      (bytes_first (pair_line pairs k) (tabulate (count_of pairs k) (λ j. op_line ops (first_op pairs k + j)))
      ∙ ap (λ (ls : List Line). line_bytes (pair_line pairs k) ++ bytes_of ls) (sym (op_lines ops (first_op pairs k) (count_of pairs k))))

  ops_are : (k : ℕ) → length (ops_of k) ≡ count_of pairs k * 26
  ops_are k =
      ap (λ (ls : List Line). length (bytes_of ls)) (op_lines ops (first_op pairs k) (count_of pairs k)) ∙ ops_length ops (first_op pairs k) (count_of pairs k)

  pub pairs_length : (k : ℕ) → length (some_pairs (suc k)) ≡ length (some_pairs k) + (62 + 26 * count_of pairs k)
  pairs_length k =
      omega (
        arith,
        ap length (pairs_more k),
        length-append (some_pairs k) (line_bytes (pair_line pairs k) ++ ops_of k),
        length-append (line_bytes (pair_line pairs k)) (ops_of k),
        line_length_lem (pair_line pairs k),
        ops_are k,
      )

  -- there is room for pair k among n
  pub pairs_room : (k n : ℕ) → k < n → length (some_pairs k) + (62 + 26 * count_of pairs k) ≤ length (some_pairs n)
  pairs_room = grows (λ n. length (some_pairs n)) (λ n. 62 + 26 * count_of pairs n) pairs_length

  -- ---- written

  module _ (l : List ℕ) (at : ℕ) where
    pub pairs_none : Puts (some_pairs 0) l at at l
    unfolding table_lines text_of
    pairs_none = puts_none l at

    module _ (k next : ℕ) (d : List ℕ) (h : k < pair_count pairs) (r : HasRoom (table_bytes pairs ops) l at) (p : Puts (some_pairs k) l at next d) where
      -- the pair is written, and its ops after it
      pub pair_more : length pairs < 2 ^ 61 → (m : ℕ) (d₁ : List ℕ) → PutsWhere (lines_fit 5 k 1 next (length d)) (line_bytes (pair_line pairs k)) d next m d₁ →
          (first count : ℕ) → Word (number pairs k 4) first → Word (number pairs k 5) count → (n : ℕ) (d₂ : List ℕ) →
          PutsWhere (lines_fit 2 first count m (length d₁)) (bytes_of (lines_from 79 2 ops first count)) d₁ m n d₂ → Puts (some_pairs (k + 1)) l at n d₂
      pair_more w m d₁ v first count f c n d₂ q =
          let room = pairs_room k (pair_count pairs) h in
          let g : Puts (line_bytes (pair_line pairs k)) d next m d₁ = where_puts (lines_fit 5 k 1 next (length d))
          (pair_taken k next (length d) (omega arith) (omega (arith, room, r, p.next, puts_length p))) v in
          let e : bytes_of (lines_from 79 2 ops first count) ≡ ops_of k = λ i. bytes_of (lines_from 79 2 ops (f.is i) (c.is i)) in
          let o : HasRoom (ops_of k) d₁ m = omega (arith, room, r, p.next, puts_length p, g.next, puts_length g, line_length_lem (pair_line pairs k), ops_are k) in
          let b : Puts (ops_of k) d₁ m n d₂ = puts_lines 79 2 ops first count (omega arith) (omega (arith, read_lt f)) e o q in
          let t : some_pairs (k + 1) ≡ some_pairs k ++ (line_bytes (pair_line pairs k) ++ ops_of k) = ap some_pairs (add-one k) ∙ pairs_more k in
          rw t (puts_both p (puts_both g b))
