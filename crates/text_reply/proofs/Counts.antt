-- How many bytes a reply has, counted no further than 65,537.
-- Assumes nothing.
use mathlib.Core.Path.{◌≡◌, refl, sym, ap, ◌∙◌}
use mathlib.Core.List.{List, [], ◌∷◌, ◌++◌}
use mathlib.Core.Logic.{◌⊎◌, inl, inr}
use Prim.Native.Nat.{ℕ, ◌+◌, ◌*◌, ◌/◌, ◌<◌, ◌≤◌}
use native.Mathlib.Nat.{mul-le-mul, le-mul_of_pos_right}
use native.Mathlib.Numerals.{add-one}
use native.Mathlib.Omega.{arith}
use lib.IntN.{ℤ, pos, negsuc}
use lib.ListN.{length, length-append}
use borrow.Author.Tests.{lt-ltb, le-ltb}
use Rattle.words.proofs.Tests.{less_or_not}
use Rattle.words.specs.Words.{Word}
use Rattle.words.specs.Lists.{tabulate}
use Rattle.captions.specs.Tables.{pair_count, number}
use Rattle.columns.specs.Lines.{Line, text_of}
use Rattle.columns.specs.Replying.{line_of, loop_line, item_line, table_lines, word_lines, bytes_of, reply_bytes}
use Rattle.text_lines.specs.Writing.{line_bytes}
use Rattle.text_reply.specs.Sizes.{capped_size, table_bytes}
use Rattle.text_lines.proofs.Bytes.{bytes_append, bytes_none, bytes_first, line_length_lem}
use Rattle.text_reply.proofs.Shapes.{loops_length, items_length}
use Rattle.text_reply.proofs.Pairs.{pairs_length, pairs_room}

-- ---- the smaller of a number and 65,537

pub capped_size_below : (n : ℕ) → n < 65537 → capped_size n ≡ n
capped_size_below n h = rw (lt-ltb n 65537 h)

pub capped_size_over : (n : ℕ) → 65537 ≤ n → capped_size n ≡ 65537
capped_size_over n h = rw (le-ltb n 65537 h)

pub capped_size_most : (n : ℕ) → capped_size n ≤ 65537
capped_size_most n = by (less_or_not n 65537)
  where
    by : (n < 65537) ⊎ (65537 ≤ n) → capped_size n ≤ 65537
    by (inl h) = rw (lt-ltb n 65537 h) (omega arith)
    by (inr h) = rw (le-ltb n 65537 h) (omega arith)

-- more after a number that is counted so
capped_size_more : (m n : ℕ) → capped_size (capped_size m + n) ≡ capped_size (m + n)
capped_size_more m n = by (less_or_not m 65537)
  where
    by : (m < 65537) ⊎ (65537 ≤ m) → capped_size (capped_size m + n) ≡ capped_size (m + n)
    by (inl h) = rw (lt-ltb m 65537 h)
    by (inr h) = rw (le-ltb m 65537 h) (capped_size_over (65537 + n) (omega arith) ∙ sym (capped_size_over (m + n) (omega arith)))

pub capped_size_next : (m n : ℕ) {r s : ℕ} → r ≡ capped_size m → s ≡ capped_size (r + n) → s ≡ capped_size (m + n)
capped_size_next m n e g = g ∙ ap (λ (x : ℕ). capped_size (x + n)) e ∙ capped_size_more m n

-- ---- so many lines of a size

pub many_lines : (size count each : ℕ) → 65536 < count → 0 < each → 65537 ≤ size + count * each
many_lines size count each h p = let q : count ≤ count * each = le-mul_of_pos_right count p in omega arith

pub few_lines : (count each : ℕ) → count ≤ 65536 → each ≤ 74 → count * each ≤ 65536 * 74
few_lines count each h p = mul-le-mul h p

-- ---- the pair table, counted a pair at a time

pub none_counted : (pairs ops : List ℤ) → 0 ≡ length (bytes_of (table_lines pairs ops 0))
unfolding table_lines text_of
none_counted pairs ops = refl

module _ (pairs : List ℤ) (k size : ℕ) (e : (ops : List ℤ) → size ≡ length (bytes_of (table_lines pairs ops k))) where
  pub table_counted : size ≤ 65536 → k ≡ pair_count pairs → (ops : List ℤ) → size ≡ capped_size (length (table_bytes pairs ops))
  table_counted h q ops =
      let s : size ≡ length (table_bytes pairs ops) = e ops ∙ ap (λ (j : ℕ). length (bytes_of (table_lines pairs ops j))) q in
      sym (capped_size_below (length (table_bytes pairs ops)) (omega arith) ∙ sym s)

  module _ (w : ℕ) (c : Word (number pairs k 5) w) where
    pub count_more : (ops : List ℤ) → size + (62 + 26 * w) ≡ length (bytes_of (table_lines pairs ops (k + 1)))
    count_more ops = omega (arith, e ops, c.is, pairs_length pairs ops k, ap (λ (j : ℕ). length (bytes_of (table_lines pairs ops j))) (add-one k))

    pub count_over : k < pair_count pairs → 65536 < size + (62 + 26 * w) → (ops : List ℤ) → 65537 ≡ capped_size (length (table_bytes pairs ops))
    count_over l h ops = sym (capped_size_over (length (table_bytes pairs ops)) (omega (arith, e ops, c.is, pairs_room pairs ops k (pair_count pairs) l)))

-- ---- the parts of a reply

module _ (items : List ℤ) where
  word_length : (n : ℕ) → length (bytes_of (word_lines (pos n) items)) ≡ 14 + length items / 6 * 74
  word_length n =
      omega (
        arith,
        ap length (bytes_first (line_of 87 (pos n ∷ [])) (tabulate (length items / 6) (item_line items))),
        length-append (line_bytes (line_of 87 (pos n ∷ []))) (bytes_of (tabulate (length items / 6) (item_line items))),
        line_length_lem (line_of 87 (pos n ∷ [])),
        items_length items (length items / 6),
      )

  no_word_length : (n : ℕ) → length (bytes_of (word_lines (negsuc n) items)) ≡ 0
  no_word_length n = ap length bytes_none

module _ (pairs ops loops : List ℤ) (letters : ℤ) (items : List ℤ) where
  abbrev table : List Line
  table = table_lines pairs ops (pair_count pairs)

  abbrev all_loops : List Line
  all_loops = tabulate (length loops / 2) (loop_line loops)

  pub reply_is : reply_bytes pairs ops loops letters items ≡ (table_bytes pairs ops ++ bytes_of all_loops) ++ bytes_of (word_lines letters items)
  reply_is =
      bytes_append (table ++ all_loops) (word_lines letters items)
      ∙ ap (λ (t : List ℕ). t ++ bytes_of (word_lines letters items)) (bytes_append table all_loops)

  reply_length : length (reply_bytes pairs ops loops letters items)
      ≡ length (table_bytes pairs ops) + length loops / 2 * 26 + length (bytes_of (word_lines letters items))
  reply_length =
      omega (
        arith,
        ap length reply_is,
        length-append (table_bytes pairs ops ++ bytes_of all_loops) (bytes_of (word_lines letters items)),
        length-append (table_bytes pairs ops) (bytes_of all_loops),
        loops_length loops (length loops / 2),
      )

  module _ (t a : ℕ) (e : t ≡ capped_size (length (table_bytes pairs ops))) (g : a ≡ capped_size (t + length loops / 2 * 26)) where
    abbrev table-bytes : ℕ
    table-bytes = length (table_bytes pairs ops) + length loops / 2 * 26

    table-next : a ≡ capped_size table-bytes
    table-next = capped_size_next (length (table_bytes pairs ops)) (length loops / 2 * 26) e g

    -- without a word
    pub size_plain : (n : ℕ) → letters ≡ negsuc n → a ≡ capped_size (length (reply_bytes pairs ops loops letters items))
    size_plain n z =
        let q : length (reply_bytes pairs ops loops letters items) ≡ length (table_bytes pairs ops) + length loops / 2 * 26 =
        omega (arith, reply_length, ap (λ (y : ℤ). length (bytes_of (word_lines y items))) z, no_word_length items n) in
        table-next ∙ ap capped_size (sym q)

    -- with one
    pub size_word : (n : ℕ) → letters ≡ pos n → (b r : ℕ) → b ≡ capped_size (a + 14) → r ≡ capped_size (b + length items / 6 * 74) →
        r ≡ capped_size (length (reply_bytes pairs ops loops letters items))
    size_word n z b r p s =
        let q : length (reply_bytes pairs ops loops letters items) ≡ length (table_bytes pairs ops) + length loops / 2 * 26 + 14 + length items / 6 * 74 =
        omega (arith, reply_length, ap (λ (y : ℤ). length (bytes_of (word_lines y items))) z, word_length items n) in
        capped_size_next (table-bytes + 14) (length items / 6 * 74) (capped_size_next table-bytes 14 table-next p) s ∙ ap capped_size (sym q)
