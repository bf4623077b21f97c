-- The word's lines and the whole reply, written part after part; and what is answered, by whether there is room.
-- Assumes nothing.
use mathlib.Core.Path.{◌≡◌, sym, ap, ◌∙◌}
use mathlib.Core.Bool.{Bool, true, false}
use mathlib.Core.List.{List, [], ◌∷◌, ◌++◌, append-nil}
use mathlib.Core.Logic.{◌⊎◌, inl, inr}
use Prim.Native.Nat.{ℕ, ◌+◌, ◌-◌, ◌/◌, ◌^◌, ◌<◌, ◌≤◌}
use native.Mathlib.Omega.{arith}
use lib.IntN.{ℤ, pos}
use lib.Dec.{leb}
use lib.ListN.{length, take, drop, replicate, length-append}
use lib.Seq.{sets, length-sets, take_at, drop-length}
use borrow.Author.Tests.{lt-leb, leb-true}
use borrow.Rule.Slice.PartMut.{mid_of, post_of, put_mid, mid_len, Post-is}
use Rattle.words.specs.Words.{number_of}
use Rattle.words.specs.Lists.{tabulate}
use Rattle.words.proofs.Bits.{number_pos, number_neg}
use Rattle.words.proofs.Lists.{sets_front}
use Rattle.words.proofs.Tests.{less_or_not}
use Rattle.lang.specs.declared.Written.TheVariants.{Count, Refused}
use Rattle.lang.specs.Every.{both}
use Rattle.lang.specs.Checks.{unless}
use Rattle.lang.specs.Answers.{written_reply, list_of}
use Rattle.lang.proofs.Every.{both_left, both_right}
use Rattle.lang.proofs.Refusals.{refused_answer, taken_answer}
use Rattle.lang.proofs.Filled.{refused_list}
use Rattle.columns.specs.Lines.{Line}
use Rattle.columns.specs.Replying.{line_of, loop_line, item_line, word_lines, bytes_of, reply_bytes, reply_refusal, WritesReply}
use Rattle.text_lines.specs.Writing.{lines_from, line_bytes, HasRoom, Puts, lines_fit, PutsWhere}
use Rattle.text_digits.proofs.Stores.{sets_after}
use Rattle.text_lines.proofs.Bytes.{bytes_none, bytes_first, line_length_lem}
use Rattle.text_lines.proofs.Steps.{puts_both, puts_length}
use Rattle.text_reply.specs.Sizes.{capped_size, table_bytes}
use Rattle.text_reply.proofs.Shapes.{loop_lines, item_lines, one_line, puts_lines}
use Rattle.text_reply.proofs.Counts.{capped_size_below, capped_size_over, reply_is}

-- ---- W and T

module _ (letters : ℕ) (items : List ℤ) where
  -- a negative length says that there is no word
  pub no_word : 2 ^ 31 ≤ letters → bytes_of (word_lines (number_of letters) items) ≡ []
  no_word h = ap (λ (z : ℤ). bytes_of (word_lines z items)) (number_neg letters h) ∙ bytes_none

module _ (letters : ℕ) (items : List ℤ) (h : letters < 2 ^ 31) (l : List ℕ) (at : ℕ) where
  abbrev first_line_lem : Line
  first_line_lem = line_of 87 (number_of letters ∷ [])

  abbrev all_items : List ℕ
  all_items = bytes_of (tabulate (length items / 6) (item_line items))

  word_is : bytes_of (word_lines (number_of letters) items) ≡ line_bytes first_line_lem ++ all_items
  word_is =
      ap (λ (z : ℤ). bytes_of (word_lines z items)) (number_pos letters h)
      ∙ bytes_first (line_of 87 (pos letters ∷ [])) (tabulate (length items / 6) (item_line items))
      ∙ ap (λ (z : ℤ). line_bytes (line_of 87 (z ∷ [])) ++ all_items) (sym (number_pos letters h))

  pub word_put : HasRoom (bytes_of (word_lines (number_of letters) items)) l at → (z : ℤ) → z ≡ number_of letters → (d : List ℕ) (j : ℕ) →
      PutsWhere (lines_fit 1 0 1 at (length l)) (bytes_of (lines_from 87 1 (z ∷ []) 0 1)) l at j d →
      (d' : List ℕ) (n : ℕ) → PutsWhere (lines_fit 6 0 (length items / 6) j (length d)) (bytes_of (lines_from 84 6 items 0 (length items / 6))) d j n d' →
      d' ≡ sets l at (bytes_of (word_lines (number_of letters) items))
  word_put r z e d j p d' n q =
      let s : length (bytes_of (word_lines (number_of letters) items))
      ≡ 14 + length all_items = omega (arith, ap length word_is, length-append (line_bytes first_line_lem) all_items, line_length_lem first_line_lem) in
      let a : Puts (line_bytes first_line_lem) l at j d = puts_lines 87 1 (z ∷ []) 0 1 (omega arith) (omega arith)
      (one_line 87 z ∙ ap (λ (y : ℤ). line_bytes (line_of 87 (y ∷ []))) e) (omega (arith, r, s, line_length_lem first_line_lem)) p in
      let b : Puts all_items d j n d' = puts_lines 84 6 items 0 (length items / 6) (omega arith) (omega arith)
      (ap bytes_of (item_lines items (length items / 6))) (omega (arith, r, s, a.next, puts_length a, line_length_lem first_line_lem)) q in
      (puts_both a b).written ∙ ap (sets l at) (sym word_is)

-- ---- all parts

-- X, all of them
abbrev pub loop_bytes : List ℤ → List ℕ
loop_bytes loops = bytes_of (tabulate (length loops / 2) (loop_line loops))

pub loops_put : (loops : List ℤ) {d d' : List ℕ} {j m : ℕ} → HasRoom (loop_bytes loops) d j →
    PutsWhere (lines_fit 2 0 (length loops / 2) j (length d)) (bytes_of (lines_from 88 2 loops 0 (length loops / 2))) d j m d' → Puts (loop_bytes loops) d j m d'
loops_put loops r q = puts_lines 88 2 loops 0 (length loops / 2) (omega arith) (omega arith) (ap bytes_of (loop_lines loops (length loops / 2))) r q

module _ (pairs ops loops : List ℤ) (letters : ℤ) (items : List ℤ) (l : List ℕ) (r : length (reply_bytes pairs ops loops letters items) ≤ length l) where
  abbrev front : List ℕ
  front = table_bytes pairs ops ++ loop_bytes loops

  abbrev the_word : List ℕ
  the_word = bytes_of (word_lines letters items)

  pub parts_fit : length (table_bytes pairs ops) + length (loop_bytes loops) + length the_word ≤ length l
  parts_fit =
      omega (arith, r, ap length (reply_is pairs ops loops letters items), length-append front the_word, length-append (table_bytes pairs ops) (loop_bytes loops))

  module _ {d : List ℕ} {m : ℕ} (p : Puts front l 0 m d) where
    pub word_fits : HasRoom the_word d m
    word_fits = omega (arith, parts_fit, p.next, puts_length p, length-append (table_bytes pairs ops) (loop_bytes loops))

    pub all_put : {d' : List ℕ} → d' ≡ sets d m the_word → d' ≡ sets l 0 (reply_bytes pairs ops loops letters items)
    all_put {d'} e = sets_after front the_word l d d' 0 m p.written p.next e ∙ ap (sets l 0) (sym (reply_is pairs ops loops letters items))

-- ---- zeros after the reply, which is written at the front

pub rest_zeroed : (bytes l d zs : List ℕ) (size : ℕ) → length bytes ≤ length l → size ≡ length bytes → d ≡ sets l 0 bytes →
    zs ≡ replicate (length (mid_of size (length d - size) d)) 0 → put_mid size (length d - size) d zs ≡ bytes ++ replicate (length l - length bytes) 0
rest_zeroed bytes l d zs size h s e z =
    let k : length d ≡ length l = ap length e ∙ length-sets l 0 bytes in
    let b : take size d ≡ bytes = ap (take size) (e ∙ sets_front bytes l h) ∙ take_at bytes (drop (length bytes) l) size (sym s) in
    let m : length (mid_of size (length d - size) d) ≡ length l - length bytes = mid_len size (length d) d (omega arith) ∙ (λ i. k i - s i) in
    let r : zs ++ post_of size (length d - size) d ≡ replicate (length l - length bytes) 0 =
    (λ i. (z ∙ ap (λ (n : ℕ). replicate n 0) m) i ++ (Post-is size (length d) d (omega arith) ∙ drop-length d) i)
    ∙ append-nil (replicate (length l - length bytes) 0) in
    λ i. b i ++ r i

-- ---- what is answered

module _ (bytes l : List ℕ) (size : ℕ) (s : size ≡ capped_size (length bytes)) (t : Bool) (e : t ≡ both (leb size 65536) (leb size (length l))) where
  test_by : (n : ℕ) → (n < 65537) ⊎ (65537 ≤ n) → both (leb (capped_size n) 65536) (leb (capped_size n) (length l)) ≡ both (leb n 65536) (leb n (length l))
  test_by n (inl h) = rw (capped_size_below n h)
  test_by n (inr h) = rw (capped_size_over n h, lt-leb n 65536 h)

  test_is : both (leb (length bytes) 65536) (leb (length bytes) (length l)) ≡ t
  test_is =
      sym (e ∙ ap (λ (n : ℕ). both (leb n 65536) (leb n (length l))) s ∙ test_by (length bytes) (less_or_not (length bytes) 65537))

  -- there is no room
  pub reply_refused : t ≡ false → (d : List ℕ) → d ≡ replicate (length l) 0 → WritesReply bytes l (Refused 15) d
  reply_refused f d z =
      let r : 15 ≡ reply_refusal bytes (length l) = sym (ap (unless 15) (test_is ∙ f)) in
      record { answer = refused_answer (length bytes) r (λ n. omega (arith, n)); list = refused_list 0 (length l) bytes r (λ n. omega (arith, n)) z }

  -- there is room
  module _ (f : t ≡ true) where
    small : length bytes ≤ 65536
    small = leb-true (length bytes) 65536 (both_left (leb (length bytes) 65536) (leb (length bytes) (length l)) (test_is ∙ f))

    pub reply_fits : length bytes ≤ length l
    reply_fits = leb-true (length bytes) (length l) (both_right (leb (length bytes) 65536) (leb (length bytes) (length l)) (test_is ∙ f))

    pub size_is : size ≡ length bytes
    size_is = s ∙ capped_size_below (length bytes) (omega (arith, small))

    pub reply_taken : (d : List ℕ) → d ≡ bytes ++ replicate (length l - length bytes) 0 → WritesReply bytes l (Count size) d
    reply_taken d z =
        let r : reply_refusal bytes (length l) ≡ 0 = ap (unless 15) (test_is ∙ f) in
        record {
          answer = ap (λ (n : ℕ). written_reply (Count n)) size_is ∙ taken_answer (length bytes) r;
          list = z ∙ sym (ap (λ (n : ℕ). list_of n 0 (length l) bytes) r);
        }
