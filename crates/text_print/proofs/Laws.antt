-- From what `ligcols` and `ligcols_convert` answered to what is printed: the bytes, or the line N. Over plain values.
-- Assumes nothing.
use mathlib.Core.Path.{◌≡◌, refl, sym, ap, ◌∙◌}
use mathlib.Core.Bool.{true}
use mathlib.Core.List.{List, [], ◌∷◌, ◌++◌}
use Prim.Native.Nat.{ℕ, zero, suc, ◌+◌, ◌-◌, ◌^◌, ◌<◌, ◌≤◌}
use native.Mathlib.Omega.{arith}
use lib.IntN.{ℤ, pos, negsuc}
use lib.ListN.{length, take, replicate, length-replicate}
use lib.Seq.{sets}
use mir.Syntax.{w32}
use mir.Val.{of_z, to_z}
use Rattle.words.specs.Words.{Word, number_of}
use Rattle.words.specs.Lists.{tabulate}
use Rattle.words.proofs.Bits.{number_pos, read_pos, read_neg}
use Rattle.words.proofs.Lists.{drop_replicate, sets_front}
use Rattle.lang.specs.Answers.{padded, list_of}
use Rattle.lang.proofs.Records.{number_stored}
use Rattle.columns.specs.Texts.{read_text}
use Rattle.columns.specs.Replying.{line_of, bytes_of}
use Rattle.columns.specs.Ligcols.{number_of_text, bytes_of_text, length_or, AnswersText}
use Rattle.columns.specs.Converting.{converted_text, convert_number, ConvertsText}
use Rattle.text_lines.specs.Writing.{lines_from, lines_fit, PutsWhere}
use Rattle.text_lines.proofs.Bytes.{bytes_one, line_length_lem}
use Rattle.text_lines.proofs.Taken.{where_puts, taken_is}
use Rattle.text_print.specs.Printing.{refusal_bytes, printed_bytes, IsAnswer, printed_length, printed_over, PrintsNumber, Prints, PrintsConverted}

-- ---- what was answered

refusal_known : (m k n : ℕ) → negsuc n ≡ length_or m k → m ≡ suc n
refusal_known zero k n e = absurd (let z : ◌≡◌ {A = ℕ} 0 1 = cc in omega arith)
refusal_known (suc m) k n e = cc

-- ---- the line N

refusal_length : (m : ℕ) → length (refusal_bytes m) ≡ 14
refusal_length m = ap length (bytes_one (line_of 78 (pos m ∷ []))) ∙ line_length_lem (line_of 78 (pos m ∷ []))

line_is : (z : ℤ) (m : ℕ) → z ≡ pos m → bytes_of (lines_from 78 1 (z ∷ []) 0 1) ≡ refusal_bytes m
unfolding tabulate
line_is z m e = ap (λ (x : ℤ). bytes_of (lines_from 78 1 (x ∷ []) 0 1)) e

-- .. written at the front of zeros
line_written : (bytes : List ℕ) → length bytes ≤ 65536 → sets (replicate 65536 0) 0 bytes ≡ padded 0 65536 bytes
line_written bytes l =
    sets_front bytes (replicate 65536 0) (omega (arith, length-replicate {A = ℕ} 65536 0))
    ∙ ap (λ (t : List ℕ). bytes ++ t) (drop_replicate (length bytes) 65536 0)

-- ---- an answer as it is printed

module _ {z : ℤ} {w : ℕ} (word : Word z w) (out : List ℕ) where
  -- a length
  pub length_printed : w < 2 ^ 31 → PrintsNumber z out w out
  length_printed l =
      let e : z ≡ pos w = read_pos word l in
      record { answer = sym (ap printed_length e); list = sym (ap (λ (y : ℤ). printed_over y out) e) }

  module _ (some : IsAnswer z) (room : 14 ≤ length out) (h : 2 ^ 31 ≤ w) where
    below : z ≡ negsuc (2 ^ 32 - suc w)
    below = read_neg word h

    abbrev number : ℕ
    number = suc (2 ^ 32 - suc w)

    few : number < 2 ^ 31
    few = omega (arith, some.low (2 ^ 32 - suc w) below)

    -- the number of the refusal as it is stored in a list
    number_is : (x : ℤ) → x ≡ number_of (4294967295 - w + 1) → to_z w32 (of_z w32 x) ≡ pos number
    number_is x s =
        let n : 4294967295 - w + 1 ≡ number = omega (arith, few, h) in
        number_stored (4294967295 - w + 1) x s (omega (arith, few, n)) ∙ ap number_of n ∙ number_pos number few

    -- minus a number: the line N
    pub number_printed : (x : ℤ) → x ≡ number_of (4294967295 - w + 1) → (r : ℕ) (out' : List ℕ) →
        PutsWhere (lines_fit 1 0 1 0 (length out)) (bytes_of (lines_from 78 1 (to_z w32 (of_z w32 x) ∷ []) 0 1)) out 0 r out' → PrintsNumber z out r out'
    number_printed x s r out' p =
        let b : bytes_of (lines_from 78 1 (to_z w32 (of_z w32 x) ∷ []) 0 1) ≡ refusal_bytes number = line_is (to_z w32 (of_z w32 x)) number (number_is x s) in
        let fit : lines_fit 1 0 1 0 (length out) ≡ true = taken_is 78 1 (to_z w32 (of_z w32 x) ∷ []) 0 1 out 0 (omega arith) (omega arith)
        (omega (arith, ap length b, refusal_length number, room)) in
        let q = where_puts (lines_fit 1 0 1 0 (length out)) fit p in
        record {
          answer = omega (arith, q.next, ap length b, ap printed_length below);
          list = q.written ∙ ap (sets out 0) b ∙ sym (ap (λ (y : ℤ). printed_over y out) below);
        }

-- ---- a text's answer as it is printed

pub is_answer : (m k : ℕ) {z : ℤ} → m ≤ 20 → z ≡ length_or m k → IsAnswer z
is_answer m k few e = record { low = λ n q. omega (arith, few, refusal_known m k n (sym q ∙ e)) }

pub printed_long : (m : ℕ) (bytes : List ℕ) {z : ℤ} → z ≡ length_or m (length bytes) → printed_length z ≡ length (printed_bytes m bytes)
printed_long zero bytes e = ap printed_length e
printed_long (suc m) bytes e = ap printed_length e

pub printed_list : (m : ℕ) (bytes : List ℕ) {z : ℤ} {out : List ℕ} → z ≡ length_or m (length bytes) → out ≡ list_of m 0 65536 bytes →
    printed_over z out ≡ padded 0 65536 (printed_bytes m bytes)
printed_list zero bytes {out = out} e l = ap (λ (y : ℤ). printed_over y out) e ∙ l
printed_list (suc m) bytes {out = out} e l =
    ap (λ (y : ℤ). printed_over y out) e
    ∙ ap (λ (t : List ℕ). sets t 0 (refusal_bytes (suc m))) l
    ∙ line_written (refusal_bytes (suc m)) (omega (arith, refusal_length (suc m)))

module _ (read : List ℕ) (got : ℕ) (one_more : length read ≡ 65537) {out out₁ out₂ : List ℕ} (long : length out ≡ 65536)
    (kept : length out₂ ≡ length out) {z : ℤ} {r : ℕ} (p : PrintsNumber z out₁ r out₂) where
  module _ (a : AnswersText (take got read) out z out₁) where
    pub answer_printed : Prints read got r out₂
    answer_printed =
        let o = read_text (take got read) in
        let n = ap (λ (n : ℕ). number_of_text o n) long in
        let e : z ≡ length_or (number_of_text o 65536) (length (bytes_of_text o)) = a.answer ∙ ap (λ (m : ℕ). length_or m (length (bytes_of_text o))) n in
        let l : out₁ ≡ list_of (number_of_text o 65536) 0 65536 (bytes_of_text o) = a.list ∙ (λ i. list_of (n i) 0 (long i) (bytes_of_text o)) in
        record {
          long = (one_more, kept ∙ long);
          answer = p.answer ∙ printed_long (number_of_text o 65536) (bytes_of_text o) e;
          list = p.list ∙ printed_list (number_of_text o 65536) (bytes_of_text o) e l;
        }

  module _ (a : ConvertsText (take got read) out z out₁) where
    pub converted_printed : PrintsConverted read got r out₂
    converted_printed =
        let o = read_text (take got read) in
        let b = converted_text (take got read) in
        let n = ap (λ (n : ℕ). convert_number o b n) long in
        let e : z ≡ length_or (convert_number o b 65536) (length b) = a.answer ∙ ap (λ (m : ℕ). length_or m (length b)) n in
        let l : out₁ ≡ list_of (convert_number o b 65536) 0 65536 b = a.list ∙ (λ i. list_of (n i) 0 (long i) b) in
        record {
          long = (one_more, kept ∙ long);
          answer = p.answer ∙ printed_long (convert_number o b 65536) b e;
          list = p.list ∙ printed_list (convert_number o b 65536) b e l;
        }
