-- A reply read back: the lines of a table whose ops follow one another, of loops and of a word, read one after the other, give the lists that they were written
-- from. Assumes nothing.
use mathlib.Core.Path.{◌≡◌, refl, sym, ap, ◌∙◌}
use mathlib.Core.Bool.{true}
use mathlib.Core.List.{List, [], ◌∷◌, ◌++◌, map, append_assoc, append-nil}
use mathlib.Core.Option.{Option, none, some}
use Prim.Native.Nat.{ℕ, zero, suc, ◌+◌, ◌*◌, ◌/◌, ◌%◌, ◌<◌, ◌≤◌}
use native.Mathlib.Nat.{mul-zero, mul-suc}
use native.Mathlib.Omega.{arith}
use lib.IntN.{ℤ, pos, negsuc}
use lib.ListN.{length, get_or, take}
use lib.Seq.{take-suc, take-length, length-take-le}
use borrow.Author.Tests.{le-leb}
use Rattle.words.specs.Lists.{tabulate}
use Rattle.captions.specs.Tables.{pair_count, op_count, number, first_op, count_of}
use Rattle.captions.specs.Form.{ops_end}
use Rattle.columns.specs.Lines.{Line, write_line}
use Rattle.columns.specs.Replying.{line_of, pair_line, op_line, pair_lines, table_lines, loop_line, item_line, word_lines, bytes_of, reply_bytes}
use Rattle.columns.specs.Purpose.{is_i32, all_i32}
use Rattle.columns.specs.ReplyRead.{Reported, reported_of, nothing_reported, report, report_to, report_lines, report_all, read_reply}
use Rattle.columns.proofs.Fitting.{Fits}
use Rattle.columns.proofs.LinesBack.{Writable, AllWritable, none, line, lines_back, writable_both, writable_tabulated}
use Rattle.columns.proofs.Theorems.{line_read}

-- ---- lines that are read

unfoldable reports : List Line → Option Reported → Option Reported
reports [] r = r
reports (l ∷ ls) r = reports ls (report_to r (some l))

reports_both : (ls ks : List Line) (r : Option Reported) → reports (ls ++ ks) r ≡ reports ks (reports ls r)
unfolding reports
reports_both [] ks r = refl
reports_both (l ∷ ls) ks r = reports_both ls ks (report_to r (some l))

lines_reported : {ls : List Line} → AllWritable ls → (r : Option Reported) → report_lines (map write_line ls) r ≡ reports ls r
unfolding report_lines reports
lines_reported none r = refl
lines_reported (line {l = l} {ls = ls} h t) r =
    ap (λ (o : Option Line). report_lines (map write_line ls) (report_to r o)) (line_read l h.fits) ∙ lines_reported t (report_to r (some l))

bytes_reported : {ls : List Line} → AllWritable ls → read_reply (bytes_of ls) ≡ reports ls (some nothing_reported)
bytes_reported h = ap report_all (lines_back h) ∙ lines_reported h (some nothing_reported)

-- ---- lines of w numbers each, from place s of a list on

abbrev group : List ℤ → ℕ → ℕ → List ℤ
group xs s w = tabulate w (λ j. get_or xs (s + j) (pos 0))

take_group : (xs : List ℤ) (s w : ℕ) → s + w ≤ length xs → take s xs ++ group xs s w ≡ take (s + w) xs
unfolding tabulate
take_group xs s zero h = let e : s + 0 ≡ s = omega arith in rw e (append-nil (take s xs))
take_group xs s (suc w) h =
    let e : s + suc w ≡ suc (s + w) = omega arith in
    let x = get_or xs (s + w) (pos 0) ∷ [] in
    sym (append_assoc (take s xs) (group xs s w) x)
    ∙ ap (λ (l : List ℤ). l ++ x) (take_group xs s w (omega arith))
    ∙ sym (take-suc xs (s + w) (pos 0) (omega arith))
    ∙ ap (λ (n : ℕ). take n xs) (sym e)

module _ (w : ℕ) (xs : List ℤ) (s : ℕ) (put : List ℤ → Reported) (lines : ℕ → Line)
    (one : (n : ℕ) → report (put (take (s + w * n) xs)) (some (lines n)) ≡ some (put (take (s + w * n) xs ++ group xs (s + w * n) w))) where
  groups : (n : ℕ) → s + w * n ≤ length xs → reports (tabulate n lines) (some (put (take s xs))) ≡ some (put (take (s + w * n) xs))
  unfolding tabulate reports
  groups zero h = let e : s + w * 0 ≡ s = omega (arith, mul-zero w) in rw e
  groups (suc n) h =
      let e : s + w * suc n ≡ s + w * n + w = omega (arith, mul-suc w n) in
      reports_both (tabulate n lines) (lines n ∷ []) (some (put (take s xs)))
      ∙ ap (λ (r : Option Reported). report_to r (some (lines n))) (groups n (omega (arith, h, e)))
      ∙ one n
      ∙ ap (λ (l : List ℤ). some (put l)) (take_group xs (s + w * n) w (omega (arith, h, e)) ∙ ap (λ (m : ℕ). take m xs) (sym e))

-- the numbers of such a line, by their places
two_at : (xs : List ℤ) (s a b : ℕ) → a ≡ s + 0 → b ≡ s + 1 → get_or xs a (pos 0) ∷ get_or xs b (pos 0) ∷ [] ≡ group xs s 2
unfolding tabulate
two_at xs s a b p q i = get_or xs (p i) (pos 0) ∷ get_or xs (q i) (pos 0) ∷ []

-- ---- the parts of a reply

abbrev pairs_to : Reported → List ℤ → Reported
pairs_to r zs = reported_of zs r.ops r.loops r.letters r.items

abbrev ops_to : Reported → List ℤ → Reported
ops_to r zs = reported_of r.pairs zs r.loops r.letters r.items

abbrev loops_to : Reported → List ℤ → Reported
loops_to r zs = reported_of r.pairs r.ops zs r.letters r.items

abbrev items_to : Reported → List ℤ → Reported
items_to r zs = reported_of r.pairs r.ops r.loops r.letters zs

abbrev letters_to : Reported → ℤ → Reported
letters_to r n = reported_of r.pairs r.ops r.loops n r.items

-- the ops from place m on
ops_reported : (r : Reported) (ops : List ℤ) (m c : ℕ) → 2 * m + 2 * c ≤ length ops →
    reports (tabulate c (λ j. op_line ops (m + j))) (some (ops_to r (take (2 * m) ops))) ≡ some (ops_to r (take (2 * m + 2 * c) ops))
ops_reported r ops m c h =
    groups 2 ops (2 * m) (ops_to r) (λ j. op_line ops (m + j))
    (λ n. ap (λ (zs : List ℤ). some (ops_to r (take (2 * m + 2 * n) ops ++ zs)))
    (two_at ops (2 * m + 2 * n) (2 * (m + n)) (2 * (m + n) + 1) (omega arith) (omega arith)))
    c h

whole : (xs : List ℤ) (n : ℕ) → n ≡ length xs → take n xs ≡ xs
whole xs n e = ap (λ (k : ℕ). take k xs) e ∙ take-length xs

loops_reported : (r : Reported) (loops : List ℤ) (n : ℕ) → length loops ≡ 2 * n →
    reports (tabulate n (loop_line loops)) (some (loops_to r [])) ≡ some (loops_to r loops)
loops_reported r loops n h =
    groups 2 loops 0 (loops_to r) (loop_line loops)
    (λ k. ap (λ (zs : List ℤ). some (loops_to r (take (0 + 2 * k) loops ++ zs))) (two_at loops (0 + 2 * k) (2 * k) (2 * k + 1) (omega arith) (omega arith)))
    n (omega (arith, h))
    ∙ ap (λ (zs : List ℤ). some (loops_to r zs)) (whole loops (0 + 2 * n) (omega (arith, h)))

six_at_lem : (xs : List ℤ) (k : ℕ) → (item_line xs k).numbers ≡ group xs (0 + 6 * k) 6
unfolding tabulate
six_at_lem xs k =
    let p : 6 * k ≡ 0 + 6 * k + 0 = omega arith in
    let z : 6 * k ≡ 0 + 6 * k = omega arith in
    λ i.
    get_or xs (p i) (pos 0) ∷ get_or xs (z i + 1) (pos 0) ∷ get_or xs (z i + 2) (pos 0) ∷ get_or xs (z i + 3) (pos 0) ∷ get_or xs (z i + 4) (pos 0)
    ∷ get_or xs (z i + 5) (pos 0)
    ∷ []

items_reported : (r : Reported) (items : List ℤ) (n : ℕ) → length items ≡ 6 * n →
    reports (tabulate n (item_line items)) (some (items_to r [])) ≡ some (items_to r items)
items_reported r items n h =
    groups 6 items 0 (items_to r) (item_line items) (λ k. ap (λ (zs : List ℤ). some (items_to r (take (0 + 6 * k) items ++ zs))) (six_at_lem items k)) n
    (omega (arith, h))
    ∙ ap (λ (zs : List ℤ). some (items_to r zs)) (whole items (0 + 6 * n) (omega (arith, h)))

-- ---- the table

-- k pairs and m ops
abbrev table_to : List ℤ → List ℤ → ℕ → ℕ → Reported
table_to pairs ops k m = reported_of (take (6 * k) pairs) (take (2 * m) ops) [] (negsuc 0) []

-- whole pairs and ops, where each pair's ops follow those of the pair before it and none is left over
pub record Contiguous (pairs ops : List ℤ) : Type 0 where
  pub sixes : length pairs ≡ 6 * pair_count pairs
  pub twos : length ops ≡ 2 * op_count ops
  pub first : (k : ℕ) → k < pair_count pairs → number pairs k 4 ≡ pos (first_op pairs k)
  pub follows : (k : ℕ) → k < pair_count pairs → first_op pairs k ≡ ops_end pairs k
  pub inside : (k : ℕ) → k < pair_count pairs → first_op pairs k + count_of pairs k ≤ op_count ops
  pub all : ops_end pairs (pair_count pairs) ≡ op_count ops

-- a pair's line after m ops, which its first number of ops is
pair_reported : (pairs ops : List ℤ) (k m : ℕ) → 6 * k + 6 ≤ length pairs → 2 * m ≤ length ops → number pairs k 4 ≡ pos m →
    report (table_to pairs ops k m) (some (pair_line pairs k)) ≡ some (table_to pairs ops (suc k) m)
unfolding tabulate
pair_reported pairs ops k m h l e =
    let n : length (take (2 * m) ops) / 2 ≡ m = omega (arith, length-take-le (2 * m) ops l) in
    let f : pos (length (take (2 * m) ops) / 2) ≡ number pairs k 4 = ap pos n ∙ sym e in
    let s : 6 * suc k ≡ 6 * k + 6 = omega arith in
    let four = number pairs k 0 ∷ number pairs k 1 ∷ number pairs k 2 ∷ number pairs k 3 ∷ [] in
    ap (λ (l : List ℤ). some (pairs_to (table_to pairs ops k m) l))
    (append_assoc (take (6 * k) pairs) four (pos (length (take (2 * m) ops) / 2) ∷ number pairs k 5 ∷ []))
    ∙ (λ i. some
    (pairs_to (table_to pairs ops k m)
    (take (6 * k) pairs ++ (number pairs k 0 ∷ number pairs k 1 ∷ number pairs k 2 ∷ number pairs k 3 ∷ f i ∷ number pairs k 5 ∷ []))))
    ∙ ap (λ (l : List ℤ). some (pairs_to (table_to pairs ops k m) l)) (take_group pairs (6 * k) 6 h ∙ ap (λ (j : ℕ). take j pairs) (sym s))

module _ (pairs ops : List ℤ) (c : Contiguous pairs ops) where
  table_reported : (k : ℕ) → k ≤ pair_count pairs → reports (table_lines pairs ops k) (some nothing_reported) ≡ some (table_to pairs ops k (ops_end pairs k))
  unfolding table_lines reports
  table_reported zero h = refl
  table_reported (suc k) h =
      let m = ops_end pairs k in
      let n = count_of pairs k in
      let f = c.follows k h in
      let i = c.inside k h in
      let a : 6 * k + 6 ≤ length pairs = omega (arith, c.sixes, h) in
      let b : 2 * m + 2 * n ≤ length ops = omega (arith, c.twos, f, i) in
      let p = pair_reported pairs ops k m a (omega (arith, b)) (c.first k h ∙ ap pos f) in
      let lines : tabulate n (λ j. op_line ops (first_op pairs k + j))
      ≡ tabulate n (λ j. op_line ops (m + j)) = ap (λ (x : ℕ). tabulate n (λ j. op_line ops (x + j))) f in
      let e : 2 * m + 2 * n ≡ 2 * (first_op pairs k + n) = omega (arith, f) in
      reports_both (table_lines pairs ops k) (pair_lines pairs ops k) (some nothing_reported)
      ∙ ap (reports (pair_lines pairs ops k)) (table_reported k (omega arith))
      ∙ ap (reports (tabulate n (λ j. op_line ops (first_op pairs k + j)))) p
      ∙ ap (λ (ls : List Line). reports ls (some (table_to pairs ops (suc k) m))) lines
      ∙ ops_reported (table_to pairs ops (suc k) m) ops m n b
      ∙ ap (λ (j : ℕ). some (ops_to (table_to pairs ops (suc k) m) (take j ops))) e

  whole_reported : reports (table_lines pairs ops (pair_count pairs)) (some nothing_reported)
      ≡ some (reported_of pairs ops [] (negsuc 0) [])
  whole_reported =
      table_reported (pair_count pairs) (omega arith)
      ∙ (λ i. some (reported_of (whole pairs (6 * pair_count pairs) (sym c.sixes) i) (ends i) [] (negsuc 0) []))
    where
      ends : take (2 * ops_end pairs (pair_count pairs)) ops ≡ ops
      ends = whole ops (2 * ops_end pairs (pair_count pairs)) (omega (arith, c.all, c.twos))

-- ---- the word

-- no word, and nothing set; or so many letters, and items of six i32 each
pub data Worded : ℤ → List ℤ → Type 0 where
  without : Worded (negsuc 0) []
  letters : (n : ℕ) (items : List ℤ) → n ≤ 2147483647 → length items % 6 ≡ 0 → Fits items → Worded (pos n) items

word_reported : (r : Reported) {n : ℤ} {items : List ℤ} → Worded n items →
    reports (word_lines n items) (some (items_to (letters_to r (negsuc 0)) [])) ≡ some (items_to (letters_to r n) items)
unfolding reports
word_reported r without = refl
word_reported r (letters n items l s f) = items_reported (letters_to r (pos n)) items (length items / 6) (omega (arith, s))

-- ---- every line is read back

two_fit : (a b : ℤ) → is_i32 a ≡ true → is_i32 b ≡ true → all_i32 (a ∷ b ∷ []) ≡ true
unfolding all_i32
two_fit a b e f = rw (e, f)

pair_writable : (pairs : List ℤ) (k : ℕ) → Fits pairs → Writable (pair_line pairs k)
unfolding all_i32
pair_writable pairs k f =
    record { letter = λ e. omega (arith, e); fits = rw (f (6 * k + 0), f (6 * k + 1), f (6 * k + 2), f (6 * k + 3), f (6 * k + 5)) }

item_writable : (items : List ℤ) (i : ℕ) → Fits items → Writable (item_line items i)
unfolding all_i32
item_writable items i f =
    record { letter = λ e. omega (arith, e); fits = rw (f (6 * i), f (6 * i + 1), f (6 * i + 2), f (6 * i + 3), f (6 * i + 4), f (6 * i + 5)) }

table_writable : (pairs ops : List ℤ) → Fits pairs → Fits ops → (k : ℕ) → AllWritable (table_lines pairs ops k)
unfolding table_lines
table_writable pairs ops f g zero = none
table_writable pairs ops f g (suc k) =
    writable_both (table_writable pairs ops f g k)
    (line (pair_writable pairs k f)
    (writable_tabulated (count_of pairs k) (λ j. op_line ops (first_op pairs k + j))
    (λ j. let i = first_op pairs k + j in
    record { letter = λ e. omega (arith, e); fits = two_fit (get_or ops (2 * i) (pos 0)) (get_or ops (2 * i + 1) (pos 0)) (g (2 * i)) (g (2 * i + 1)) })))

loops_writable : (loops : List ℤ) → Fits loops → (n : ℕ) → AllWritable (tabulate n (loop_line loops))
loops_writable loops f n =
    writable_tabulated n (loop_line loops)
    (λ i. record
    { letter = λ e. omega (arith, e); fits = two_fit (get_or loops (2 * i) (pos 0)) (get_or loops (2 * i + 1) (pos 0)) (f (2 * i)) (f (2 * i + 1)) })

word_writable : {n : ℤ} {items : List ℤ} → Worded n items → AllWritable (word_lines n items)
unfolding all_i32
word_writable without = none
word_writable (letters n items l s f) =
    line {l = line_of 87 (pos n ∷ [])} (record { letter = λ e. omega (arith, e); fits = rw (le-leb n 2147483647 l) })
    (writable_tabulated (length items / 6) (item_line items) (λ i. item_writable items i f))

-- ---- the reply

pub reply_read : (pairs ops loops : List ℤ) {n : ℤ} {items : List ℤ} → Contiguous pairs ops → Fits pairs → Fits ops → length loops % 2 ≡ 0 → Fits loops →
    Worded n items →
    read_reply (reply_bytes pairs ops loops n items) ≡ some (reported_of pairs ops loops n items)
reply_read pairs ops loops {n} {items} c f g s h w =
    let t = table_lines pairs ops (pair_count pairs) in
    let x = tabulate (length loops / 2) (loop_line loops) in
    let y = word_lines n items in
    let r : Reported = reported_of pairs ops [] (negsuc 0) [] in
    bytes_reported
    (writable_both (writable_both (table_writable pairs ops f g (pair_count pairs)) (loops_writable loops h (length loops / 2))) (word_writable w))
    ∙ reports_both (t ++ x) y (some nothing_reported)
    ∙ ap (reports y)
    (reports_both t x (some nothing_reported) ∙ ap (reports x) (whole_reported pairs ops c) ∙ loops_reported r loops (length loops / 2) (omega (arith, s)))
    ∙ word_reported (loops_to r loops) w
