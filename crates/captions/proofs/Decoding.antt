-- What compile writes, as a list of finished pairs with their entries, and what the numbers of one of them say.
-- Assumes nothing.
use mathlib.Core.Path.{◌≡◌, refl, sym, ap, ap₂, ◌∙◌}
use mathlib.Core.Bool.{Bool, true, false}
use mathlib.Core.List.{List, [], ◌∷◌, ◌++◌, append_assoc, append-nil}
use mathlib.Core.Option.{Option, none, some}
use Prim.Native.Nat.{ℕ, zero, suc, ◌+◌, ◌*◌, ◌<◌, ◌≤◌}
use native.Mathlib.Nat.{zero-add, le_of_suc-le-suc}
use native.Mathlib.Omega.{arith}
use lib.IntN.{ℤ, pos}
use lib.Dec.{eqb}
use lib.ListN.{length, get_or, take, drop, length-append, get_or-append}
use lib.Seq.{take-suc, take-length, split_at, get_or-append-add}
use Rattle.words.specs.Words.{word_of}
use Rattle.reading.specs.Items.{bnd, Item, item, code, flag, Out, glyph, kern}
use Rattle.reading.specs.Depth.{Res, Finished, Pair}
use Rattle.reading.specs.Loops.{Ruled}
use Rattle.fonts.specs.Numbers.{nth, entry_of, ops_of, ops_before, out_numbers, op_numbers, ops_table, left_number, flag_number, pair_numbers, pair_table}
use Rattle.compiling.proofs.OpLaws.{numbers_append}
use Rattle.captions.specs.Tables.{number, op_kind, op_value, op_of, op_at, ops_from, entry_of_pair}

-- ---- finished pairs, in order

pub record Entry : Type 0 where
  pub pair : Pair
  pub res : Res

abbrev pub one : Pair → Option Res → List Entry
one p none = []
one p (some q) = record { pair = p; res = q } ∷ []

unfoldable pub kept : Finished → List Ruled → List Entry
kept f [] = []
kept f (p ∷ ps) = one p.pair (f p.pair.left p.pair.right) ++ kept f ps

-- their ops, one after the other, and their numbers, where the first has its ops from n on
unfoldable pub ops_all : List Entry → List Out
ops_all [] = []
ops_all (x ∷ xs) = x.res.outs ++ ops_all xs

unfoldable pub table_from : ℕ → List Entry → List ℤ
table_from n [] = []
table_from n (x ∷ xs) = pair_numbers x.pair n (some x.res) ++ table_from (n + length x.res.outs) xs

kept_append : (f : Finished) (ps qs : List Ruled) → kept f (ps ++ qs) ≡ kept f ps ++ kept f qs
unfolding kept
kept_append f [] qs = refl
kept_append f (p ∷ ps) qs =
    let x = one p.pair (f p.pair.left p.pair.right) in
    ap (λ (l : List Entry). x ++ l) (kept_append f ps qs) ∙ sym (append_assoc x (kept f ps) (kept f qs))

pub ops_append : (xs ys : List Entry) → ops_all (xs ++ ys) ≡ ops_all xs ++ ops_all ys
unfolding ops_all
ops_append [] ys = refl
ops_append (x ∷ xs) ys = ap (λ (l : List Out). x.res.outs ++ l) (ops_append xs ys) ∙ sym (append_assoc x.res.outs (ops_all xs) (ops_all ys))

table_append : (n : ℕ) (xs ys : List Entry) → table_from n (xs ++ ys) ≡ table_from n xs ++ table_from (n + length (ops_all xs)) ys
unfolding ops_all table_from
table_append n [] ys = let e : n + 0 ≡ n = omega arith in rw e
table_append n (x ∷ xs) ys =
    let c = length x.res.outs in
    let e : n + c + length (ops_all xs) ≡ n + length (x.res.outs ++ ops_all xs) = omega (arith, length-append x.res.outs (ops_all xs)) in
    let h = table_append (n + c) xs ys ∙ ap (λ (m : ℕ). table_from (n + c) xs ++ table_from m ys) e in
    ap (λ (l : List ℤ). pair_numbers x.pair n (some x.res) ++ l) h

-- ---- the table that compile writes is their numbers

module _ (f : Finished) (ps : List Ruled) where
  abbrev kept_before : ℕ → List Entry
  kept_before k = kept f (take k ps)

  one_more : (k : ℕ) → k < length ps → kept_before (suc k) ≡ kept_before k ++ one (nth ps k).pair (entry_of f ps k)
  unfolding kept
  one_more k h =
      ap (kept f) (take-suc ps k (record { pair = record { left = bnd; right = 0 }; index = 0 }) h) ∙ kept_append f (take k ps) (nth ps k ∷ [])
      ∙ simp append-nil

  before_by : (xs : List Entry) (p : Pair) (o : Option Res) → length (ops_all xs) + length (ops_of o) ≡ length (ops_all (xs ++ one p o))
  unfolding ops_all
  before_by xs p none = rw append-nil (omega arith)
  before_by xs p (some q) = rw (ops_append xs (one p (some q))) (simp append-nil (sym (length-append (ops_all xs) q.outs)))

  table_by : (xs : List Entry) (p : Pair) (o : Option Res) → table_from 0 xs ++ pair_numbers p (length (ops_all xs)) o ≡ table_from 0 (xs ++ one p o)
  unfolding table_from
  table_by xs p none = simp append-nil
  table_by xs p (some q) = sym (rw zero-add at (table_append 0 xs (one p (some q))))

  ops_by : (xs : List Entry) (p : Pair) (o : Option Res) → op_numbers (ops_all xs) ++ op_numbers (ops_of o) ≡ op_numbers (ops_all (xs ++ one p o))
  unfolding ops_all op_numbers
  ops_by xs p none = simp append-nil
  ops_by xs p (some q) = rw (ops_append xs (one p (some q))) (simp append-nil (sym (numbers_append (ops_all xs) q.outs)))

  before_is : (k : ℕ) → k ≤ length ps → ops_before f ps k ≡ length (ops_all (kept_before k))
  unfolding ops_before kept ops_all
  before_is zero h = refl
  before_is (suc k) h =
      let o = entry_of f ps k in
      ap (λ (n : ℕ). n + length (ops_of o)) (before_is k (omega arith)) ∙ before_by (kept_before k) (nth ps k).pair o
      ∙ ap (λ (l : List Entry). length (ops_all l)) (sym (one_more k h))

  table_is : (k : ℕ) → k ≤ length ps → pair_table f ps k ≡ table_from 0 (kept_before k)
  unfolding pair_table kept table_from
  table_is zero h = refl
  table_is (suc k) h =
      let o = entry_of f ps k in
      let p = (nth ps k).pair in
      ap₂ (λ (l : List ℤ) (n : ℕ). l ++ pair_numbers p n o) (table_is k (omega arith)) (before_is k (omega arith)) ∙ table_by (kept_before k) p o
      ∙ ap (table_from 0) (sym (one_more k h))

  ops_is : (k : ℕ) → k ≤ length ps → ops_table f ps k ≡ op_numbers (ops_all (kept_before k))
  unfolding ops_table kept ops_all op_numbers
  ops_is zero h = refl
  ops_is (suc k) h =
      let o = entry_of f ps k in
      ap (λ (l : List ℤ). l ++ op_numbers (ops_of o)) (ops_is k (omega arith)) ∙ ops_by (kept_before k) (nth ps k).pair o
      ∙ ap (λ (l : List Entry). op_numbers (ops_all l)) (sym (one_more k h))

  pub whole_table : pair_table f ps (length ps) ≡ table_from 0 (kept f ps)
  whole_table = table_is (length ps) (omega arith) ∙ ap (λ (l : List Ruled). table_from 0 (kept f l)) (take-length ps)

  pub whole_ops : ops_table f ps (length ps) ≡ op_numbers (ops_all (kept f ps))
  whole_ops = ops_is (length ps) (omega arith) ∙ ap (λ (l : List Ruled). op_numbers (ops_all (kept f l))) (take-length ps)

-- ---- the numbers of one of them

-- one of them by its place
abbrev pub nowhere : Entry
nowhere = record { pair = record { left = bnd; right = 0 }; res = record { outs = []; last = item false 0 } }

abbrev pub entry : List Entry → ℕ → Entry
entry xs m = get_or xs m nowhere

-- how many ops come before its own
abbrev pub ops_up_to : List Entry → ℕ → ℕ
ops_up_to xs m = length (ops_all (take m xs))

abbrev numbers_of : ℕ → Entry → List ℤ
numbers_of n x = pair_numbers x.pair n (some x.res)

pub length_table : (n : ℕ) (xs : List Entry) → length (table_from n xs) ≡ 6 * length xs
unfolding table_from
length_table n [] = refl
length_table n (x ∷ xs) = omega (arith, length_table (n + length x.res.outs) xs)

pub number_at : (n : ℕ) (xs : List Entry) (m j : ℕ) → m < length xs → j < 6 →
    number (table_from n xs) m j ≡ get_or (numbers_of (n + ops_up_to xs m) (entry xs m)) j (pos 0)
unfolding table_from ops_all
number_at n [] m j h l = absurd (omega arith)
number_at n (x ∷ xs) zero j h l =
    let e : 6 * 0 + j ≡ j = omega arith in
    let z : n ≡ n + 0 = omega arith in
    rw e (get_or-append (numbers_of n x) (table_from (n + length x.res.outs) xs) (pos 0) j l ∙ ap (λ (i : ℕ). get_or (numbers_of i x) j (pos 0)) z)
number_at n (x ∷ xs) (suc m) j h l =
    let e : 6 * suc m + j ≡ 6 + (6 * m + j) = omega arith in
    let c = length x.res.outs in
    let z : n + c + ops_up_to xs m ≡ n + length (x.res.outs ++ ops_all (take m xs)) = omega (arith, length-append x.res.outs (ops_all (take m xs))) in
    ap (λ (i : ℕ). get_or (numbers_of n x ++ table_from (n + c) xs) i (pos 0)) e
    ∙ get_or-append-add (numbers_of n x) (table_from (n + c) xs) (6 * m + j) (pos 0)
    ∙ number_at (n + c) xs m j (le_of_suc-le-suc h) l
    ∙ ap (λ (i : ℕ). get_or (numbers_of i (entry xs m)) j (pos 0)) z

-- ---- ops

op_first : (o : Out) (rest : List ℤ) → op_at (out_numbers o ++ rest) 0 ≡ o
op_first (glyph (item false c)) rest = refl
op_first (glyph (item true c)) rest = refl
op_first (kern k) rest = refl

two_on : (o : Out) (rest : List ℤ) (i : ℕ) → get_or (out_numbers o ++ rest) (2 + i) (pos 0) ≡ get_or rest i (pos 0)
two_on (glyph (item false c)) rest i = get_or-append-add (out_numbers (glyph (item false c))) rest i (pos 0)
two_on (glyph (item true c)) rest i = get_or-append-add (out_numbers (glyph (item true c))) rest i (pos 0)
two_on (kern k) rest i = get_or-append-add (out_numbers (kern k)) rest i (pos 0)

module _ (o : Out) (rest : List ℤ) (i : ℕ) where
  pub kind_on : op_kind (out_numbers o ++ rest) (suc i) ≡ op_kind rest i
  kind_on =
      let e : 2 * suc i ≡ 2 + 2 * i = omega arith in
      ap (λ (j : ℕ). get_or (out_numbers o ++ rest) j (pos 0)) e ∙ two_on o rest (2 * i)

  pub value_on : op_value (out_numbers o ++ rest) (suc i) ≡ op_value rest i
  value_on =
      let e : 2 * suc i + 1 ≡ 2 + (2 * i + 1) = omega arith in
      ap (λ (j : ℕ). get_or (out_numbers o ++ rest) j (pos 0)) e ∙ two_on o rest (2 * i + 1)

  op_on : op_at (out_numbers o ++ rest) (suc i) ≡ op_at rest i
  op_on = ap₂ op_of kind_on value_on

ops_on : (o : Out) (rest : List ℤ) (i n : ℕ) → ops_from (out_numbers o ++ rest) (suc i) n ≡ ops_from rest i n
unfolding ops_from
ops_on o rest i zero = refl
ops_on o rest i (suc n) = ap₂ (λ (p : Out) (l : List Out). p ∷ l) (op_on o rest i) (ops_on o rest (suc i) n)

ops_first : (os : List Out) (rest : List ℤ) → ops_from (op_numbers os ++ rest) 0 (length os) ≡ os
unfolding ops_from op_numbers
ops_first [] rest = refl
ops_first (o ∷ os) rest =
    ap (λ (l : List ℤ). ops_from l 0 (length (o ∷ os))) (append_assoc (out_numbers o) (op_numbers os) rest)
    ∙ ap₂ (λ (p : Out) (l : List Out). p ∷ l) (op_first o (op_numbers os ++ rest)) (ops_on o (op_numbers os ++ rest) 0 (length os) ∙ ops_first os rest)

ops_after : (os : List Out) (rest : List ℤ) (n : ℕ) → ops_from (op_numbers os ++ rest) (length os) n ≡ ops_from rest 0 n
unfolding op_numbers
ops_after [] rest n = refl
ops_after (o ∷ os) rest n = rw (append_assoc (out_numbers o) (op_numbers os) rest) (ops_on o (op_numbers os ++ rest) (length os) n ∙ ops_after os rest n)

-- ops among others
pub ops_within : (ps os bs : List Out) → ops_from (op_numbers (ps ++ (os ++ bs))) (length ps) (length os) ≡ os
ops_within ps os bs =
    rw (numbers_append ps (os ++ bs), numbers_append os bs) (ops_after ps (op_numbers os ++ op_numbers bs) (length os) ∙ ops_first os (op_numbers bs))

-- ---- what the numbers of one of them say

flag_is : (b : Bool) (c : ℕ) → item (eqb (word_of (flag_number b)) 1) c ≡ item b c
flag_is true c = refl
flag_is false c = refl

item_is : (x : Item) → item (flag x) (code x) ≡ x
item_is (item b c) = refl

module _ (xs : List Entry) (m : ℕ) (h : m < length xs) where
  abbrev table : List ℤ
  table = table_from 0 xs

  number_is : (j : ℕ) → j < 6 → number table m j ≡ get_or (numbers_of (ops_up_to xs m) (entry xs m)) j (pos 0)
  number_is j l = number_at 0 xs m j h l ∙ ap (λ (n : ℕ). get_or (numbers_of n (entry xs m)) j (pos 0)) (zero-add (ops_up_to xs m))

  pub left_is : number table m 0 ≡ left_number (entry xs m).pair.left
  left_is = number_is 0 (omega arith)

  pub right_is : number table m 1 ≡ pos (entry xs m).pair.right
  right_is = number_is 1 (omega arith)

  pub last_is : number table m 2 ≡ pos (code (entry xs m).res.last)
  last_is = number_is 2 (omega arith)

  pub flag_number_is : number table m 3 ≡ flag_number (flag (entry xs m).res.last)
  flag_number_is = number_is 3 (omega arith)

  pub first_is : number table m 4 ≡ pos (ops_up_to xs m)
  first_is = number_is 4 (omega arith)

  pub count_is : number table m 5 ≡ pos (length (entry xs m).res.outs)
  count_is = number_is 5 (omega arith)

  pub split : ops_all xs ≡ ops_all (take m xs) ++ ((entry xs m).res.outs ++ ops_all (drop (suc m) xs))
  unfolding ops_all
  split = ap ops_all (split_at xs m nowhere h) ∙ ops_append (take m xs) (entry xs m ∷ drop (suc m) xs)

  ops_are : ops_from (op_numbers (ops_all xs)) (ops_up_to xs m) (length (entry xs m).res.outs) ≡ (entry xs m).res.outs
  ops_are = rw split (ops_within (ops_all (take m xs)) (entry xs m).res.outs (ops_all (drop (suc m) xs)))

  pub entry_is : entry_of_pair table (op_numbers (ops_all xs)) m ≡ (entry xs m).res
  entry_is =
      let x = (entry xs m).res in
      rw (last_is, flag_number_is, first_is, count_is)
      (λ i. record { outs = ops_are i; last = (flag_is (flag x.last) (code x.last) ∙ item_is x.last) i })
