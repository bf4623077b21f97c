-- The numbers of finished pairs in ascending order have the form of a pair table.
-- Assumes nothing.
use mathlib.Core.Path.{◌≡◌, refl, sym, ap, ap₂, ◌∙◌}
use mathlib.Core.Bool.{Bool, true, false, cond}
use mathlib.Core.List.{List, [], ◌∷◌, ◌++◌, Memᴰ}
use Prim.Native.Nat.{ℕ, zero, suc, ◌+◌, ◌%◌, ◌<◌, ◌≤◌}
use native.Mathlib.Nat.{le_of_suc-le-suc}
use native.Mathlib.Omega.{arith}
use lib.IntN.{ℤ}
use lib.Dec.{eqb}
use lib.ListN.{length, get_or, take, drop, length-append}
use lib.Seq.{take-suc, take-length}
use borrow.Author.Tests.{lt-ltb, le-leb, eq-eqb}
use Rattle.words.specs.Words.{word_of}
use Rattle.lang.specs.Every.{both, every}
use Rattle.lang.specs.Records.{within, absent_or}
use Rattle.lang.proofs.Every.{every_all}
use Rattle.reading.specs.Items.{Left, bnd, chr, Item, item, code, flag, Out, glyph, kern}
use Rattle.reading.specs.Depth.{Res, Pair}
use Rattle.reading.specs.Form.{ops_form, formed}
use Rattle.fonts.specs.Fonts.{left_of, number_of_left}
use Rattle.fonts.specs.Numbers.{out_numbers, op_numbers, left_number, flag_number}
use Rattle.compiling.proofs.RowLaws.{left_number_lem}
use Rattle.compiling.proofs.OpLaws.{length_numbers}
use Rattle.compiling.proofs.Sorted.{Pairwise, alone, first}
use Rattle.captions.specs.Tables.{pair_count, op_count, number, key_by, key_of, left_place, key_at, first_op, entry_of_pair, op_holds, op_fits, record_fits}
use Rattle.captions.specs.Form.{ops_end, comes_after, key_form, pair_form, table_form}
use Rattle.captions.proofs.Codes.{Small, nothing, character, skip, small_both, Coded}
use Rattle.captions.proofs.Decoding.{Entry, ops_all, ops_append, table_from, nowhere, entry, ops_up_to, length_table, kind_on, value_on, left_is, right_is}
use Rattle.captions.proofs.Decoding.{last_is, flag_number_is, first_is, count_is, split, entry_is}

-- ---- places of a list

module _ {A : Type 0} (d : A) where
  pub get_d_member : (xs : List A) (m : ℕ) → m < length xs → Memᴰ (get_or xs m d) xs
  get_d_member [] m h = absurd (omega arith)
  get_d_member (x ∷ xs) zero h = Memᴰ.head refl
  get_d_member (x ∷ xs) (suc m) h = Memᴰ.tail (get_d_member xs m (le_of_suc-le-suc h))

  pairwise_next : (R : A → A → Type 0) (xs : List A) → Pairwise R xs → (m : ℕ) → suc m < length xs → R (get_or xs m d) (get_or xs (suc m) d)
  pairwise_next R [] alone m h = absurd (omega arith)
  pairwise_next R (x ∷ xs) (first g p) zero h = g (get_or xs 0 d) (get_d_member xs 0 (omega arith))
  pairwise_next R (x ∷ xs) (first g p) (suc m) h = pairwise_next R xs p m (le_of_suc-le-suc h)

-- ---- keys

-- a pair's place in the order of pairs
abbrev pub place_of : Pair → ℕ
place_of p = key_of p.left p.right

abbrev pub Sooner : Entry → Entry → Type 0
Sooner x y = place_of x.pair < place_of y.pair

pub left_place_lem : (l : Left) → number_of_left l < 257 → left_place (left_number l) ≡ number_of_left l
left_place_lem bnd h = refl
left_place_lem (chr c) h = omega arith

-- ---- what is asked of a finished pair

-- its left is -1 to 255 and its right 0 to 255
pub record InRange (p : Pair) : Type 0 where
  pub left : number_of_left p.left < 257
  pub right : p.right < 256

pub record Good (x : Entry) : Type 0 where
  pub range : InRange x.pair
  pub coded : Coded x.res
  pub form : formed x.pair.left x.pair.right x.res ≡ true

both_of : {a b : Bool} → a ≡ true → b ≡ true → both a b ≡ true
both_of e h = rw (e, h)

-- ---- ops

holds_on : (o : Out) (rest : List ℤ) (i : ℕ) → op_holds (out_numbers o ++ rest) (suc i) ≡ op_holds rest i
holds_on o rest i = ap₂ (λ (k v : ℤ). cond (within 1 k) (within 255 v) (eqb (word_of k) 2)) (kind_on o rest i) (value_on o rest i)

ops_hold_lem : (os : List Out) → Small os → (i : ℕ) → i < length os → op_holds (op_numbers os) i ≡ true
unfolding op_numbers
ops_hold_lem [] nothing i h = absurd (omega arith)
ops_hold_lem (glyph x ∷ os) (character {f = false} {c = c} l s) zero h = le-leb c 255 (omega arith)
ops_hold_lem (glyph x ∷ os) (character {f = true} {c = c} l s) zero h = le-leb c 255 (omega arith)
ops_hold_lem (glyph x ∷ os) (character l s) (suc i) h = holds_on (glyph x) (op_numbers os) i ∙ ops_hold_lem os s i (le_of_suc-le-suc h)
ops_hold_lem (kern k ∷ os) (skip s) zero h = refl
ops_hold_lem (kern k ∷ os) (skip s) (suc i) h = holds_on (kern k) (op_numbers os) i ∙ ops_hold_lem os s i (le_of_suc-le-suc h)

small_all : (xs : List Entry) → ((x : Entry) → Memᴰ x xs → Good x) → Small (ops_all xs)
unfolding ops_all
small_all [] g = nothing
small_all (x ∷ xs) g = small_both (g x (Memᴰ.head refl)).coded.ops (small_all xs (λ y m. g y (Memᴰ.tail m)))

-- ---- one pair

flag_fits : (b : Bool) → within 1 (flag_number b) ≡ true
flag_fits true = refl
flag_fits false = refl

left_fits : (l : Left) → number_of_left l < 257 → absent_or 255 (left_number l) ≡ true
left_fits bnd h = refl
left_fits (chr c) h = le-leb c 255 (omega arith)

-- an unflagged last is the right
last_right : (l : Left) (r : ℕ) (b : Bool) (c : ℕ) (os : List Out) → formed l r (record { outs = os; last = item b c }) ≡ true →
    cond (eqb (word_of (flag_number b)) 1) true (eqb c r) ≡ true
last_right l r true c os e = refl
last_right l r false c os e = go (eqb c r) e
  where
    go : (t : Bool) → cond t (ops_form l os (item false c)) false ≡ true → t ≡ true
    go true h = refl
    go false h = h

last_of : (l : Left) (r : ℕ) (q : Res) → formed l r q ≡ true → cond (eqb (word_of (flag_number (flag q.last))) 1) true (eqb (code q.last) r) ≡ true
last_of l r q e = go q.last refl
  where
    go : (x : Item) → q.last ≡ x → cond (eqb (word_of (flag_number (flag x))) 1) true (eqb (code x) r) ≡ true
    go (item b c) i = last_right l r b c q.outs (rw i at e)

-- the numbers and the ops of a list of finished pairs
module _ (xs : List Entry) where
  abbrev pub pairs : List ℤ
  pairs = table_from 0 xs

  abbrev pub ops : List ℤ
  ops = op_numbers (ops_all xs)

  pub pair_count_lem : pair_count pairs ≡ length xs
  pair_count_lem = omega (arith, length_table 0 xs)

  op_count_lem : op_count ops ≡ length (ops_all xs)
  op_count_lem = omega (arith, length_numbers (ops_all xs))

-- ---- keys ascend

module _ (xs : List Entry) (ranged : (x : Entry) → Memᴰ x xs → InRange x.pair) where
  module _ (m : ℕ) (h : m < length xs) where
    pub range_at : InRange (entry xs m).pair
    range_at = ranged (entry xs m) (get_d_member nowhere xs m h)

    place_is : left_place (number (pairs xs) m 0) ≡ number_of_left (entry xs m).pair.left
    place_is = ap left_place (left_is xs m h) ∙ left_place_lem (entry xs m).pair.left range_at.left

    word_is : word_of (number (pairs xs) m 1) ≡ (entry xs m).pair.right
    word_is = ap word_of (right_is xs m h)

    pub key_is : key_at (pairs xs) m ≡ place_of (entry xs m).pair
    key_is = ap₂ key_by place_is word_is

  module _ (sorted : Pairwise Sooner xs) where
    comes-after : (m : ℕ) → m < length xs → comes_after (pairs xs) m ≡ true
    comes-after zero h = refl
    comes-after (suc m) h =
        lt-ltb (key_at (pairs xs) m) (key_at (pairs xs) (suc m))
        (omega (arith, key_is m (omega arith), key_is (suc m) h, pairwise_next nowhere Sooner xs sorted m h))

    key-form : (m : ℕ) → m < length xs → key_form (pairs xs) m ≡ true
    key-form m h =
        let x = entry xs m in
        let g = range_at m h in
        both_of (ap (absent_or 255) (left_is xs m h) ∙ left_fits x.pair.left g.left)
        (both_of (ap (within 255) (right_is xs m h) ∙ le-leb x.pair.right 255 (omega (arith, g.right))) (comes-after m h))

    pub keys_form : every (pair_count (pairs xs)) (key_form (pairs xs)) ≡ true
    keys_form = every_all (pair_count (pairs xs)) (key_form (pairs xs)) (λ m h. key-form m (omega (arith, pair_count_lem xs)))

-- ---- the form

module _ (xs : List Entry) (good : (x : Entry) → Memᴰ x xs → Good x) (sorted : Pairwise Sooner xs) where
  ranged : (x : Entry) → Memᴰ x xs → InRange x.pair
  ranged x m = (good x m).range

  module _ (m : ℕ) (h : m < length xs) where
    good-at : Good (entry xs m)
    good-at = good (entry xs m) (get_d_member nowhere xs m h)

    upto_more : ops_up_to xs (suc m) ≡ ops_up_to xs m + length (entry xs m).res.outs
    unfolding ops_all
    upto_more =
        let x = entry xs m in
        let e : ops_all (take (suc m) xs) ≡ ops_all (take m xs) ++ (x.res.outs ++ []) = ap ops_all (take-suc xs m nowhere h) ∙ ops_append (take m xs) (x ∷ []) in
        omega (arith, ap length e, length-append (ops_all (take m xs)) (x.res.outs ++ []), length-append x.res.outs [])

    ops-inside : ops_up_to xs m + length (entry xs m).res.outs ≤ length (ops_all xs)
    ops-inside =
        let os = (entry xs m).res.outs in
        let rest = ops_all (drop (suc m) xs) in
        omega (arith, ap length (split xs m h), length-append (ops_all (take m xs)) (os ++ rest), length-append os rest)

    record-fits : record_fits (pairs xs) (ops xs) m ≡ true
    record-fits =
        let x = entry xs m in
        rw (last_is xs m h, flag_number_is xs m h, right_is xs m h, first_is xs m h, count_is xs m h, op_count_lem xs)
        (both_of (le-leb (code x.res.last) 255 (omega (arith, good-at.coded.last)))
        (both_of (flag_fits (flag x.res.last))
        (both_of (last_of x.pair.left x.pair.right x.res good-at.form)
        (le-leb (ops_up_to xs m + length x.res.outs) (length (ops_all xs)) ops-inside))))

    form-is : formed (left_of (left_place (number (pairs xs) m 0))) (word_of (number (pairs xs) m 1)) (entry_of_pair (pairs xs) (ops xs) m) ≡ true
    form-is =
        let x = entry xs m in
        let l : left_of (left_place (number (pairs xs) m 0)) ≡ x.pair.left = ap left_of (place_is xs ranged m h) ∙ left_number_lem x.pair.left in
        let w = word_is xs ranged m h in
        (λ i. formed (l i) (w i) (entry_is xs m h i)) ∙ good-at.form

  -- where the ops of the first m end
  ends_is : (m : ℕ) → m ≤ length xs → ops_end (pairs xs) m ≡ ops_up_to xs m
  unfolding ops_all
  ends_is zero h = refl
  ends_is (suc m) h = ap₂ ◌+◌ (ap word_of (first_is xs m h)) (ap word_of (count_is xs m h)) ∙ sym (upto_more m h)

  pair_form_lem : (m : ℕ) → m < length xs → pair_form (pairs xs) (ops xs) m ≡ true
  pair_form_lem m h =
      both_of (key-form xs ranged sorted m h)
      (both_of (record-fits m h)
      (both_of (eq-eqb (first_op (pairs xs) m) (ops_end (pairs xs) m) (ap word_of (first_is xs m h) ∙ sym (ends_is m (omega arith)))) (form-is m h)))

  ends_all : ops_end (pairs xs) (pair_count (pairs xs)) ≡ op_count (ops xs)
  ends_all =
      ap (ops_end (pairs xs)) (pair_count_lem xs) ∙ ends_is (length xs) (omega arith) ∙ ap (λ (l : List Entry). length (ops_all l)) (take-length xs)
      ∙ sym (op_count_lem xs)

  pub table_form_lem : op_count (ops xs) ≤ 2147483647 → table_form (pairs xs) (ops xs) ≡ true
  table_form_lem few =
      let p = pairs xs in
      let o = ops xs in
      both_of
      (both_of (eq-eqb (length p % 6) 0 (omega (arith, length_table 0 xs)))
      (both_of (eq-eqb (length o % 2) 0 (omega (arith, length_numbers (ops_all xs)))) (le-leb (op_count o) 2147483647 few)))
      (both_of
      (every_all (op_count o) (op_fits o) (λ i h. both_of (lt-ltb i (op_count o) h) (ops_hold_lem (ops_all xs) (small_all xs good) i (omega (arith, op_count_lem xs)))))
      (both_of (every_all (pair_count p) (pair_form p o) (λ m h. pair_form_lem m (omega (arith, pair_count_lem xs))))
      (eq-eqb (ops_end p (pair_count p)) (op_count o) ends_all)))
