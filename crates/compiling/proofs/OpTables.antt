-- The ops and the pair table as they are written: a copy of numbers, a first character that becomes a ligature, a row's ops made of its two parts, each row's
-- ops apart from every other's, and the six numbers of each finished row one after the other. Assumes nothing.
use mathlib.Core.Path.{◌≡◌, refl, sym, ap, ◌∙◌, subst}
use mathlib.Core.Bool.{Bool, true, false}
use mathlib.Core.List.{List, [], ◌∷◌, ◌++◌, append_assoc, append-nil}
use mathlib.Core.Logic.{◌⊎◌, inl, inr}
use mathlib.Core.Option.{Option}
use Prim.Native.Nat.{ℕ, zero, suc, ◌+◌, ◌-◌, ◌*◌, ◌<◌, ◌≤◌}
use native.Mathlib.Numerals.{add-one, add-two, add-three, add-four, add_five}
use native.Mathlib.Omega.{arith}
use lib.IntN.{ℤ, pos}
use lib.ListN.{length, get_or, take, drop, set, replicate, length-append, length-drop, take-append-drop}
use lib.Seq.{sets, length-sets, length-take-le, take-suc, take-add, get_or-drop}
use Rattle.words.specs.Words.{number_of, Word}
use Rattle.words.specs.Lists.{Appending}
use Rattle.words.proofs.Bits.{number_pos, number_is, read_is}
use Rattle.words.proofs.Lists.{drop_replicate, appending_none, appending_length, appending_more, appending_rest, sets_append}
use Rattle.words.proofs.Tests.{same_or_not, less_or_not}
use Rattle.lang.specs.Answers.{padded}
use Rattle.reading.specs.Items.{item, code, flag, Out, glyph, kern}
use Rattle.reading.specs.Depth.{Res}
use Rattle.compiling.specs.declared.Part.{Part}
use Rattle.compiling.specs.declared.Part.TheVariants.{Nothing, Character, Ligature, Kern, OfRow}
use Rattle.compiling.specs.Rows.{at, pair_at, pairs}
use Rattle.fonts.specs.Fonts.{left_of}
use Rattle.compiling.specs.SettledRows.{bit, finished_rows, outcome}
use Rattle.fonts.specs.Numbers.{ops_of, ops_before, out_numbers, op_numbers, ops_table, left_number, flag_number, pair_numbers, pair_table}
use Rattle.compiling.specs.OpRows.{row_ops, op_total, Ready, ops_written, pairs_written}
use Rattle.compiling.specs.OpSteps.{first_part, second_part, part_outs, raised_outs, row_numbers, Segment, OpsAt, Apart, ops_place, ops_size, Copies, PartFits}
use Rattle.compiling.specs.OpSteps.{part_numbers, PartWritten, RowWritten, WrittenBefore, ToWrite}
use Rattle.compiling.proofs.Segments.{get_d_apart, part_apart, drop_after, part_stored, part_at, sets_over, sets_same, set_within}
use Rattle.compiling.proofs.OpLaws.{length_numbers, numbers_append, length_raised, ops_up_to, before_more, ops_more, pairs_more, ends_before, ends_within}
use Rattle.compiling.proofs.OpLaws.{last_small, Sound, RowParts, finished_row, row_finished, unfinished_row, parts_of, count_parts}

-- ---- a copy of numbers

apart_at : (from to count i l : ℕ) → i < count → l ≡ i → Apart from to count → (from + i + 1 ≤ to) ⊎ (to + l ≤ from + i)
apart_at from to count i l h e (inl a) = inl (omega arith)
apart_at from to count i l h e (inr a) = inr (omega arith)

module _ (d₀ : List ℤ) (from to count : ℕ) (there : from + count ≤ length d₀) (apart : Apart from to count) where
  -- the first i numbers are copied
  pub copy_more : (d d' : List ℤ) (i r : ℕ) → i < count → d ≡ sets d₀ to (take i (drop from d₀)) → Word (get_or d (from + i) (pos 0)) r →
      d' ≡ set d (to + i) (number_of r) → d' ≡ sets d₀ to (take (i + 1) (drop from d₀))
  copy_more d d' i r h e g j =
      let s = drop from d₀ in
      let room : i < length s = rw (length-drop from d₀) (omega arith) in
      let l : length (take i s) ≡ i = length-take-le i s (omega arith) in
      let z : get_or d (from + i) (pos 0) ≡ get_or s i (pos 0) =
      ap (λ (x : List ℤ). get_or x (from + i) (pos 0)) e
      ∙ get_d_apart d₀ to (take i s) (from + i) (pos 0) (apart_at from to count i (length (take i s)) h l apart)
      ∙ sym (get_or-drop from d₀ i (pos 0)) in
      let v : number_of r ≡ get_or s i (pos 0) = number_is g ∙ z in
      j
      ∙ (λ a. set (e a) (to + i) (v a))
      ∙ ap (λ (x : ℕ). set (sets d₀ to (take i s)) (to + x) (get_or s i (pos 0))) (sym l)
      ∙ sym (sets_append (take i s) (get_or s i (pos 0) ∷ []) d₀ to)
      ∙ ap (λ (x : List ℤ). sets d₀ to x) (sym (take-suc s i (pos 0) room))
      ∙ ap (λ (x : ℕ). sets d₀ to (take x s)) (sym (add-one i))

-- the numbers of a row's ops, by those that were read
pub copies_apart : (w : List ℕ) (p k : ℕ) {x y : ℕ} → x ≡ at w k 13 → y ≡ at w k 12 → Apart (ops_place w k) p (ops_size w k) → Apart (2 * x) p (2 * y)
copies_apart w p k e f (inl h) = inl (omega arith)
copies_apart w p k e f (inr h) = inr (omega arith)

pub row_copied : (w : List ℕ) (d d' : List ℤ) (p r k : ℕ) → Copies w d p k → r ≡ p + ops_size w k → d' ≡ sets d p (take (ops_size w k) (drop (ops_place w k) d)) →
    PartWritten w d d' p r (OfRow k)
row_copied w d d' p r k h e f =
    let l : length (take (ops_size w k) (drop (ops_place w k) d))
    ≡ ops_size w k = length-take-le (ops_size w k) (drop (ops_place w k) d) (rw (length-drop (ops_place w k) d) (omega (arith, h.there))) in
    record { next = omega arith; written = f }

pub nothing_written : (w : List ℕ) (d : List ℤ) (p : ℕ) → PartWritten w d d p p Nothing
nothing_written w d p = record { next = omega arith; written = refl }

-- two and six numbers by a store each
pub put_two : (d d₁ d₂ : List ℤ) (p : ℕ) (x y : ℤ) → d₁ ≡ set d p x → d₂ ≡ set d₁ (p + 1) y → d₂ ≡ sets d p (x ∷ y ∷ [])
put_two d d₁ d₂ p x y e f = f ∙ (λ i. set (e i) (add-one p i) y)

pub put_six : (d d₁ d₂ d₃ d₄ d₅ d₆ : List ℤ) (p : ℕ) (x₁ x₂ x₃ x₄ x₅ x₆ : ℤ) → d₁ ≡ set d p x₁ → d₂ ≡ set d₁ (p + 1) x₂ → d₃ ≡ set d₂ (p + 2) x₃ →
    d₄ ≡ set d₃ (p + 3) x₄ → d₅ ≡ set d₄ (p + 4) x₅ → d₆ ≡ set d₅ (p + 5) x₆ → d₆ ≡ sets d p (x₁ ∷ x₂ ∷ x₃ ∷ x₄ ∷ x₅ ∷ x₆ ∷ [])
put_six d d₁ d₂ d₃ d₄ d₅ d₆ p x₁ x₂ x₃ x₄ x₅ x₆ e₁ e₂ e₃ e₄ e₅ e₆ =
    let f₂ : d₂ ≡ sets d p (x₁ ∷ x₂ ∷ []) = e₂ ∙ (λ i. set (e₁ i) (add-one p i) x₂) in
    let f₃ : d₃ ≡ sets d p (x₁ ∷ x₂ ∷ x₃ ∷ []) = e₃ ∙ (λ i. set (f₂ i) (add-two p i) x₃) in
    let f₄ : d₄ ≡ sets d p (x₁ ∷ x₂ ∷ x₃ ∷ x₄ ∷ []) = e₄ ∙ (λ i. set (f₃ i) (add-three p i) x₄) in
    let f₅ : d₅ ≡ sets d p (x₁ ∷ x₂ ∷ x₃ ∷ x₄ ∷ x₅ ∷ []) = e₅ ∙ (λ i. set (f₄ i) (add-four p i) x₅) in
    e₆ ∙ (λ i. set (f₅ i) (add_five p i) x₆)

-- the six numbers of a row, each stored as it was read
pub put_row_lem : (w : List ℕ) (k p : ℕ) (d d₁ d₂ d₃ d₄ d₅ d₆ : List ℤ) (l r₁ r₂ r₃ r₄ r₅ r₆ : ℕ) → d₁ ≡ set d p (number_of l) → d₂ ≡ set d₁ (p + 1) (number_of r₂) →
    d₃ ≡ set d₂ (p + 2) (number_of r₃) → d₄ ≡ set d₃ (p + 3) (number_of r₄) → d₅ ≡ set d₄ (p + 4) (number_of r₅) → d₆ ≡ set d₅ (p + 5) (number_of r₆) →
    number_of l ≡ left_number (left_of r₁) → r₁ ≡ at w k 0 → r₂ ≡ at w k 1 → r₃ ≡ at w k 6 → r₄ ≡ at w k 7 → r₅ ≡ at w k 13 → r₆ ≡ at w k 12 →
    d₆ ≡ sets d p (row_numbers w k)
put_row_lem w k p d d₁ d₂ d₃ d₄ d₅ d₆ l r₁ r₂ r₃ r₄ r₅ r₆ e₁ e₂ e₃ e₄ e₅ e₆ i₀ i₁ i₂ i₃ i₄ i₅ i₆ =
    let j : number_of l ≡ left_number (left_of (at w k 0)) = i₀ ∙ ap (λ (x : ℕ). left_number (left_of x)) i₁ in
    put_six d d₁ d₂ d₃ d₄ d₅ d₆ p (number_of l) (number_of r₂) (number_of r₃) (number_of r₄) (number_of r₅) (number_of r₆) e₁ e₂ e₃ e₄ e₅ e₆
    ∙ (λ i. sets d p (j i ∷ number_of (i₂ i) ∷ number_of (i₃ i) ∷ number_of (i₄ i) ∷ number_of (i₅ i) ∷ number_of (i₆ i) ∷ []))

-- the ops of a row, copied from where it says that they stand
pub copied_row : (w : List ℕ) (k p x y : ℕ) (d d' : List ℤ) → x ≡ at w k 13 → y ≡ at w k 12 → d' ≡ sets d p (take (2 * y) (drop (2 * x) d)) →
    (p + 2 * y ≡ p + ops_size w k) × (d' ≡ sets d p (take (ops_size w k) (drop (ops_place w k) d)))
copied_row w k p x y d d' e f h = (ap (λ (z : ℕ). p + 2 * z) f, h ∙ (λ i. sets d p (take (2 * f i) (drop (2 * e i) d))))

-- ---- the first character becomes a ligature

-- the ops before place i are kerns
pub record Passed (from i : ℕ) (os : List Out) : Type 0 where
  pub kerns : List Out
  pub rest : List Out
  pub split : os ≡ kerns ++ rest
  pub raised : raised_outs os ≡ kerns ++ raised_outs rest
  pub place : i ≡ from + length (op_numbers kerns)

pub passed_none : (from : ℕ) (os : List Out) → Passed from from os
unfolding op_numbers
passed_none from os = record { kerns = []; rest = os; split = refl; raised = refl; place = omega arith }

module _ (d : List ℤ) (from to : ℕ) (os : List Out) (a : OpsAt d from to os) (room : to ≤ length d) where
  sizes : (ks rs : List Out) → os ≡ ks ++ rs → to ≡ from + (length (op_numbers ks) + 2 * length rs)
  sizes ks rs e = omega (arith, a.ends, length_numbers os, length_numbers ks, ap length e, length-append ks rs)

  numbers_as : (ks : List Out) (o : Out) (rs : List Out) → os ≡ ks ++ (o ∷ rs) → op_numbers os ≡ op_numbers ks ++ (out_numbers o ++ op_numbers rs)
  unfolding op_numbers
  numbers_as ks o rs e = ap op_numbers e ∙ numbers_append ks (o ∷ rs)

  -- the kind of the op at place i
  kind_at : (i r : ℕ) (ks : List Out) (y : ℤ) (ys : List ℤ) → op_numbers os ≡ op_numbers ks ++ (y ∷ ys) → i ≡ from + length (op_numbers ks) →
      Word (get_or d i (pos 0)) r → (n : ℕ) → y ≡ pos n → r ≡ n
  kind_at i r ks y ys e p g n z =
      read_is g n (ap (λ (x : ℕ). get_or d x (pos 0)) p ∙ part_at d from (op_numbers ks) y ys (pos 0) (subst (Segment d from) e a.stand) ∙ z)

  more_by : (i r : ℕ) (ks rs : List Out) → os ≡ ks ++ rs → raised_outs os ≡ ks ++ raised_outs rs → i ≡ from + length (op_numbers ks) → i < to →
      Word (get_or d i (pos 0)) r → r ≡ 2 → Passed from (i + 2) os
  unfolding raised_outs
  more_by i r ks [] e f p h g two = absurd (omega (arith, sizes ks [] e))
  more_by i r ks (glyph (item false c) ∷ rs) e f p h g two =
      absurd (omega (arith, kind_at i r ks (pos 0) (pos c ∷ op_numbers rs) (numbers_as ks (glyph (item false c)) rs e) p g 0 refl))
  more_by i r ks (glyph (item true c) ∷ rs) e f p h g two =
      absurd (omega (arith, kind_at i r ks (pos 1) (pos c ∷ op_numbers rs) (numbers_as ks (glyph (item true c)) rs e) p g 1 refl))
  more_by i r ks (kern k ∷ rs) e f p h g two = record {
    kerns = ks ++ (kern k ∷ []);
    rest = rs;
    split = e ∙ sym (append_assoc ks (kern k ∷ []) rs);
    raised = f ∙ sym (append_assoc ks (kern k ∷ []) (raised_outs rs));
    place = omega (arith, length_numbers ks, length_numbers (ks ++ (kern k ∷ [])), length-append ks (kern k ∷ []));
  }

  pub passed_more : (i r : ℕ) → Passed from i os → i < to → Word (get_or d i (pos 0)) r → r ≡ 2 → Passed from (i + 2) os
  passed_more i r p = more_by i r p.kerns p.rest p.split p.raised p.place

  -- the op at place i is a character or a ligature, and becomes a ligature
  store_by : (i c : ℕ) (y : ℤ) (ks rs : List Out) → op_numbers os ≡ op_numbers ks ++ (y ∷ (pos c ∷ op_numbers rs)) →
      raised_outs os ≡ ks ++ (glyph (item true c) ∷ rs) → i ≡ from + length (op_numbers ks) → set d i (number_of 1) ≡ sets d from (op_numbers (raised_outs os))
  unfolding op_numbers
  store_by i c y ks rs e f p =
      let l : length (op_numbers os) ≡ length (op_numbers ks ++ (y ∷ (pos c ∷ op_numbers rs))) = ap length e in
      ap (λ (x : ℕ). set d x (number_of 1)) p
      ∙ set_within d from (op_numbers ks) y (pos 1) (pos c ∷ op_numbers rs) (subst (Segment d from) e a.stand) (omega (arith, a.ends))
      ∙ ap (λ (x : List ℤ). sets d from x) (sym (ap op_numbers f ∙ numbers_append ks (glyph (item true c) ∷ rs)))

  raise_by : (i r : ℕ) (ks rs : List Out) → os ≡ ks ++ rs → raised_outs os ≡ ks ++ raised_outs rs → i ≡ from + length (op_numbers ks) → i < to →
      Word (get_or d i (pos 0)) r → (r ≡ 2 → ⊥) → set d i (number_of 1) ≡ sets d from (op_numbers (raised_outs os))
  unfolding raised_outs
  raise_by i r ks [] e f p h g other = absurd (omega (arith, sizes ks [] e))
  raise_by i r ks (glyph (item false c) ∷ rs) e f p h g other = store_by i c (pos 0) ks rs (numbers_as ks (glyph (item false c)) rs e) f p
  raise_by i r ks (glyph (item true c) ∷ rs) e f p h g other = store_by i c (pos 1) ks rs (numbers_as ks (glyph (item true c)) rs e) f p
  raise_by i r ks (kern k ∷ rs) e f p h g other = absurd (other (kind_at i r ks (pos 2) (k ∷ op_numbers rs) (numbers_as ks (kern k) rs e) p g 2 refl))

  pub raised_at : (i r : ℕ) → Passed from i os → i < to → Word (get_or d i (pos 0)) r → (r ≡ 2 → ⊥) →
      set d i (number_of 1) ≡ sets d from (op_numbers (raised_outs os))
  raised_at i r p = raise_by i r p.kerns p.rest p.split p.raised p.place

  end_by : (i : ℕ) (ks rs : List Out) → os ≡ ks ++ rs → raised_outs os ≡ ks ++ raised_outs rs → i ≡ from + length (op_numbers ks) → to ≤ i →
      d ≡ sets d from (op_numbers (raised_outs os))
  unfolding raised_outs
  end_by i ks [] e f p h =
      sym (sets_same d from (op_numbers os) a.stand (omega (arith, a.ends))) ∙ ap (λ (x : List Out). sets d from (op_numbers x)) (e ∙ sym f)
  end_by i ks (o ∷ rs) e f p h = absurd (omega (arith, sizes ks (o ∷ rs) e))

  -- all ops are kerns
  pub raised_none : (i : ℕ) → Passed from i os → to ≤ i → d ≡ sets d from (op_numbers (raised_outs os))
  raised_none i p = end_by i p.kerns p.rest p.split p.raised p.place

-- ---- where the ops of rows stand

module _ (n m : ℕ) (w : List ℕ) (r : Ready n m w) where
  from_is : (k : ℕ) → k < n → ops_place w k ≡ 2 * ops_up_to n w k
  from_is k h = ap (λ (x : ℕ). 2 * x) (r.firsts k h)

  size_is : (k : ℕ) → k < n → ops_size w k ≡ 2 * row_ops n w k
  size_is k h = ap (λ (x : ℕ). 2 * x) (r.exact k h)

  size_numbers : (k : ℕ) → k < n → length (op_numbers (ops_of (outcome n w k))) ≡ ops_size w k
  size_numbers k h = length_numbers (ops_of (outcome n w k)) ∙ sym (size_is k h)

  row_within : (k : ℕ) → k < n → ops_place w k + ops_size w k ≤ 2 * op_total n w
  row_within k h = omega (arith, from_is k h, size_is k h, ends_within n w k h)

  rows_apart : (j k : ℕ) → j < n → k < n → (j ≡ k → ⊥) → (ops_place w j + ops_size w j ≤ ops_place w k) ⊎ (ops_place w k + ops_size w k ≤ ops_place w j)
  rows_apart j k h l ne = go (less_or_not j k)
    where
      go : (j < k) ⊎ (k ≤ j) → (ops_place w j + ops_size w j ≤ ops_place w k) ⊎ (ops_place w k + ops_size w k ≤ ops_place w j)
      go (inl x) = inl (omega (arith, from_is j h, size_is j h, from_is k l, ends_before n w j k x h))
      go (inr x) = inr (omega (arith, from_is k l, size_is k l, from_is j h, ends_before n w k j (omega arith) l))

  -- stores among the ops of row k leave those of row j
  kept : (d : List ℤ) (j k p : ℕ) (vs : List ℤ) → j < n → k < n → (j ≡ k → ⊥) → ops_place w k ≤ p → p + length vs ≤ ops_place w k + ops_size w k →
      RowWritten n w d j → RowWritten n w (sets d p vs) j
  kept d j k p vs h l ne a b f = part_apart (length (op_numbers (ops_of (outcome n w j)))) (ops_place w j) d p vs (go (rows_apart j k h l ne)) ∙ f
    where
      go : (ops_place w j + ops_size w j ≤ ops_place w k) ⊎ (ops_place w k + ops_size w k ≤ ops_place w j) →
          (ops_place w j + length (op_numbers (ops_of (outcome n w j))) ≤ p) ⊎ (p + length vs ≤ ops_place w j)
      go (inl x) = inl (omega (arith, size_numbers j h))
      go (inr x) = inr (omega arith)

  earlier_other : (j k : ℕ) → at w j 11 < at w k 11 → j ≡ k → ⊥
  earlier_other j k h e = omega (arith, ap (λ (x : ℕ). at w x 11) e)

  part_numbers_lem : (d : List ℤ) (i : ℕ) (part : Part) → Sound n w i part → WrittenBefore n w d i → part_numbers w d part ≡ op_numbers (part_outs n w part)
  unfolding op_numbers
  part_numbers_lem d i Nothing x f = refl
  part_numbers_lem d i (Character c) x f = ap (λ (z : ℤ). pos 0 ∷ z ∷ []) (number_pos c (omega arith))
  part_numbers_lem d i (Ligature c) x f = ap (λ (z : ℤ). pos 1 ∷ z ∷ []) (number_pos c (omega arith))
  part_numbers_lem d i (Kern v) x f = refl
  part_numbers_lem d i (OfRow k) x f = ap (λ (z : ℕ). take z (drop (ops_place w k) d)) (sym (size_numbers k x.row)) ∙ f k x.row x.status x.turn

  -- a part of row k's ops can be written among them
  part_fits : (d : List ℤ) (k p : ℕ) (part : Part) → 2 * op_total n w ≤ length d → k < n → Sound n w (at w k 11) part → ops_place w k ≤ p →
      p + 2 * length (part_outs n w part) ≤ ops_place w k + ops_size w k → PartFits w d p part
  part_fits d k p Nothing room h x a b = tt
  part_fits d k p (Character c) room h x a b = omega (arith, row_within k h)
  part_fits d k p (Ligature c) room h x a b = omega (arith, row_within k h)
  part_fits d k p (Kern v) room h x a b = omega (arith, row_within k h)
  part_fits d k p (OfRow j) room h x a b = record {
    row = omega (arith, x.row, r.encoded.ascending.few);
    there = omega (arith, row_within j x.row);
    room = omega (arith, row_within k h, size_is j x.row);
    apart = go (rows_apart j k x.row h (earlier_other j k x.turn));
  }
    where
      go : (ops_place w j + ops_size w j ≤ ops_place w k) ⊎ (ops_place w k + ops_size w k ≤ ops_place w j) → Apart (ops_place w j) p (ops_size w j)
      go (inl y) = inl (omega arith)
      go (inr y) = inr (omega (arith, size_is j x.row))

-- ---- the ops of a row, part by part

module _ (n : ℕ) (w : List ℕ) (k : ℕ) (d : List ℤ) (t : ToWrite n w d k) where
  abbrev first_outs : List Out
  first_outs = part_outs n w (first_part n w k)

  abbrev second_outs : List Out
  second_outs = part_outs n w (second_part n w k)

  here : RowParts n w (at w k 11) (first_part n w k) (second_part n w k) (ops_of (outcome n w k))
  here = parts_of n t.finished w t.ready.encoded t.ready.settled k t.row t.status

  sizes_here : ops_size w k ≡ length (op_numbers first_outs) + length (op_numbers second_outs)
  sizes_here =
      omega (
        arith,
        size_is n t.finished w t.ready k t.row,
        length_numbers first_outs,
        length_numbers second_outs,
        count_parts n t.finished w t.ready.encoded t.ready.settled k t.row t.status,
      )

  within_here : ops_place w k + ops_size w k ≤ length d
  within_here = omega (arith, t.room, row_within n t.finished w t.ready k t.row)

  pub first_fits : (x : ℕ) (a : Part) → x ≡ at w k 13 → a ≡ first_part n w k → PartFits w d (2 * x) a
  first_fits x a e i =
      subst (PartFits w d (2 * x)) (sym i)
      (part_fits n t.finished w t.ready d k (2 * x) (first_part n w k) t.room t.row here.first (omega arith)
      (omega (arith, sizes_here, length_numbers first_outs)))

  -- the first part is written, and then the second
  abbrev FirstDone : List ℤ → ℕ → Type 0
  FirstDone d₁ next = (next ≡ ops_place w k + length (op_numbers first_outs)) × (d₁ ≡ sets d (ops_place w k) (op_numbers first_outs))

  abbrev SecondDone : List ℤ → ℕ → List ℤ → ℕ → Type 0
  SecondDone d₁ next d₂ end = (end ≡ next + length (op_numbers second_outs)) × (d₂ ≡ sets d₁ next (op_numbers second_outs))

  pub first_done : (x : ℕ) (a : Part) (d₁ : List ℤ) (next : ℕ) → x ≡ at w k 13 → a ≡ first_part n w k → PartWritten w d d₁ (2 * x) next a → FirstDone d₁ next
  first_done x a d₁ next e i p =
      let v : part_numbers w d a ≡ op_numbers first_outs = ap (part_numbers w d) i
      ∙ part_numbers_lem n t.finished w t.ready d (at w k 11) (first_part n w k) here.first t.before in
      let f : 2 * x ≡ ops_place w k = ap (λ (z : ℕ). 2 * z) e in
      (p.next ∙ (λ j. f j + length (v j)), p.written ∙ (λ j. sets d (f j) (v j)))

  module _ (d₁ : List ℤ) (next : ℕ) (f : FirstDone d₁ next) where
    first-length : length d₁ ≡ length d
    first-length = ap length f.1 ∙ length-sets d (ops_place w k) (op_numbers first_outs)

    pub second_fits : (b : Part) → b ≡ second_part n w k → PartFits w d₁ next b
    second_fits b i =
        subst (PartFits w d₁ next) (sym i)
        (part_fits n t.finished w t.ready d₁ k next (second_part n w k) (omega (arith, first-length, t.room)) t.row here.second
        (omega (arith, f.0)) (omega (arith, f.0, sizes_here, length_numbers second_outs)))

    before-still : WrittenBefore n w d₁ (at w k 11)
    before-still j h s l =
        subst (λ (z : List ℤ). RowWritten n w z j) (sym f.1)
        (kept n t.finished w t.ready d j k (ops_place w k) (op_numbers first_outs) h t.row (earlier_other n t.finished w t.ready j k l)
        (omega arith) (omega (arith, sizes_here)) (t.before j h s l))

    pub second_done : (b : Part) (d₂ : List ℤ) (end : ℕ) → b ≡ second_part n w k → PartWritten w d₁ d₂ next end b → SecondDone d₁ next d₂ end
    second_done b d₂ end i p =
        let v : part_numbers w d₁ b ≡ op_numbers second_outs = ap (part_numbers w d₁) i
        ∙ part_numbers_lem n t.finished w t.ready d₁ (at w k 11) (second_part n w k) here.second before-still in
        (p.next ∙ ap (λ (z : List ℤ). next + length z) v, p.written ∙ ap (λ (z : List ℤ). sets d₁ next z) v)

    module _ (d₂ : List ℤ) (end : ℕ) (g : SecondDone d₁ next d₂ end) where
      pub raise_fits : end ≤ length d₂
      raise_fits = omega (arith, f.0, g.0, sizes_here, within_here, first-length, ap length g.1, length-sets d₁ next (op_numbers second_outs))

      -- and the first character of the second part is a ligature
      pub row_done : (d₃ : List ℤ) → ((os : List Out) → OpsAt d₂ next end os → d₃ ≡ sets d₂ next (op_numbers (raised_outs os))) →
          d₃ ≡ sets d (ops_place w k) (op_numbers (ops_of (outcome n w k)))
      row_done d₃ h =
          let x = op_numbers first_outs in
          let y = op_numbers second_outs in
          let z = op_numbers (raised_outs second_outs) in
          let same : length y ≡ length z = omega (arith, length_numbers second_outs, length_numbers (raised_outs second_outs), length_raised second_outs) in
          let room : next + length y ≤ length d₁ = omega (arith, f.0, sizes_here, within_here, first-length) in
          h second_outs (record { ends = g.0; stand = subst (λ (l : List ℤ). Segment l next y) (sym g.1) (part_stored d₁ next y room) })
          ∙ ap (λ (l : List ℤ). sets l next z) g.1
          ∙ sets_over d₁ next y z same (omega arith)
          ∙ (λ i. sets (f.1 i) (f.0 i) z)
          ∙ sym (sets_append x z d (ops_place w k))
          ∙ ap (λ (l : List ℤ). sets d (ops_place w k) l) (sym (ap op_numbers here.outs ∙ numbers_append first_outs (raised_outs second_outs)))

-- ---- the ops of all rows

-- the rows that finished before turn i are written, and nothing past the ops is touched
pub record WritingOps (n : ℕ) (w : List ℕ) (d₀ d : List ℤ) (i : ℕ) : Type 0 where
  pub same_length : length d ≡ length d₀
  pub before : WrittenBefore n w d i
  pub after : drop (2 * op_total n w) d ≡ drop (2 * op_total n w) d₀

nothing_up_to : (n : ℕ) (w : List ℕ) (d : List ℤ) → take (2 * ops_up_to n w 0) d ≡ ops_table (finished_rows n w) (pairs n w) 0
unfolding ops_before ops_table
nothing_up_to n w d = refl

no_ops : (d : List ℤ) (p : ℕ) → Segment d p (op_numbers [])
unfolding op_numbers
no_ops d p = refl

module _ (n m : ℕ) (w : List ℕ) (r : Ready n m w) (d₀ : List ℤ) (room : 2 * op_total n w ≤ length d₀) where
  pub writing_none : WritingOps n w d₀ d₀ 0
  writing_none = record { same_length = refl; before = λ k h s l. absurd (omega arith); after = refl }

  module _ (d : List ℤ) (i k : ℕ) (o : WritingOps n w d₀ d i) (h : i < m) (e : k ≡ at w i 10) where
    order_is : (k < n) × (at w k 5 ≡ 2) × (at w k 11 ≡ i)
    order_is = subst (λ (z : ℕ). (z < n) × (at w z 5 ≡ 2) × (at w z 11 ≡ i)) (sym e) (r.settled.order i h)

    pub turn_of : ToWrite n w d k
    turn_of = record {
      finished = m;
      ready = r;
      row = order_is.0;
      status = order_is.1;
      room = omega (arith, o.same_length);
      before = subst (WrittenBefore n w d) (sym order_is.2) o.before;
    }

    abbrev written : List ℤ
    written = sets d (ops_place w k) (op_numbers (ops_of (outcome n w k)))

    fits-here : ops_place w k + length (op_numbers (ops_of (outcome n w k))) ≤ 2 * op_total n w
    fits-here = omega (arith, size_numbers n m w r k order_is.0, row_within n m w r k order_is.0)

    before-turn : (j : ℕ) → j < n → at w j 5 ≡ 2 → (j ≡ k → ⊥) → at w j 11 < i + 1 → at w j 11 < i
    before-turn j l s ne p = go (less_or_not (at w j 11) i)
      where
        ordered : at w (at w j 11) 10 ≡ j
        ordered = let q = finished_row n m w r.encoded r.settled j l s in (row_finished n m w r.encoded r.settled j q.0 l q.1).ordered

        go : (at w j 11 < i) ⊎ (i ≤ at w j 11) → at w j 11 < i
        go (inl y) = y
        go (inr y) =
            let same : at w j 11 ≡ i = omega arith in
            absurd (ne (sym ordered ∙ ap (λ (z : ℕ). at w z 10) same ∙ sym e))

    written_by : (j : ℕ) → j < n → at w j 5 ≡ 2 → at w j 11 < i + 1 → (j ≡ k) ⊎ (j ≡ k → ⊥) → RowWritten n w written j
    written_by j l s p (inl x) =
        subst (RowWritten n w written) (sym x) (part_stored d (ops_place w k) (op_numbers (ops_of (outcome n w k))) (omega (arith, fits-here, o.same_length)))
    written_by j l s p (inr x) =
        kept n m w r d j k (ops_place w k) (op_numbers (ops_of (outcome n w k))) l order_is.0 x (omega arith)
        (omega (arith, size_numbers n m w r k order_is.0)) (o.before j l s (before-turn j l s x p))

    pub writing_more : (d' : List ℤ) → d' ≡ written → WritingOps n w d₀ d' (i + 1)
    writing_more d' x = subst (λ (z : List ℤ). WritingOps n w d₀ z (i + 1)) (sym x) (record {
      same_length = length-sets d (ops_place w k) (op_numbers (ops_of (outcome n w k))) ∙ o.same_length;
      before = λ j l s p. written_by j l s p (same_or_not j k);
      after = drop_after (2 * op_total n w) d (ops_place w k) (op_numbers (ops_of (outcome n w k))) fits-here ∙ o.after;
    })

  all_by : (d : List ℤ) (i k : ℕ) → WritingOps n w d₀ d i → m ≤ i → k < n → (at w k 5 ≡ 2) ⊎ (at w k 5 ≡ 2 → ⊥) → RowWritten n w d k
  all_by d i k o l h (inl s) =
      let q = finished_row n m w r.encoded r.settled k h s in
      o.before k h s (omega (arith, (row_finished n m w r.encoded r.settled k q.0 h q.1).place))
  all_by d i k o l h (inr s) =
      subst (λ (x : Option Res). Segment d (ops_place w k) (op_numbers (ops_of x))) (sym (unfinished_row n m w r.encoded r.settled k h s))
      (no_ops d (ops_place w k))

  -- the ops of the first k rows stand at the front
  up_to : (d : List ℤ) → ((k : ℕ) → k < n → RowWritten n w d k) → (k : ℕ) → k ≤ n → take (2 * ops_up_to n w k) d ≡ ops_table (finished_rows n w) (pairs n w) k
  up_to d f zero h = nothing_up_to n w d
  up_to d f (suc k) h =
      let vs = op_numbers (ops_of (outcome n w k)) in
      let e : 2 * ops_up_to n w (suc k) ≡ 2 * ops_up_to n w k + length vs = omega (arith, before_more n w k h, length_numbers (ops_of (outcome n w k))) in
      let s : take (length vs) (drop (2 * ops_up_to n w k) d) ≡ vs = subst (λ (x : ℕ). take (length vs) (drop x d) ≡ vs) (from_is n m w r k h) (f k h) in
      let t = up_to d f k (omega arith) in
      ap (λ (x : ℕ). take x d) e ∙ take-add (2 * ops_up_to n w k) (length vs) d ∙ (λ j. t j ++ s j) ∙ sym (ops_more n w k h)

  pub writing_all : (d : List ℤ) (i : ℕ) → WritingOps n w d₀ d i → m ≤ i → d₀ ≡ replicate (length d₀) (pos 0) → d ≡ padded (pos 0) (length d₀) (ops_written n w)
  writing_all d i o l zeros =
      let q = 2 * op_total n w in
      let t : take q d ≡ ops_written n w = up_to d (λ k h. all_by d i k o l h (same_or_not (at w k 5) 2)) n (omega arith) in
      let size : q ≡ length (ops_written n w) = sym (length-take-le q d (omega (arith, o.same_length))) ∙ ap length t in
      sym (take-append-drop q d)
      ∙ (λ j. t j ++ o.after j)
      ∙ ap (λ (x : List ℤ). ops_written n w ++ drop q x) zeros
      ∙ ap (λ (x : List ℤ). ops_written n w ++ x) (drop_replicate q (length d₀) (pos 0))
      ∙ ap (λ (x : ℕ). ops_written n w ++ replicate (length d₀ - x) (pos 0)) size

-- ---- the pair table

pub left_word : (t : ℕ) → t < 257 → (t ≡ 0 → ⊥) → number_of (t - 1) ≡ left_number (left_of t)
left_word zero h ne = absurd (ne refl)
left_word (suc c) h ne =
    let e : suc c - 1 ≡ c = omega arith in
    ap number_of e ∙ number_pos c (omega arith)

flag_number_lem : (b : Bool) → number_of (bit b) ≡ flag_number b
flag_number_lem true = refl
flag_number_lem false = refl

-- the six numbers of the finished ones among the first k rows, of which there are p
pub record WritingPairs (n : ℕ) (w : List ℕ) (d₀ d : List ℤ) (p k : ℕ) : Type 0 where
  pub appended : Appending (pair_table (finished_rows n w) (pairs n w) k) d₀ d
  pub place : p ≡ length (pair_table (finished_rows n w) (pairs n w) k)
  pub few : p ≤ 6 * k
  pub within : k ≤ n

pub pairs_none : (n : ℕ) (w : List ℕ) (d₀ : List ℤ) → WritingPairs n w d₀ d₀ 0 0
unfolding pair_table
pairs_none n w d₀ = record { appended = appending_none d₀; place = refl; few = omega arith; within = omega arith }

module _ (n m : ℕ) (w : List ℕ) (r : Ready n m w) where
  row_numbers_lem : (k : ℕ) → k < n → at w k 5 ≡ 2 → row_numbers w k ≡ pair_numbers (pair_at w k) (ops_up_to n w k) (outcome n w k)
  row_numbers_lem k h s =
      let found = finished_row n m w r.encoded r.settled k h s in
      let q = found.0 in
      let f = row_finished n m w r.encoded r.settled k q h found.1 in
      let right : at w k 1 < 256 = r.encoded.ascending.right k h in
      let small : code q.last < 256 = last_small n w r.encoded (left_of (at w k 0)) (at w k 1) q right found.1 in
      let last : number_of (at w k 6) ≡ pos (code q.last) = ap number_of f.last_code ∙ number_pos (code q.last) (omega arith) in
      let size : row_ops n w k ≡ length q.outs = ap (λ (o : Option Res). length (ops_of o)) found.1 in
      let end : ops_up_to n w k + row_ops n w k ≤ op_total n w = ends_within n w k h in
      let first : number_of (at w k 13) ≡ pos (ops_up_to n w k) = ap number_of (r.firsts k h) ∙ number_pos (ops_up_to n w k) (omega (arith, r.few)) in
      let count : number_of (at w k 12) ≡ pos (length q.outs) = ap number_of (r.exact k h ∙ size) ∙ number_pos (length q.outs) (omega (arith, r.few)) in
      let flagged : number_of (at w k 7) ≡ flag_number (flag q.last) = ap number_of f.last_flag_lem ∙ flag_number_lem (flag q.last) in
      let rightward : number_of (at w k 1) ≡ pos (at w k 1) = number_pos (at w k 1) (omega arith) in
      (λ i. left_number (left_of (at w k 0)) ∷ rightward i ∷ last i ∷ flagged i ∷ first i ∷ count i ∷ [])
      ∙ ap (pair_numbers (pair_at w k) (ops_up_to n w k)) (sym found.1)

  module _ (d₀ d : List ℤ) (p k : ℕ) (o : WritingPairs n w d₀ d p k) (h : k < n) where
    abbrev so_far : List ℤ
    so_far = pair_table (finished_rows n w) (pairs n w) k

    pub pairs_room : 6 * n ≤ length d₀ → p + 6 ≤ length d
    pairs_room room = omega (arith, o.few, appending_length d₀ o.appended)

    pairs_next : (vs : List ℤ) → pair_numbers (pair_at w k) (ops_up_to n w k) (outcome n w k) ≡ vs → pair_table (finished_rows n w) (pairs n w) (k + 1) ≡ so_far ++ vs
    pairs_next vs e = ap (pair_table (finished_rows n w) (pairs n w)) (add-one k) ∙ pairs_more n w k h ∙ ap (λ (x : List ℤ). so_far ++ x) e

    pub pairs_finished : 6 * n ≤ length d₀ → (d' : List ℤ) (p' : ℕ) → at w k 5 ≡ 2 → d' ≡ sets d p (row_numbers w k) → p' ≡ p + 6 →
        WritingPairs n w d₀ d' p' (k + 1)
    pairs_finished room d' p' s e i =
        let next = pairs_next (row_numbers w k) (sym (row_numbers_lem k h s)) in
        let more = appending_more d₀ (row_numbers w k) o.appended (omega (arith, pairs_room room, o.place)) in
        record {
          appended =
              subst (λ (x : List ℤ). Appending x d₀ d') (sym next)
              (subst (Appending (so_far ++ row_numbers w k) d₀) (sym (e ∙ ap (λ (x : ℕ). sets d x (row_numbers w k)) o.place)) more);
          place = omega (arith, o.place, ap length next, length-append so_far (row_numbers w k));
          few = omega (arith, o.few);
          within = omega arith;
        }

    pub pairs_never : (d' : List ℤ) (p' : ℕ) → (at w k 5 ≡ 2 → ⊥) → d' ≡ d → p' ≡ p → WritingPairs n w d₀ d' p' (k + 1)
    pairs_never d' p' s e i =
        let next = pairs_next [] (ap (pair_numbers (pair_at w k) (ops_up_to n w k)) (unfinished_row n m w r.encoded r.settled k h s)) ∙ append-nil so_far in
        record {
          appended = subst (λ (x : List ℤ). Appending x d₀ d') (sym next) (subst (Appending so_far d₀) (sym e) o.appended);
          place = omega (arith, o.place, ap length next);
          few = omega (arith, o.few);
          within = omega arith;
        }

  pub pairs_all : (d₀ d : List ℤ) (p k : ℕ) → WritingPairs n w d₀ d p k → n ≤ k → d₀ ≡ replicate (length d₀) (pos 0) →
      (p ≡ length (pairs_written n w)) × (d ≡ padded (pos 0) (length d₀) (pairs_written n w))
  pairs_all d₀ d p k o l zeros =
      let e : k ≡ n = omega (arith, o.within) in
      let a : Appending (pairs_written n w) d₀ d = subst (λ (x : ℕ). Appending (pair_table (finished_rows n w) (pairs n w) x) d₀ d) e o.appended in
      (o.place ∙ ap (λ (x : ℕ). length (pair_table (finished_rows n w) (pairs n w) x)) e, appending_rest d₀ (pos 0) (length d₀) zeros a)
