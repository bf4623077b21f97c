-- A step of the list is a step of what stands: `same_step`, which specs/Purpose states.
-- Assumes nothing.
use mathlib.Core.Path.{◌≡◌, refl, sym, ap, ◌∙◌}
use mathlib.Core.Bool.{Bool, true, false, cond}
use mathlib.Core.List.{List, [], ◌∷◌, ◌++◌, append_assoc, append-nil}
use Prim.Native.Nat.{ℕ, suc, ◌+◌, ◌*◌, ◌%◌, ◌<◌}
use native.Mathlib.Nat.{mod-eq_of_lt}
use native.Mathlib.Omega.{arith}
use lib.IntN.{ℤ, pos}
use lib.Dec.{eqb}
use lib.ListN.{length, get_or, take, drop, length-append}
use lib.Seq.{get_or-append-add, take-append-add, drop-append-add, take_at}
use Rattle.words.specs.Words.{word_of}
use Rattle.lang.specs.declared.operation.PostLigOperation.TheVariants.{RetainBothMoveNowhere, RetainBothMoveToInserted}
use Rattle.lang.specs.declared.operation.PostLigOperation.TheVariants.{RetainBothMoveToRight, RetainRightMoveToInserted}
use Rattle.lang.specs.declared.operation.PostLigOperation.TheVariants.{RetainRightMoveToRight, RetainLeftMoveNowhere}
use Rattle.lang.specs.declared.operation.PostLigOperation.TheVariants.{RetainLeftMoveToInserted, RetainNeitherMoveToInserted}
use Rattle.reading.specs.Items.{bnd, chr, Rule, free, kerned, lig, Rules, Item, item, code, Head, edge, at, key, Out, glyph, kern, fin}
use Rattle.reading.specs.Reading.{Act, act}
use Rattle.fonts.specs.Numbers.{out_numbers, op_numbers}
use Rattle.readings.specs.Standing.{Standing, standing, step_standing}
use Rattle.readings.specs.Lists.{Replaced, replaced_by, replaced_at, next_items, finished_item, finished_moves}
use Rattle.readings.specs.Purpose.{head_item, right_numbers, stand_numbers, stand_count, stand_cursor, HeadFits, RightFits, SameStep}

-- ---- two numbers an item

length_ops : (os : List Out) → length (op_numbers os) ≡ 2 * length os
unfolding op_numbers
length_ops [] = refl
length_ops (glyph (item false c) ∷ os) = omega (arith, length_ops os)
length_ops (glyph (item true c) ∷ os) = omega (arith, length_ops os)
length_ops (kern k ∷ os) = omega (arith, length_ops os)

length_items : (ys : List Item) → length (right_numbers ys) ≡ 2 * length ys
unfolding right_numbers
length_items [] = refl
length_items (item false c ∷ ys) = omega (arith, length_items ys)
length_items (item true c ∷ ys) = omega (arith, length_items ys)

ops_append : (os ps : List Out) → op_numbers (os ++ ps) ≡ op_numbers os ++ op_numbers ps
unfolding op_numbers
ops_append [] ps = refl
ops_append (o ∷ os) ps = rw (ops_append os ps) (sym (append_assoc (out_numbers o) (op_numbers os) (op_numbers ps)))

items_append : (xs ys : List Item) → right_numbers (xs ++ ys) ≡ right_numbers xs ++ right_numbers ys
unfolding right_numbers
items_append [] ys = refl
items_append (x ∷ xs) ys = rw (items_append xs ys) (sym (append_assoc (out_numbers (glyph x)) (right_numbers xs) (right_numbers ys)))

-- ---- what takes the place of the two is what the step gives, what it leaves at the cursor, and what it puts back

is_edge : Head → Bool
is_edge edge = true
is_edge (at x) = false

finished_is : (x : Head) → finished_item (is_edge x) (head_item x) ≡ op_numbers (fin x)
unfolding op_numbers is_edge
finished_is edge = refl
finished_is (at x) = sym (append-nil (out_numbers (glyph x)))

moves_is : (x : Head) → finished_moves (is_edge x) ≡ length (fin x)
unfolding is_edge
moves_is edge = refl
moves_is (at x) = refl

abbrev act_numbers : Act → List ℤ
act_numbers a = op_numbers a.outs ++ head_item a.left ++ right_numbers a.back

module _ (x : Head) (y : Item) where
  abbrev by_rule : Rule → Replaced
  by_rule r = replaced_by r (is_edge x) (head_item x) (out_numbers (glyph y))

  placed_act : (r : Rule) → (by_rule r).numbers ≡ act_numbers (act r x y)
  unfolding op_numbers right_numbers
  placed_act free = rw (finished_is x, append-nil)
  placed_act (kerned k) = rw (finished_is x, ops_append (fin x) (kern k ∷ [])) (simp (append_assoc, append-nil))
  placed_act (lig RetainNeitherMoveToInserted c) = refl
  placed_act (lig RetainRightMoveToInserted c) = simp append-nil
  placed_act (lig RetainLeftMoveNowhere c) = simp append-nil
  placed_act (lig RetainBothMoveNowhere c) = simp (append-nil, append_assoc)
  placed_act (lig RetainRightMoveToRight c) = simp append-nil
  placed_act (lig RetainLeftMoveToInserted c) = rw (finished_is x) (simp append-nil)
  placed_act (lig RetainBothMoveToInserted c) = rw (finished_is x) (simp append-nil)
  placed_act (lig RetainBothMoveToRight c) =
      rw (finished_is x, ops_append (fin x) (glyph (item true c) ∷ [])) (simp (append_assoc, append-nil))

  moves_act : (r : Rule) → (by_rule r).moves ≡ length (act r x y).outs
  moves_act free = moves_is x
  moves_act (kerned k) = rw (moves_is x) (sym (length-append (fin x) (kern k ∷ [])))
  moves_act (lig RetainNeitherMoveToInserted c) = refl
  moves_act (lig RetainRightMoveToInserted c) = refl
  moves_act (lig RetainLeftMoveNowhere c) = refl
  moves_act (lig RetainBothMoveNowhere c) = refl
  moves_act (lig RetainRightMoveToRight c) = refl
  moves_act (lig RetainLeftMoveToInserted c) = moves_is x
  moves_act (lig RetainBothMoveToInserted c) = moves_is x
  moves_act (lig RetainBothMoveToRight c) = rw (moves_is x) (sym (length-append (fin x) (glyph (item true c) ∷ [])))

-- ---- the four numbers at a cursor, after 2n numbers, and the 2m numbers after them

module _ (front back rest : List ℤ) (p q s t : ℤ) (n m : ℕ) (before : length front ≡ 2 * n) (after : length back ≡ 2 * m) where
  abbrev four : List ℤ
  four = p ∷ q ∷ s ∷ t ∷ []

  abbrev whole : List ℤ
  whole = front ++ (four ++ (back ++ rest))

  number_at : (k i : ℕ) → i ≡ length front + k → get_or whole i (pos 0) ≡ get_or (four ++ (back ++ rest)) k (pos 0)
  number_at k i e = rw e (get_or-append-add front (four ++ (back ++ rest)) k (pos 0))

  -- what takes the place of the two
  four_placed : (rule : Rules) →
      replaced_at rule whole n
      ≡ replaced_by (rule (cond (eqb (word_of p) 3) bnd (chr (word_of q % 256))) (word_of t % 256)) (eqb (word_of p) 3) (p ∷ q ∷ []) (s ∷ t ∷ [])
  four_placed rule =
      let a = number_at 0 (2 * n) (omega arith) in
      let b = number_at 1 (2 * n + 1) (omega arith) in
      let c = number_at 2 (2 * suc n) (omega arith) in
      let d = number_at 3 (2 * suc n + 1) (omega arith) in
      λ i. replaced_by (rule (cond (eqb (word_of (a i)) 3) bnd (chr (word_of (b i) % 256))) (word_of (d i) % 256)) (eqb (word_of (a i)) 3) (a i ∷ b i ∷ [])
      (c i ∷ d i ∷ [])

  front_is : take (2 * n) whole ≡ front
  front_is = take_at front (four ++ (back ++ rest)) (2 * n) before

  back_is : drop (2 * (n + 2)) (take (2 * (n + 1 + suc m)) whole) ≡ back
  back_is =
      let e : 2 * (n + 1 + suc m) ≡ length front + (length four + length back) = omega (arith, before, after) in
      let f : 2 * (n + 2) ≡ length front + length four = omega (arith, before) in
      rw (
        e,
        f,
        take-append-add front (four ++ (back ++ rest)) (length four + length back),
        take-append-add four (back ++ rest) (length back),
        take_at back rest (length back) refl,
        drop-append-add front (four ++ back) (length four),
      )

-- ---- the theorem

-- what the theorem says of what stands
abbrev Same : Rules → List ℤ → Standing → Type 0
Same rule rest t =
    (next_items rule (stand_numbers t ++ rest) (stand_count t) (stand_cursor t) ≡ stand_numbers (step_standing rule t))
    × (stand_cursor t + (replaced_at rule (stand_numbers t ++ rest) (stand_cursor t)).moves ≡ stand_cursor (step_standing rule t))

-- by the four numbers at the cursor
module _ (rule : Rules) (os : List Out) (x : Head) (y : Item) (ys : List Item) (rest : List ℤ) where
  abbrev t₀ : Standing
  t₀ = standing os x (y ∷ ys)

  module _ (p q s t : ℤ) (hx : head_item x ≡ p ∷ q ∷ []) (hy : out_numbers (glyph y) ≡ s ∷ t ∷ [])
      (left : cond (eqb (word_of p) 3) bnd (chr (word_of q % 256)) ≡ key x) (right : word_of t % 256 ≡ code y) (is-edge : eqb (word_of p) 3 ≡ is_edge x) where
    abbrev r : Rule
    r = rule (key x) (code y)

    items_are : stand_numbers t₀ ++ rest ≡ op_numbers os ++ ((p ∷ q ∷ s ∷ t ∷ []) ++ (right_numbers ys ++ rest))
    unfolding right_numbers
    items_are = rw (hx, hy) (simp append_assoc)

    placed-is : replaced_at rule (stand_numbers t₀ ++ rest) (length os) ≡ by_rule x y r
    placed-is =
        ap (λ (l : List ℤ). replaced_at rule l (length os)) items_are
        ∙ four_placed (op_numbers os) (right_numbers ys) rest p q s t (length os) (length ys) (length_ops os) (length_items ys) rule
        ∙ (λ i. replaced_by (rule (left i) (right i)) (is-edge i) (sym hx i) (sym hy i))

    numbers_are : op_numbers os ++ act_numbers (act r x y) ++ right_numbers ys ≡ stand_numbers (step_standing rule t₀)
    numbers_are = rw (ops_append os (act r x y).outs, items_append (act r x y).back ys) (simp append_assoc)

    same_by : Same rule rest t₀
    same_by =
        let f = front_is (op_numbers os) (right_numbers ys) rest p q s t (length os) (length ys) (length_ops os) (length_items ys) in
        let b = back_is (op_numbers os) (right_numbers ys) rest p q s t (length os) (length ys) (length_ops os) (length_items ys) in
        let u = ap (λ (l : List ℤ). take (2 * length os) l) items_are ∙ f in
        let v = ap (λ (l : List ℤ). drop (2 * (length os + 2)) (take (2 * (length os + 1 + suc (length ys))) l)) items_are ∙ b in
        let w = ap (λ (z : Replaced). z.numbers) placed-is ∙ placed_act x y r in (
          (λ i. u i ++ w i ++ v i) ∙ numbers_are,
          ap (λ (z : Replaced). length os + z.moves) placed-is ∙ ap (λ (k : ℕ). length os + k) (moves_act x y r)
              ∙ sym (length-append os (act r x y).outs),
        )

small : (c : ℕ) → c < 256 → word_of (pos c) % 256 ≡ c
small c h = mod-eq_of_lt h

same_at : (rule : Rules) (os : List Out) (x : Head) (y : Item) (ys : List Item) (rest : List ℤ) → HeadFits x → code y < 256 →
    Same rule rest (standing os x (y ∷ ys))
unfolding is_edge
same_at rule os edge (item false d) ys rest h k =
    same_by rule os edge (item false d) ys rest (pos 3) (pos 0) (pos 0) (pos d) refl refl refl (small d k) refl
same_at rule os edge (item true d) ys rest h k =
    same_by rule os edge (item true d) ys rest (pos 3) (pos 0) (pos 1) (pos d) refl refl refl (small d k) refl
same_at rule os (at (item false c)) (item false d) ys rest h k =
    same_by rule os (at (item false c)) (item false d) ys rest (pos 0) (pos c) (pos 0) (pos d) refl refl (ap chr (small c h)) (small d k) refl
same_at rule os (at (item false c)) (item true d) ys rest h k =
    same_by rule os (at (item false c)) (item true d) ys rest (pos 0) (pos c) (pos 1) (pos d) refl refl (ap chr (small c h)) (small d k) refl
same_at rule os (at (item true c)) (item false d) ys rest h k =
    same_by rule os (at (item true c)) (item false d) ys rest (pos 1) (pos c) (pos 0) (pos d) refl refl (ap chr (small c h)) (small d k) refl
same_at rule os (at (item true c)) (item true d) ys rest h k =
    same_by rule os (at (item true c)) (item true d) ys rest (pos 1) (pos c) (pos 1) (pos d) refl refl (ap chr (small c h)) (small d k) refl

same_from : (rule : Rules) (rest : List ℤ) (os : List Out) (x : Head) (ys : List Item) → 0 < length ys → HeadFits x → RightFits ys →
    Same rule rest (standing os x ys)
same_from rule rest os x [] on fits next = absurd (omega (arith, on))
same_from rule rest os x (item f c ∷ ys) on fits next = same_at rule os x (item f c) ys rest fits next

pub same_step : SameStep
same_step rule t rest on fits next = same_from rule rest t.finished t.left t.right on fits next
