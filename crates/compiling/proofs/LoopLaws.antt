-- Laws of walks. A walk over rows is the walk of `specs/Loops` of crate `reading` over their pairs: a row has the mark of an earlier walk where its pair was
-- met by one, and the mark of this walk where its pair is one of its own. So the turns together give the loop list. Assumes nothing.
use mathlib.Core.Path.{◌≡◌, refl, sym, ap, ap₂, ◌∙◌, subst, subst₂}
use mathlib.Core.Bool.{Bool, true, false, cond, false≢true}
use mathlib.Core.List.Memᴰ
use mathlib.Core.List.{List, [], ◌∷◌, ◌++◌, append_assoc, append-nil, Memᴰ}
use mathlib.Core.Logic.{◌⊎◌, inl, inr}
use mathlib.Core.Option.{Option, none, some, some-ne-none}
use Prim.Native.Nat.{ℕ, zero, suc, ◌+◌, ◌-◌, ◌*◌, ◌<◌, ◌≤◌}
use native.Mathlib.Nat.{eq-or-lt_of_le, le_of_suc-le-suc}
use native.Mathlib.Numerals.{add-one}
use native.Mathlib.Omega.{arith}
use lib.Dec.{ltb, eqb}
use lib.IntN.{ℤ, pos}
use lib.ListN.{length, set, replicate, length-append, length-set, get_or-append}
use lib.Seq.{get_or_at, ext_get_or}
use borrow.Author.Tests.{lt-ltb, le-ltb, ltb-true, ltb-false, eqb-true, eq-eqb, ne_eqb}
use Rattle.words.specs.Words.{number_of}
use Rattle.words.specs.Lists.{tabulate, Appending}
use Rattle.words.proofs.Lists.{length_tabulate, get_d_tabulate, tabulate_ext, appending_none, appending_length, appending_more, appending_rest}
use Rattle.words.proofs.Bits.{number_pos}
use Rattle.words.proofs.Tests.{same_or_not}
use Rattle.lang.specs.Answers.{padded}
use Rattle.reading.specs.Items.{Left, bnd, chr}
use Rattle.reading.specs.Depth.{Res, Finished, Pair}
use Rattle.reading.specs.Loops.{Ruled, same_left, same_pair, member, ordered, walked_before, is_finished, unfinished, follow, waits, Walked, walk, walks, loop_list}
use Rattle.reading.proofs.Count.{count, count_all, grown}
use Rattle.reading.proofs.Complete.{unfinished_waits}
use Rattle.compiling.specs.Rows.{at, pair_at, ruled_at, pairs, rules, Ascending, Encoded}
use Rattle.fonts.specs.Fonts.{left_of, number_of_left}
use Rattle.compiling.specs.SettledRows.{finished_rows, outcome, NeverRow, RowSays, Settled}
use Rattle.fonts.specs.Numbers.{left_number, loop_numbers}
use Rattle.compiling.specs.LoopRows.{walk_place, walk_row, WalkOrder, loops_of, nth_pair, Listed}
use Rattle.compiling.specs.LoopSteps.{Walkable, Walk, stops, goes, WalkTaken, finishes, meets_own, meets_earlier, Listing}
use Rattle.compiling.proofs.RowLaws.{at_stored, at_other, at_row, one_row, number_left, pair_same, mem_tabulate, covers_rows}
use Rattle.compiling.proofs.Sorted.{ordered_keeps, places_sort}

-- ---- the pairs of a list as numbers

numbers_last : (ps : List Pair) (p : Pair) → loop_numbers (ps ++ (p ∷ [])) ≡ loop_numbers ps ++ (left_number p.left ∷ pos p.right ∷ [])
unfolding loop_numbers
numbers_last [] p = refl
numbers_last (q ∷ qs) p = ap (λ (z : List ℤ). left_number q.left ∷ pos q.right ∷ z) (numbers_last qs p)

numbers_length : (ps : List Pair) → length (loop_numbers ps) ≡ 2 * length ps
unfolding loop_numbers
numbers_length [] = refl
numbers_length (q ∷ qs) = omega (arith, numbers_length qs)

pub table_length : (h : ℕ → Pair) (i : ℕ) → length (loop_numbers (tabulate i h)) ≡ 2 * i
table_length h i = numbers_length (tabulate i h) ∙ ap (λ z. 2 * z) (length_tabulate i h)

-- one more pair is written
pub written_more : (h : ℕ → Pair) (d₀ d : List ℤ) (i : ℕ) (a b : ℤ) → a ≡ left_number (h i).left → b ≡ pos (h i).right →
    Appending (loop_numbers (tabulate i h)) d₀ d → 2 * i + 2 ≤ length d → Appending (loop_numbers (tabulate (i + 1) h)) d₀ (set (set d (2 * i) a) (2 * i + 1) b)
unfolding tabulate
written_more h d₀ d i a b e g s l =
    let n = table_length h i in
    let done : loop_numbers (tabulate i h) ++ (a ∷ b ∷ [])
    ≡ loop_numbers (tabulate (i + 1) h) = ap₂ (λ (x y : ℤ). loop_numbers (tabulate i h) ++ (x ∷ y ∷ [])) e g ∙ sym (numbers_last (tabulate i h) (h i))
    ∙ ap (λ (z : ℕ). loop_numbers (tabulate z h)) (sym (add-one i)) in
    let stored : set (set d (length (loop_numbers (tabulate i h))) a) (suc (length (loop_numbers (tabulate i h)))) b
    ≡ set (set d (2 * i) a) (2 * i + 1) b = (λ j. set (set d (n j) a) (suc (n j)) b) ∙ ap (λ (z : ℕ). set (set d (2 * i) a) z b) (sym (add-one (2 * i))) in
    subst₂ (λ (x y : List ℤ). Appending x d₀ y) done stored (appending_more d₀ (a ∷ b ∷ []) s (omega (arith, n)))

-- the pair of the row that is listed so many-th
abbrev pub listed_pair : List ℕ → ℕ → Pair
listed_pair w i = pair_at w (at w i 8)

-- as many rows are listed as there are loops
pub listed_count : (r : ℕ) (w : List ℕ) {loops : List Pair} → tabulate r (listed_pair w) ≡ loops → r ≡ length loops
listed_count r w e = sym (length_tabulate r (listed_pair w)) ∙ ap length e

pub left_small : (w : List ℕ) (r i k t : ℕ) → Listing r w → i < r → k ≡ at w i 8 → t ≡ at w k 0 → t < 257
left_small w r i k t l h e a = subst (λ (z : ℕ). z < 257) (sym (a ∙ ap (λ (z : ℕ). at w z 0) e)) (l.left i h)

pub loops_none : (w : List ℕ) (d₀ : List ℤ) → Appending (loop_numbers (tabulate 0 (listed_pair w))) d₀ d₀
unfolding tabulate loop_numbers
loops_none w d₀ = appending_none d₀

-- the pair of row k, which is listed i-th: its left number t in the word x, its right number y
pub loops_more : (w : List ℕ) (r : ℕ) (d₀ d d₁ d₂ : List ℤ) (i k t x y : ℕ) → Listing r w → i < r → 2 * r ≤ length d₀ → k ≡ at w i 8 → t ≡ at w k 0 →
    number_of x ≡ left_number (left_of t) → y ≡ at w k 1 → d₁ ≡ set d (2 * i) (number_of x) → d₂ ≡ set d₁ (2 * i + 1) (number_of y) →
    Appending (loop_numbers (tabulate i (listed_pair w))) d₀ d → Appending (loop_numbers (tabulate (i + 1) (listed_pair w))) d₀ d₂
loops_more w r d₀ d d₁ d₂ i k t x y l h room a b e c p q s =
    let left : number_of x ≡ left_number (left_of (at w (at w i 8) 0)) = e ∙ ap (λ (z : ℕ). left_number (left_of z)) (b ∙ ap (λ (z : ℕ). at w z 0) a) in
    let right : number_of y ≡ pos (at w (at w i 8) 1) = ap number_of (c ∙ ap (λ (z : ℕ). at w z 1) a)
    ∙ number_pos (at w (at w i 8) 1) (omega (arith, l.right i h)) in
    subst (λ (z : List ℤ). Appending (loop_numbers (tabulate (i + 1) (listed_pair w))) d₀ z) (sym (q ∙ ap (λ (z : List ℤ). set z (2 * i + 1) (number_of y)) p))
    (written_more (listed_pair w) d₀ d i (number_of x) (number_of y) left right s (omega (arith, appending_length d₀ s)))

pub loops_all : (w : List ℕ) (r i : ℕ) (d₀ d : List ℤ) → d₀ ≡ replicate (length d₀) (pos 0) → i ≤ r → r ≤ i →
    Appending (loop_numbers (tabulate i (listed_pair w))) d₀ d → d ≡ padded (pos 0) (length d₀) (loop_numbers (tabulate r (listed_pair w)))
loops_all w r i d₀ d e h l s =
    let a : i ≡ r = omega arith in
    subst (λ (z : ℕ). d ≡ padded (pos 0) (length d₀) (loop_numbers (tabulate z (listed_pair w)))) a (appending_rest d₀ (pos 0) (length d₀) e s)

-- ---- the row of a turn

pub turn_up : (n e : ℕ) (w : List ℕ) (s : ℕ) → e + s < n → at w (e + s) 15 ≡ walk_row n e w s
turn_up n e w s h = rw (lt-ltb (e + s) n h)

pub turn_down : (n e : ℕ) (w : List ℕ) (s : ℕ) → n ≤ e + s → at w (e + s - n) 15 ≡ walk_row n e w s
turn_down n e w s h = rw (le-ltb (e + s) n h)

place_within : (n e s : ℕ) → e ≤ n → s < n → walk_place n e s < n
place_within n e s h l = go (ltb (e + s) n) refl
  where
    go : (b : Bool) → ltb (e + s) n ≡ b → cond b (e + s) (e + s - n) < n
    go true i = ltb-true (e + s) n i
    go false i = omega (arith, ltb-false (e + s) n i)

-- rows whose numbers 0, 1, 2 and 15 are the same have the same turns
pub turns_same : (n e : ℕ) (w u : List ℕ) → ((k f : ℕ) → k < n → f < 3 → at u k f ≡ at w k f) → ((k : ℕ) → k < n → at u k 15 ≡ at w k 15) → WalkOrder n e w →
    WalkOrder n e u
turns_same n e w u s t h = record {
  few = h.few;
  boundary = λ k l. s k 0 (omega (arith, h.few)) (omega arith) ∙ h.boundary k l;
  others = λ k l i. rw (s k 0 i (omega arith)) (h.others k l i);
  row = λ i l. rw (same i l) (h.row i l);
  sorted = λ i l. ap₂ walked_before (turned i (omega arith)) (turned (suc i) l) ∙ h.sorted i l;
  each = λ k l. let q = h.each k l in (q.0, q.1, same q.0 q.1 ∙ q.2);
}
  where
    same : (i : ℕ) → i < n → walk_row n e u i ≡ walk_row n e w i
    same i l = t (walk_place n e i) (place_within n e i h.few l)

    ruled : (k : ℕ) → k < n → ruled_at u k ≡ ruled_at w k
    ruled k l =
        let a = s k 0 l (omega arith) in
        let b = s k 1 l (omega arith) in
        let d = s k 2 l (omega arith) in
        λ i. record { pair = record { left = left_of (a i); right = b i }; index = d i }

    turned : (i : ℕ) → i < n → ruled_at u (walk_row n e u i) ≡ ruled_at w (walk_row n e w i)
    turned i l = ap (ruled_at u) (same i l) ∙ ruled (walk_row n e w i) (h.row i l)

-- ---- what marking a row and a walk keep

-- the numbers of the first n rows but 8 and 14
abbrev pub SameBut : ℕ → List ℕ → List ℕ → Type 0
SameBut n w u = (k f : ℕ) → k < n → f < 16 → (f ≡ 8 → ⊥) → (f ≡ 14 → ⊥) → at u k f ≡ at w k f

pub mark_keeps : (n k id : ℕ) (w : List ℕ) → SameBut n w (set w (16 * k + 14) id)
mark_keeps n k id w j f h l p q = at_other w k 14 id j f (omega arith) l q

pub walkable_kept : {n : ℕ} (w u : List ℕ) → length u ≡ length w → SameBut n w u → Walkable n w → Walkable n u
walkable_kept {n} w u l s a = record { room = rw l a.room; few = a.few; onward = on }
  where
    on : (k : ℕ) → k < n → at u k 5 ≡ 3 → (at u k 9 < n) × (at u (at u k 9) 5 ≡ 3)
    on k h t =
        let o = a.onward k h (sym (s k 5 h (omega arith) (omega arith) (omega arith)) ∙ t) in
        let e : at u k 9 ≡ at w k 9 = s k 9 h (omega arith) (omega arith) (omega arith) in
        subst (λ (j : ℕ). (j < n) × (at u j 5 ≡ 3)) (sym e) (o.0, s (at w k 9) 5 o.0 (omega arith) (omega arith) (omega arith) ∙ o.1)

-- after row k was marked: the row that it waits for
pub marked_on : (n k id : ℕ) (w : List ℕ) → Walkable n w → k < n → at w k 5 ≡ 3 →
    Walkable n (set w (16 * k + 14) id) × (at w k 9 < n) × (at (set w (16 * k + 14) id) (at w k 9) 5 ≡ 3)
marked_on n k id w a h t =
    let o = a.onward k h t in (
      walkable_kept w (set w (16 * k + 14) id) (length-set w (16 * k + 14) id) (mark_keeps n k id w) a,
      o.0,
      at_other w k 14 id (at w k 9) 5 (omega arith) (omega arith) (omega arith) ∙ o.1,
    )

pub walk_keeps : {id : ℕ} {w u : List ℕ} {k r : ℕ} → Walk id w k u r → (j f : ℕ) → f < 16 → (f ≡ 14 → ⊥) → at u j f ≡ at w j f
walk_keeps (stops h) j f l ne = refl
walk_keeps {id} (goes {w = w} {k = k} h s) j f l ne = walk_keeps s j f l ne ∙ at_other w k 14 id j f (omega arith) l ne

pub walk_within : {n id : ℕ} {w u : List ℕ} {k r : ℕ} → Walkable n w → k < n → at w k 5 ≡ 3 → Walk id w k u r → r < n
walk_within a h t (stops i) = h
walk_within {n} {id} a h t (goes {w = w} {k = k} i s) = let o = marked_on n k id w a h t in walk_within o.0 o.1 o.2 s

pub turn_count : {id : ℕ} {w u : List ℕ} {k r t : ℕ} → WalkTaken id w k r u t → t ≤ r + 1
turn_count (finishes h e i) = omega (arith, i)
turn_count (meets_own h s d e i) = omega (arith, i)
turn_count (meets_earlier h s d e i) = omega (arith, i)

-- ---- rows without a mark: one fewer with each that is marked

abbrev counted : Bool → ℕ → ℕ
counted true m = suc m
counted false m = m

-- how many of the first n rows have no mark
pub unmarked : ℕ → List ℕ → ℕ
unmarked zero w = 0
unmarked (suc n) w = counted (eqb (at w n 14) 0) (unmarked n w)

counts_less : (b c : Bool) (x y : ℕ) → b ≡ c → x < y → counted b x < counted c y
counts_less true true x y e h = omega arith
counts_less true false x y e h = absurd (false≢true (sym e))
counts_less false true x y e h = omega arith
counts_less false false x y e h = h

counts_one : (b c : Bool) (x y : ℕ) → b ≡ false → c ≡ true → x ≡ y → counted b x < counted c y
counts_one b c x y e i j = rw (e, i) (omega arith)

unmarked_kept : (n k id : ℕ) (w : List ℕ) → n ≤ k → unmarked n (set w (16 * k + 14) id) ≡ unmarked n w
unfolding unmarked
unmarked_kept zero k id w h = refl
unmarked_kept (suc n) k id w h =
    ap₂ counted (ap (λ (v : ℕ). eqb v 0) (at_row w k 14 id n (omega arith) (λ e. omega arith))) (unmarked_kept n k id w (omega arith))

unmarked_by : (n k id : ℕ) (w : List ℕ) → at w k 14 ≡ 0 → 0 < id → 16 * k + 14 < length w → (k < n → unmarked n (set w (16 * k + 14) id) < unmarked n w) →
    (k ≡ n) ⊎ (k < n) → unmarked (suc n) (set w (16 * k + 14) id) < unmarked (suc n) w
unfolding unmarked
unmarked_by n k id w z p l g (inl e) =
    counts_one _ _ _ _
    (ap (λ (j : ℕ). eqb (at (set w (16 * k + 14) id) j 14) 0) (sym e) ∙ ap (λ (v : ℕ). eqb v 0) (at_stored w k 14 id l) ∙ ne_eqb id 0 (λ i. omega arith))
    (ap (λ (j : ℕ). eqb (at w j 14) 0) (sym e) ∙ eq-eqb (at w k 14) 0 z)
    (unmarked_kept n k id w (omega arith))
unmarked_by n k id w z p l g (inr h) =
    counts_less _ _ _ _ (ap (λ (v : ℕ). eqb v 0) (at_row w k 14 id n (omega arith) (λ e. omega arith))) (g h)

pub unmarked_less : (n k id : ℕ) (w : List ℕ) → k < n → at w k 14 ≡ 0 → 0 < id → 16 * k + 14 < length w → unmarked n (set w (16 * k + 14) id) < unmarked n w
unmarked_less zero k id w h z p l = absurd (omega arith)
unmarked_less (suc n) k id w h z p l = unmarked_by n k id w z p l (λ i. unmarked_less n k id w i z p l) (eq-or-lt_of_le (le_of_suc-le-suc h))

-- A walk from row k over the rows w that has come to row j and the rows u: what the rest of it leaves, all of it leaves.
pub record Underway (n id : ℕ) (w : List ℕ) (k : ℕ) (u : List ℕ) (j : ℕ) : Type 0 where
  pub walkable : Walkable n u
  pub row : j < n
  pub status : at u j 5 ≡ 3
  pub same_length : length u ≡ length w
  pub rest : (v : List ℕ) (r : ℕ) → Walk id u j v r → Walk id w k v r

pub underway_none : (n id : ℕ) (w : List ℕ) (k : ℕ) → Walkable n w → k < n → at w k 5 ≡ 3 → Underway n id w k w k
underway_none n id w k a h t = record { walkable = a; row = h; status = t; same_length = refl; rest = λ v r s. s }

module _ (n id : ℕ) (w : List ℕ) (k : ℕ) (u : List ℕ) (j : ℕ) (g : Underway n id w k u j) (unmet : at u j 14 ≡ 0) where
  pub underway_more : (v : List ℕ) (l : ℕ) → v ≡ set u (16 * j + 14) id → l ≡ at u j 9 → Underway n id w k v l
  underway_more v l e i =
      let o = marked_on n j id u g.walkable g.row g.status in
      subst₂ (λ (y : List ℕ) (x : ℕ). Underway n id w k y x) (sym e) (sym i)
      (record {
        walkable = o.0;
        row = o.1;
        status = o.2;
        same_length = length-set u (16 * j + 14) id ∙ g.same_length;
        rest = λ x r s. g.rest x r (goes unmet s);
      })

  pub underway_less : 0 < id → (v : List ℕ) → v ≡ set u (16 * j + 14) id → unmarked n v < unmarked n u
  underway_less p v e = rw e (unmarked_less n j id u g.row unmet p (omega (arith, g.walkable.room, g.row)))

-- ---- a pair met before

pub not_so : (b : Bool) → (b ≡ true → ⊥) → b ≡ false
not_so true h = absurd (h refl)
not_so false h = refl

left_itself : (l : Left) → same_left l l ≡ true
left_itself bnd = refl
left_itself (chr c) = eq-eqb c c refl

pub pair_itself : (p : Pair) → same_pair p p ≡ true
pair_itself p = rw (left_itself p.left) (eq-eqb p.right p.right refl)

left_same : (l m : Left) → same_left l m ≡ true → l ≡ m
left_same bnd bnd e = refl
left_same bnd (chr b) e = absurd (false≢true e)
left_same (chr a) bnd e = absurd (false≢true e)
left_same (chr a) (chr b) e = ap chr (eqb-true a b e)

both_so : (a b : Bool) → cond a b false ≡ true → (a ≡ true) × (b ≡ true)
both_so true b e = (refl, e)
both_so false b e = absurd (false≢true e)

-- two rows that have the same pair are one
pub same_row : (n : ℕ) (w : List ℕ) → Ascending n w → (j k : ℕ) → j < n → k < n → same_pair (pair_at w j) (pair_at w k) ≡ true → j ≡ k
same_row n w a j k h l e =
    let b = both_so (same_left (left_of (at w j 0)) (left_of (at w k 0))) (eqb (at w j 1) (at w k 1)) e in
    one_row n w a j k h l
    (sym (number_left (at w j 0)) ∙ ap number_of_left (left_same (left_of (at w j 0)) (left_of (at w k 0)) b.0) ∙ number_left (at w k 0))
    (eqb-true (at w j 1) (at w k 1) b.1)

member_own : (p : Pair) (ps : List Pair) → member p (p ∷ ps) ≡ true
unfolding member
member_own p ps = rw (pair_itself p)

member_skip : (p q : Pair) (ps : List Pair) → same_pair p q ≡ false → member p (q ∷ ps) ≡ member p ps
unfolding member
member_skip p q ps e = ap (λ (b : Bool). cond b true (member p ps)) e

or_true : (b : Bool) → cond b true true ≡ true
or_true true = refl
or_true false = refl

member_more : (p q : Pair) (ps : List Pair) → member p ps ≡ true → member p (q ∷ ps) ≡ true
unfolding member
member_more p q ps e = ap (λ (b : Bool). cond (same_pair p q) true b) e ∙ or_true (same_pair p q)

or_assoc : (a b c : Bool) → cond a true (cond b true c) ≡ cond (cond a true b) true c
or_assoc true b c = refl
or_assoc false b c = refl

member_append : (p : Pair) (xs ys : List Pair) → member p (xs ++ ys) ≡ cond (member p xs) true (member p ys)
unfolding member
member_append p [] ys = refl
member_append p (x ∷ xs) ys = ap (λ (b : Bool). cond (same_pair p x) true b) (member_append p xs ys) ∙ or_assoc (same_pair p x) (member p xs) (member p ys)

-- ---- one walk

-- The mark of a row, where id is the mark of this walk: an earlier one where its pair was met by an earlier walk, id where it is one of this
-- walk's own, else none.
abbrev pub MarkOf : Bool → Bool → ℕ → ℕ → Type 0
MarkOf true own id v = (0 < v) × (v < id)
MarkOf false true id v = v ≡ id
MarkOf false false id v = v ≡ 0

mark_unmet : (a b : Bool) (id v : ℕ) → MarkOf a b id v → v ≡ 0 → 0 < id → (a ≡ false) × (b ≡ false)
mark_unmet true b id v m e p = absurd (omega (arith, m.0))
mark_unmet false true id v m e p = absurd (omega (arith, m))
mark_unmet false false id v m e p = (refl, refl)

mark_later : (a : Bool) (id v : ℕ) → MarkOf a false id v → MarkOf a false (suc id) v
mark_later true id v m = (m.0, omega (arith, m.1))
mark_later false id v m = m

mark_joined : (a b : Bool) (id v : ℕ) → 0 < id → MarkOf a b id v → MarkOf (cond b true a) false (suc id) v
mark_joined true true id v p m = (m.0, omega (arith, m.1))
mark_joined true false id v p m = (m.0, omega (arith, m.1))
mark_joined false true id v p m = (omega (arith, m), omega (arith, m))
mark_joined false false id v p m = m

-- u are the rows w but for what is listed and marked; met are the pairs of earlier walks, own those of the walk with mark id
pub record Marking (n : ℕ) (w : List ℕ) (met own : List Pair) (id : ℕ) (u : List ℕ) : Type 0 where
  pub same_length : length u ≡ length w
  pub same : SameBut n w u
  pub marks : (k : ℕ) → k < n → MarkOf (member (pair_at w k) met) (member (pair_at w k) own) id (at u k 14)

-- Rows of which those with status 3 are the pairs that f has not finished: each waits for the next, and all of them are in us.
pub record Follows (n : ℕ) (w : List ℕ) (f : Finished) (next : Pair → Pair) (us : List Ruled) : Type 0 where
  pub ascending : Ascending n w
  pub opens : (k : ℕ) → k < n → at w k 5 ≡ 3 → f (left_of (at w k 0)) (at w k 1) ≡ none
  pub status : (k : ℕ) → k < n → f (left_of (at w k 0)) (at w k 1) ≡ none → at w k 5 ≡ 3
  pub row : (k : ℕ) → k < n → at w k 5 ≡ 3 → at w k 9 < n
  pub onward : (k : ℕ) → k < n → at w k 5 ≡ 3 → at w (at w k 9) 5 ≡ 3
  pub next_is : (k : ℕ) → k < n → at w k 5 ≡ 3 → pair_at w (at w k 9) ≡ next (pair_at w k)
  pub within : (k : ℕ) → k < n → at w k 5 ≡ 3 → Memᴰ (ruled_at w k) us

-- what a walk over rows comes to, where W is the walk over pairs
pub record Right (n : ℕ) (w : List ℕ) (W : Walked) (met : List Pair) (id : ℕ) (u : List ℕ) (r : ℕ) : Type 0 where
  pub marking : Marking n w met W.own id u
  pub row : r < n
  pub found : W.found ≡ cond (eqb (at u r 14) id) (pair_at w r ∷ []) []

module _ (next : Pair → Pair) where
  walk_goes : (d : ℕ) (met own : List Pair) (p : Pair) → member p met ≡ false → member p own ≡ false →
      walk next (suc d) met own p ≡ walk next d met (p ∷ own) (next p)
  unfolding walk
  walk_goes d met own p e i = rw (e, i)

  stops_by : (own : List Pair) (p : Pair) (on : Walked) (a b : Bool) (id v : ℕ) → MarkOf a b id v → (v ≡ 0 → ⊥) →
      ((cond a (record { own = own; found = [] }) (cond b (record { own = own; found = p ∷ [] }) on)).own ≡ own)
      × ((cond a (record { own = own; found = [] }) (cond b (record { own = own; found = p ∷ [] }) on)).found ≡ cond (eqb v id) (p ∷ []) [])
  stops_by own p on true b id v m ne = (refl, rw (ne_eqb v id (λ e. omega (arith, m.1))))
  stops_by own p on false true id v m ne = (refl, rw (eq-eqb v id m))
  stops_by own p on false false id v m ne = absurd (ne m)

  walk_stops : (d : ℕ) (met own : List Pair) (p : Pair) (id v : ℕ) → MarkOf (member p met) (member p own) id v → (v ≡ 0 → ⊥) →
      ((walk next (suc d) met own p).own ≡ own) × ((walk next (suc d) met own p).found ≡ cond (eqb v id) (p ∷ []) [])
  unfolding walk
  walk_stops d met own p id v m ne = stops_by own p (walk next d met (p ∷ own) (next p)) (member p met) (member p own) id v m ne

-- whether a pair of the list is one of a walk
abbrev met_in : List Pair → Ruled → Bool
met_in own u = member u.pair own

module _ (n : ℕ) (w : List ℕ) (f : Finished) (next : Pair → Pair) (us : List Ruled) (φ : Follows n w f next us) where
  -- a row that this walk has not met counts once it has
  counts_more : (own : List Pair) (k : ℕ) → k < n → at w k 5 ≡ 3 → member (pair_at w k) own ≡ false → count (met_in own) us < count (met_in (pair_at w k ∷ own)) us
  counts_more own k h t e = go (grown (met_in own) (met_in (pair_at w k ∷ own)) (λ u. member_more u.pair (pair_at w k) own) us).less
    where
      go : (count (met_in own) us < count (met_in (pair_at w k ∷ own)) us) ⊎ ((u : Ruled) → Memᴰ u us → met_in own u ≡ met_in (pair_at w k ∷ own) u) →
          count (met_in own) us < count (met_in (pair_at w k ∷ own)) us
      go (inl s) = s
      go (inr s) = absurd (false≢true (sym e ∙ s (ruled_at w k) (φ.within k h t) ∙ member_own (pair_at w k) own))

  marks_more : (met own : List Pair) (id : ℕ) (u : List ℕ) (k : ℕ) → Marking n w met own id u → k < n → member (pair_at w k) met ≡ false → (j : ℕ) → j < n →
      (j ≡ k) ⊎ (j ≡ k → ⊥) → MarkOf (member (pair_at w j) met) (member (pair_at w j) (pair_at w k ∷ own)) id (at (set u (16 * k + 14) id) j 14)
  marks_more met own id u k m h e j l (inl i) =
      let a : member (pair_at w j) met ≡ false = ap (λ (z : ℕ). member (pair_at w z) met) i ∙ e in
      let b : member (pair_at w j) (pair_at w k ∷ own) ≡ true = ap (λ (z : ℕ). member (pair_at w z) (pair_at w k ∷ own)) i ∙ member_own (pair_at w k) own in
      let v : at (set u (16 * k + 14) id) j 14
      ≡ id = ap (λ (z : ℕ). at (set u (16 * k + 14) id) z 14) i ∙ at_stored u k 14 id (omega (arith, φ.ascending.room, m.same_length)) in
      subst₂ (λ (x y : Bool). MarkOf x y id (at (set u (16 * k + 14) id) j 14)) (sym a) (sym b) v
  marks_more met own id u k m h e j l (inr ne) =
      let b : member (pair_at w j) (pair_at w k ∷ own)
      ≡ member (pair_at w j) own = member_skip (pair_at w j) (pair_at w k) own
      (not_so (same_pair (pair_at w j) (pair_at w k)) (λ i. ne (same_row n w φ.ascending j k l h i))) in
      subst₂ (λ (y : Bool) (v : ℕ). MarkOf (member (pair_at w j) met) y id v) (sym b) (sym (at_row u k 14 id j (omega arith) ne)) (m.marks j l)

  marking_more : (met own : List Pair) (id : ℕ) (u : List ℕ) (k : ℕ) → Marking n w met own id u → k < n → member (pair_at w k) met ≡ false →
      Marking n w met (pair_at w k ∷ own) id (set u (16 * k + 14) id)
  marking_more met own id u k m h e = record {
    same_length = length-set u (16 * k + 14) id ∙ m.same_length;
    same = λ j g i l p q. mark_keeps n k id u j g i l p q ∙ m.same j g i l p q;
    marks = λ j l. marks_more met own id u k m h e j l (same_or_not j k);
  }

  -- A walk over rows is the walk over their pairs: d, how many pairs it may meet at most, is not reached.
  walk_right : (d : ℕ) (met own : List Pair) {id : ℕ} {u u' : List ℕ} {k r : ℕ} → 0 < id → Walk id u k u' r → Marking n w met own id u → k < n → at w k 5 ≡ 3 →
      length us < d + count (met_in own) us → Right n w (walk next d met own (pair_at w k)) met id u' r
  walk_right zero met own p s m h t l = absurd (omega (arith, count_all (met_in own) us))
  walk_right (suc d) met own {id} p (stops {w = u} {k = k} ne) m h t l =
      let z = walk_stops next d met own (pair_at w k) id (at u k 14) (m.marks k h) ne in
      record { marking = subst (λ (o : List Pair). Marking n w met o id u) (sym z.0) m; row = h; found = z.1 }
  walk_right (suc d) met own {id} {u' = u'} {r = r} p (goes {w = u} {k = k} e s) m h t l =
      let z = mark_unmet (member (pair_at w k) met) (member (pair_at w k) own) id (at u k 14) (m.marks k h) e p in
      let i : at u k 9 ≡ at w k 9 = m.same k 9 h (omega arith) (omega arith) (omega arith) in
      let on : walk next (suc d) met own (pair_at w k) ≡ walk next d met (pair_at w k ∷ own) (pair_at w (at u k 9)) =
      walk_goes next d met own (pair_at w k) z.0 z.1 ∙ ap (walk next d met (pair_at w k ∷ own)) (sym (φ.next_is k h t) ∙ ap (pair_at w) (sym i)) in
      subst (λ (W : Walked). Right n w W met id u' r) (sym on)
      (walk_right d met (pair_at w k ∷ own) p s (marking_more met own id u k m h z.0) (rw i (φ.row k h t)) (ap (λ (j : ℕ). at w j 5) i ∙ φ.onward k h t)
      (omega (arith, counts_more own k h t z.1)))

-- ---- turns

-- u are the rows after some turns: ls the pairs listed, r of them; met the pairs that walks met; marks are below id
pub record Taken (n : ℕ) (w : List ℕ) (ls met : List Pair) (id : ℕ) (u : List ℕ) (r : ℕ) : Type 0 where
  pub same_length : length u ≡ length w
  pub same : SameBut n w u
  pub marks : (k : ℕ) → k < n → MarkOf (member (pair_at w k) met) false id (at u k 14)
  pub count : r ≡ length ls
  pub listed : (i : ℕ) → i < r → (at u i 8 < n) × (pair_at w (at u i 8) ≡ nth_pair ls i)

taken_none : (n : ℕ) (w : List ℕ) → ((k : ℕ) → k < n → at w k 14 ≡ 0) → Taken n w [] [] 1 w 0
unfolding member
taken_none n w z = record {
  same_length = refl;
  same = λ k f h l p q. refl;
  marks = z;
  count = refl;
  listed = λ i h. absurd (omega arith);
}

taken_skip : {n : ℕ} {w : List ℕ} {ls met : List Pair} {id : ℕ} {u : List ℕ} {r : ℕ} → Taken n w ls met id u r → Taken n w ls met (suc id) u r
taken_skip {w = w} {met = met} {id = id} {u = u} t = record {
  same_length = t.same_length;
  same = t.same;
  marks = λ k h. mark_later (member (pair_at w k) met) id (at u k 14) (t.marks k h);
  count = t.count;
  listed = t.listed;
}

module _ (n : ℕ) (w : List ℕ) (ls met : List Pair) (id : ℕ) (u : List ℕ) (r : ℕ) (t : Taken n w ls met id u r) where
  -- row l is listed
  more_listed : (l : ℕ) → l < n → 16 * r + 8 < length u → (i : ℕ) → (i ≡ r) ⊎ (i < r) →
      (at (set u (16 * r + 8) l) i 8 < n) × (pair_at w (at (set u (16 * r + 8) l) i 8) ≡ nth_pair (ls ++ (pair_at w l ∷ [])) i)
  more_listed l h k i (inl e) =
      let s : at (set u (16 * r + 8) l) i 8 ≡ l = ap (λ (j : ℕ). at (set u (16 * r + 8) l) j 8) e ∙ at_stored u r 8 l k in
      let z : nth_pair (ls ++ (pair_at w l ∷ [])) i ≡ pair_at w l = get_or_at ls (pair_at w l) [] (record { left = bnd; right = 0 }) i (sym (e ∙ t.count)) in
      (subst (λ (j : ℕ). j < n) (sym s) h, ap (pair_at w) s ∙ sym z)
  more_listed l h k i (inr m) =
      let s : at (set u (16 * r + 8) l) i 8 ≡ at u i 8 = at_row u r 8 l i (omega arith) (λ e. omega arith) in
      let z : nth_pair (ls ++ (pair_at w l ∷ [])) i
      ≡ nth_pair ls i = get_or-append ls (pair_at w l ∷ []) (record { left = bnd; right = 0 }) i (omega (arith, t.count)) in
      let o = t.listed i m in
      (subst (λ (j : ℕ). j < n) (sym s) o.0, ap (pair_at w) s ∙ o.1 ∙ sym z)

  taken_listed : (l : ℕ) → l < n → 16 * r + 8 < length u → Taken n w (ls ++ (pair_at w l ∷ [])) met id (set u (16 * r + 8) l) (r + 1)
  taken_listed l h k = record {
    same_length = length-set u (16 * r + 8) l ∙ t.same_length;
    same = λ j f i g p q. at_other u r 8 l j f (omega arith) g p ∙ t.same j f i g p q;
    marks = λ j i. subst (MarkOf (member (pair_at w j) met) false id) (sym (at_other u r 8 l j 14 (omega arith) (omega arith) (omega arith))) (t.marks j i);
    count = ap (λ (z : ℕ). z + 1) t.count ∙ sym (length-append ls (pair_at w l ∷ []));
    listed = λ i g. more_listed l h k i (eq-or-lt_of_le (omega arith));
  }

  to_marking : Marking n w met [] id u
  unfolding member
  to_marking = record { same_length = t.same_length; same = t.same; marks = t.marks }

  -- after a walk, before its end is listed
  taken_walked : (W : Walked) (u' : List ℕ) (l : ℕ) → 0 < id → ((j f : ℕ) → f < 16 → (f ≡ 14 → ⊥) → at u' j f ≡ at u j f) → Right n w W met id u' l →
      Taken n w ls (W.own ++ met) (suc id) u' r
  taken_walked W u' l p k s = record {
    same_length = s.marking.same_length;
    same = s.marking.same;
    marks =
        λ j h. subst (λ (b : Bool). MarkOf b false (suc id) (at u' j 14)) (sym (member_append (pair_at w j) W.own met))
        (mark_joined (member (pair_at w j) met) (member (pair_at w j) W.own) id (at u' j 14) p (s.marking.marks j h));
    count = t.count;
    listed =
        λ i h. let e : at u i 8 ≡ at u' i 8 = sym (k i 8 (omega arith) (omega arith)) in
        subst (λ (j : ℕ). (j < n) × (pair_at w j ≡ nth_pair ls i)) e (t.listed i h);
  }

-- the pairs that walks from a list's pairs meet, and those met before
unfoldable pub mets : (Pair → Pair) → ℕ → List Pair → List Ruled → List Pair
mets next d met [] = met
mets next d met (p ∷ ps) = mets next d ((walk next d met [] p.pair).own ++ met) ps

walks_append : (next : Pair → Pair) (d : ℕ) (met : List Pair) (xs ys : List Ruled) →
    walks next d met (xs ++ ys) ≡ walks next d met xs ++ walks next d (mets next d met xs) ys
unfolding walks mets
walks_append next d met [] ys = refl
walks_append next d met (x ∷ xs) ys =
    let W = walk next d met [] x.pair in
    ap (λ (z : List Pair). W.found ++ z) (walks_append next d (W.own ++ met) xs ys)
    ∙ sym (append_assoc W.found (walks next d (W.own ++ met) xs) (walks next d (mets next d (W.own ++ met) xs) ys))

mets_append : (next : Pair → Pair) (d : ℕ) (met : List Pair) (xs ys : List Ruled) → mets next d met (xs ++ ys) ≡ mets next d (mets next d met xs) ys
unfolding mets
mets_append next d met [] ys = refl
mets_append next d met (x ∷ xs) ys = mets_append next d ((walk next d met [] x.pair).own ++ met) xs ys

unfinished_by : (b : Bool) (p : Ruled) (us vs ws : List Ruled) → us ≡ vs ++ ws → cond b us (p ∷ us) ≡ cond b vs (p ∷ vs) ++ ws
unfinished_by true p us vs ws e = e
unfinished_by false p us vs ws e = ap (λ (z : List Ruled). p ∷ z) e

unfinished_append : (f : Finished) (xs ys : List Ruled) → unfinished f (xs ++ ys) ≡ unfinished f xs ++ unfinished f ys
unfolding unfinished
unfinished_append f [] ys = refl
unfinished_append f (x ∷ xs) ys =
    unfinished_by (is_finished (f x.pair.left x.pair.right)) x (unfinished f (xs ++ ys)) (unfinished f xs) (unfinished f ys) (unfinished_append f xs ys)

keeps_by : (f : Finished) (v p : Ruled) {ps us : List Ruled} (o : Option Res) → f p.pair.left p.pair.right ≡ o →
    f v.pair.left v.pair.right ≡ none → (Memᴰ v ps → Memᴰ v us) → (v ≡ p) ⊎ Memᴰ v ps → Memᴰ v (cond (is_finished o) us (p ∷ us))
keeps_by f v p none i s k (inl e) = Memᴰ.head e
keeps_by f v p none i s k (inr m) = Memᴰ.tail (k m)
keeps_by f v p (some q) i s k (inl e) = absurd (some-ne-none q (sym i ∙ ap (λ (z : Ruled). f z.pair.left z.pair.right) (sym e) ∙ s))
keeps_by f v p (some q) i s k (inr m) = k m

unfinished_keeps : (f : Finished) (v : Ruled) (ps : List Ruled) → f v.pair.left v.pair.right ≡ none → Memᴰ v ps → Memᴰ v (unfinished f ps)
unfolding unfinished
unfinished_keeps f v [] s m = m
unfinished_keeps f v (p ∷ ps) s m = keeps_by f v p (f p.pair.left p.pair.right) refl s (unfinished_keeps f v ps s) (Memᴰ.cases_cons m)

module _ (n : ℕ) (w : List ℕ) (f : Finished) (next : Pair → Pair) (us : List Ruled) (φ : Follows n w f next us) (ls met : List Pair) (id : ℕ) (u : List ℕ)
    (r k : ℕ) (t : Taken n w ls met id u r) (positive : 0 < id) (room : r < n) (h : k < n) where
  abbrev turned : Walked
  turned = walk next (suc (length us)) met [] (pair_at w k)

  walked : {u' : List ℕ} {l : ℕ} → at w k 5 ≡ 3 → Walk id u k u' l → Right n w turned met id u' l
  walked s v = walk_right n w f next us φ (suc (length us)) met [] positive v (to_marking n w ls met id u r t) h s (omega arith)

  status_same : at u k 5 ≡ at w k 5
  status_same = t.same k 5 h (omega arith) (omega arith) (omega arith)

  never_turn : {u' : List ℕ} {r' : ℕ} → at w k 5 ≡ 3 → WalkTaken id u k r u' r' → Taken n w (ls ++ (turned.found ++ [])) (turned.own ++ met) (suc id) u' r'
  never_turn s (finishes d e i) = absurd (d (status_same ∙ s))
  never_turn {u'} {r'} s (meets_own {u = v} {l = l} d z m e i) =
      let R = walked s z in
      let T = taken_walked n w ls met id u r t turned v l positive (walk_keeps z) R in
      let g : turned.found ++ [] ≡ pair_at w l ∷ [] = append-nil turned.found ∙ R.found
      ∙ ap (λ (b : Bool). cond b (pair_at w l ∷ []) []) (eq-eqb (at v l 14) id m) in
      let q : 16 * r + 8 < length v = omega (arith, φ.ascending.room, R.marking.same_length) in
      subst₂ (λ (y : List ℕ) (x : ℕ). Taken n w (ls ++ (turned.found ++ [])) (turned.own ++ met) (suc id) y x) (sym e) (sym i)
      (subst (λ (x : List Pair). Taken n w (ls ++ x) (turned.own ++ met) (suc id) (set v (16 * r + 8) l) (r + 1)) (sym g)
      (taken_listed n w ls (turned.own ++ met) (suc id) v r T l R.row q))
  never_turn {u'} {r'} s (meets_earlier {u = v} {l = l} d z m e i) =
      let R = walked s z in
      let T = taken_walked n w ls met id u r t turned v l positive (walk_keeps z) R in
      let g : ls ++ (turned.found ++ [])
      ≡ ls = ap (λ (x : List Pair). ls ++ x)
      (append-nil turned.found ∙ R.found ∙ ap (λ (b : Bool). cond b (pair_at w l ∷ []) []) (ne_eqb (at v l 14) id m)) ∙ append-nil ls in
      subst₂ (λ (y : List ℕ) (x : ℕ). Taken n w (ls ++ (turned.found ++ [])) (turned.own ++ met) (suc id) y x) (sym e) (sym i)
      (subst (λ (x : List Pair). Taken n w x (turned.own ++ met) (suc id) v r) (sym g) T)

  finished_turn : {u' : List ℕ} {r' : ℕ} → (at w k 5 ≡ 3 → ⊥) → WalkTaken id u k r u' r' → Taken n w (ls ++ []) met (suc id) u' r'
  finished_turn d (finishes s e i) =
      subst₂ (λ (y : List ℕ) (x : ℕ). Taken n w (ls ++ []) met (suc id) y x) (sym e) (sym i)
      (subst (λ (x : List Pair). Taken n w x met (suc id) u r) (sym (append-nil ls)) (taken_skip t))
  finished_turn d (meets_own s z m e i) = absurd (d (sym status_same ∙ s))
  finished_turn d (meets_earlier s z m e i) = absurd (d (sym status_same ∙ s))

  turn_by : (o : Option Res) → f (left_of (at w k 0)) (at w k 1) ≡ o → {u' : List ℕ} {r' : ℕ} → WalkTaken id u k r u' r' →
      Taken n w (ls ++ walks next (suc (length us)) met (cond (is_finished o) [] (ruled_at w k ∷ [])))
      (mets next (suc (length us)) met (cond (is_finished o) [] (ruled_at w k ∷ []))) (suc id) u' r'
  unfolding walks mets
  turn_by none e s = never_turn (φ.status k h e) s
  turn_by (some q) e s = finished_turn (λ i. some-ne-none q (sym e ∙ φ.opens k h i)) s

  pub turn_right : {u' : List ℕ} {r' : ℕ} → WalkTaken id u k r u' r' →
      Taken n w (ls ++ walks next (suc (length us)) met (unfinished f (ruled_at w k ∷ []))) (mets next (suc (length us)) met (unfinished f (ruled_at w k ∷ [])))
      (suc id) u' r'
  unfolding unfinished
  turn_right s = turn_by (f (left_of (at w k 0)) (at w k 1)) refl s

-- ---- all turns over settled rows

abbrev next_of : ℕ → List ℕ → Pair → Pair
next_of n w = waits (rules n w) (finished_rows n w)

-- the pairs that are walked from
abbrev open_pairs : ℕ → List ℕ → List Ruled
open_pairs n w = unfinished (finished_rows n w) (ordered (pairs n w))

-- those of the first s turns
abbrev turn_pairs : ℕ → ℕ → List ℕ → ℕ → List Ruled
turn_pairs n e w s = unfinished (finished_rows n w) (tabulate s (λ i. ruled_at w (walk_row n e w i)))

-- what walks from those list, and what they meet
pub listed_by : ℕ → ℕ → List ℕ → ℕ → List Pair
listed_by n e w s = walks (next_of n w) (suc (length (open_pairs n w))) [] (turn_pairs n e w s)

pub met_by : ℕ → ℕ → List ℕ → ℕ → List Pair
met_by n e w s = mets (next_of n w) (suc (length (open_pairs n w))) [] (turn_pairs n e w s)

-- u are the rows after s turns, and r rows are listed
pub record Going (n e : ℕ) (w : List ℕ) (s : ℕ) (u : List ℕ) (r : ℕ) : Type 0 where
  pub within : s ≤ n
  pub few : r ≤ s
  pub taken : Taken n w (listed_by n e w s) (met_by n e w s) (suc s) u r

module _ (n m : ℕ) (w : List ℕ) (c : Encoded n w) (s : Settled n w w m) where
  status_by_lem : (k : ℕ) (o : Option Res) → RowSays n w w m k o → at w k 5 ≡ 3 → o ≡ none
  status_by_lem k none a e = refl
  status_by_lem k (some q) a e = absurd (omega (arith, a.status))

  never_by : (k : ℕ) (o : Option Res) → RowSays n w w m k o → o ≡ none → NeverRow n w w k
  never_by k none a e = a
  never_by k (some q) a e = absurd (some-ne-none q e)

  never_row : (k : ℕ) → k < n → outcome n w k ≡ none → NeverRow n w w k
  never_row k h e = never_by k (outcome n w k) (s.says k h) e

  open_row : (k : ℕ) → k < n → at w k 5 ≡ 3 → outcome n w k ≡ none
  open_row k h e = status_by_lem k (outcome n w k) (s.says k h) e

  onward_row : (k : ℕ) → k < n → at w k 5 ≡ 3 → at w (at w k 9) 5 ≡ 3
  onward_row k h e =
      let a = never_row k h (open_row k h e) in
      let v = unfinished_waits (rules n w) (pairs n w) (covers_rows n w) (pair_at w k) (open_row k h e) in
      let i : pair_at w (at w k 9) ≡ v.for = a.waits_for ∙ ap (follow (pair_at w k)) v.waits in
      (never_row (at w k 9) a.row (subst (λ (q : Pair). finished_rows n w q.left q.right ≡ none) (sym i) v.open_still)).status

  follows_rows : Follows n w (finished_rows n w) (next_of n w) (open_pairs n w)
  follows_rows = record {
    ascending = c.ascending;
    opens = open_row;
    status = λ k h e. (never_row k h e).status;
    row = λ k h e. (never_row k h (open_row k h e)).row;
    onward = onward_row;
    next_is = λ k h e. (never_row k h (open_row k h e)).waits_for;
    within =
        λ k h e. unfinished_keeps (finished_rows n w) (ruled_at w k) (ordered (pairs n w)) (open_row k h e)
        (ordered_keeps (ruled_at w k) (pairs n w) (mem_tabulate n (ruled_at w) k h));
  }

  walkable_rows : Walkable n w
  walkable_rows = record { room = c.ascending.room; few = c.ascending.few; onward = λ k h e. (follows_rows.row k h e, onward_row k h e) }

  module _ (e : ℕ) (t : WalkOrder n e w) where
    pub going_none : ((k : ℕ) → k < n → at w k 14 ≡ 0) → Going n e w 0 w 0
    unfolding tabulate unfinished walks mets listed_by met_by
    going_none z = record { within = omega arith; few = omega arith; taken = taken_none n w z }

    module _ (i : ℕ) (u : List ℕ) (r : ℕ) (g : Going n e w i u r) where
      pub going_walkable : Walkable n u
      going_walkable = walkable_kept w u g.taken.same_length g.taken.same walkable_rows

      turn-same : i < n → walk_row n e u i ≡ walk_row n e w i
      turn-same h = g.taken.same (walk_place n e i) 15 (place_within n e i t.few h) (omega arith) (omega arith) (omega arith)

      pub going_row : i < n → walk_row n e u i < n
      going_row h = rw (turn-same h) (t.row i h)

      list-more : listed_by n e w (suc i)
          ≡ listed_by n e w i
          ++ walks (next_of n w) (suc (length (open_pairs n w))) (met_by n e w i) (unfinished (finished_rows n w) (ruled_at w (walk_row n e w i) ∷ []))
      unfolding tabulate listed_by met_by
      list-more =
          ap (walks (next_of n w) (suc (length (open_pairs n w))) [])
          (unfinished_append (finished_rows n w) (tabulate i (λ j. ruled_at w (walk_row n e w j))) (ruled_at w (walk_row n e w i) ∷ []))
          ∙ walks_append (next_of n w) (suc (length (open_pairs n w))) [] (turn_pairs n e w i) (unfinished (finished_rows n w) (ruled_at w (walk_row n e w i) ∷ []))

      met-more : met_by n e w (suc i) ≡ mets (next_of n w) (suc (length (open_pairs n w))) (met_by n e w i)
          (unfinished (finished_rows n w) (ruled_at w (walk_row n e w i) ∷ []))
      unfolding tabulate met_by
      met-more =
          ap (mets (next_of n w) (suc (length (open_pairs n w))) [])
          (unfinished_append (finished_rows n w) (tabulate i (λ j. ruled_at w (walk_row n e w j))) (ruled_at w (walk_row n e w i) ∷ []))
          ∙ mets_append (next_of n w) (suc (length (open_pairs n w))) [] (turn_pairs n e w i) (unfinished (finished_rows n w) (ruled_at w (walk_row n e w i) ∷ []))

      more-turns : (u' : List ℕ) (r' : ℕ) → i < n → WalkTaken (suc i) u (walk_row n e w i) r u' r' → Going n e w (suc i) u' r'
      more-turns u' r' h v = record {
        within = h;
        few = omega (arith, turn_count v, g.few);
        taken =
            subst₂ (λ (x y : List Pair). Taken n w x y (suc (suc i)) u' r') (sym list-more) (sym met-more)
            (turn_right n w (finished_rows n w) (next_of n w) (open_pairs n w) follows_rows (listed_by n e w i) (met_by n e w i) (suc i) u r (walk_row n e w i)
            g.taken (omega arith) (omega (arith, g.few)) (t.row i h) v);
      }

      pub going_more : (k : ℕ) (u' : List ℕ) (r' : ℕ) → i < n → k ≡ walk_row n e u i → WalkTaken (i + 1) u k r u' r' → Going n e w (i + 1) u' r'
      going_more k u' r' h a v =
          subst (λ (z : ℕ). Going n e w z u' r') (sym (add-one i))
          (more-turns u' r' h (subst₂ (λ (x y : ℕ). WalkTaken x u y r u' r') (add-one i) (a ∙ turn-same h) v))

      all_listed : n ≤ i → listed_by n e w i ≡ loops_of n w
      unfolding listed_by loop_list
      all_listed h =
          let a : i ≡ n = omega (arith, g.within) in
          let b = places_sort n (ruled_at w) (walk_row n e w) t.row t.sorted t.each in
          ap (λ (z : ℕ). walks (next_of n w) (suc (length (open_pairs n w))) [] (turn_pairs n e w z)) a
          ∙ ap (λ (z : List Ruled). walks (next_of n w) (suc (length (open_pairs n w))) [] (unfinished (finished_rows n w) z)) (sym b)

      pub going_all : n ≤ i → Listed n w u r
      going_all h =
          let a = all_listed h in
          record {
            same_length = g.taken.same_length;
            rows = g.taken.same;
            count = g.taken.count ∙ ap length a;
            few = omega (arith, g.few, g.within);
            listed = λ j l. let o = g.taken.listed j l in (o.0, o.1 ∙ ap (λ (z : List Pair). nth_pair z j) a);
          }

-- ---- what is listed, for the pass that writes it

table_nth : (ls : List Pair) (r : ℕ) → r ≡ length ls → tabulate r (nth_pair ls) ≡ ls
table_nth ls r e =
    ext_get_or (record { left = bnd; right = 0 }) (tabulate r (nth_pair ls)) ls (length_tabulate r (nth_pair ls) ∙ e)
    (λ i h. get_d_tabulate r (nth_pair ls) i (record { left = bnd; right = 0 }) (omega (arith, length_tabulate r (nth_pair ls))))

module _ (n r : ℕ) (w u : List ℕ) (l : Listed n w u r) where
  -- the rows that are listed hold pairs of characters
  pub listing_of : Ascending n w → Listing r u
  listing_of a = record {
    row = λ i h. omega (arith, (l.listed i h).0, a.few);
    left = λ i h. omega (arith, l.rows (at u i 8) 0 (l.listed i h).0 (omega arith) (omega arith) (omega arith), a.left (at u i 8) (l.listed i h).0);
    right = λ i h. omega (arith, l.rows (at u i 8) 1 (l.listed i h).0 (omega arith) (omega arith) (omega arith), a.right (at u i 8) (l.listed i h).0);
  }

  -- and they are the loop list
  pub listed_pairs : tabulate r (listed_pair u) ≡ loops_of n w
  listed_pairs =
      tabulate_ext r (listed_pair u) (nth_pair (loops_of n w))
      (λ i h. pair_same w u (λ k f j g. l.rows k f j (omega arith) (omega arith) (omega arith)) (at u i 8) (l.listed i h).0 ∙ (l.listed i h).1)
      ∙ table_nth (loops_of n w) r l.count
