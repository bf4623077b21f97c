-- A list that was written part by part.
-- Assumes nothing.
use mathlib.Core.Path.{◌≡◌, refl, sym, ap, ◌∙◌}
use mathlib.Core.Bool.{Bool, true}
use mathlib.Core.List.{List, [], ◌∷◌, ◌++◌, append_assoc, append-nil}
use Prim.Native.Nat.{ℕ, ◌+◌, ◌-◌, ◌≤◌}
use native.Mathlib.Omega.{arith}
use lib.Dec.{leb}
use lib.ListN.{length, get_or, set, take, drop, replicate, length-append, length-set, length-drop, length-replicate, take-append-drop, drop_of_length-le}
use lib.Seq.{length-take-le, take_at, drop-cons, drop-drop, drop-append-add, get_or-set_other, set-get_or, sets, sets-eq, length-sets}
use borrow.Author.Tests.{leb-true}
use borrow.Rule.Slice.PartMut.{mid_of, post_of, put_mid, Post-is}
use Rattle.words.proofs.Lists.{sets_append, sets_front}
use Rattle.lang.specs.Every.{both}
use Rattle.lang.specs.Answers.{room_refusal}
use Rattle.lang.proofs.Every.{both_left, both_right}
use Rattle.lang.proofs.Refusals.{room_is}
use Rattle.captions.specs.declared.State.{State}
use Rattle.captions.specs.declared.Answer.{Answer}
use Rattle.captions.specs.declared.Answer.TheVariants.{Char, Ligature, Kern, End, Refused}
use Rattle.c_states.specs.States.{flag_bit, numbers_of, moved_to}
use Rattle.chip_block.specs.Showing.{chip_showing, shown_where}
use Rattle.c_chips.specs.ChipLists.{is_word, shown_numbers, chip_numbers, chip_at, chip_with}
use Rattle.c_chips.proofs.Laws.{part_rest, count_at}
use Rattle.c_chip_write.specs.Changes.{can_show}

-- ---- a list that was written

-- nine numbers at the front of the part from place 9 on
nine_put : (l ys vs : List ℕ) → length vs ≡ 9 → 91 ≤ length l → ys ≡ vs ++ drop 9 (drop 9 l) → put_mid 9 (length l - 9) l ys ≡ sets l 9 vs
nine_put l ys vs n h f =
    let p : post_of 9 (length l - 9) l ≡ [] = Post-is 9 (length l) l (omega (arith, h)) ∙ drop_of_length-le l {i = length l} (omega arith) in
    let k : 9 + length vs ≡ 18 = omega (arith, n) in
    ap (λ (t : List ℕ). take 9 l ++ (ys ++ t)) p ∙ ap (λ (t : List ℕ). take 9 l ++ t) (append-nil ys ∙ f ∙ ap (λ (t : List ℕ). vs ++ t) (drop-drop 9 9 l))
    ∙ sym (append_assoc (take 9 l) vs (drop 18 l)) ∙ ap (λ (m : ℕ). take 9 l ++ vs ++ drop m l) (sym k) ∙ sym (sets-eq vs l 9 (omega (arith, k, h)))

-- those of a state
pub state_put : (l ys : List ℕ) (s : State) → 91 ≤ length l →
    ys ≡ moved_to (room_refusal 9 (length (mid_of 9 (length l - 9) l))) (mid_of 9 (length l - 9) l) s →
    put_mid 9 (length l - 9) l ys ≡ sets l 9 (numbers_of s)
state_put l ys s h e =
    let z : room_refusal 9 (length (drop 9 l)) ≡ 0 = room_is 9 (length (drop 9 l)) (omega (arith, length-drop 9 l, h)) in
    nine_put l ys (numbers_of s) refl h
    (e ∙ ap (λ (m : List ℕ). moved_to (room_refusal 9 (length m)) m s) (part_rest 9 l) ∙ ap (λ (n : ℕ). moved_to n (drop 9 l) s) z)

-- the list keeps its length
pub one_long : (l d : List ℕ) (a : ℕ) (vs : List ℕ) → d ≡ sets (set l 0 a) 2 vs → length d ≡ length l
one_long l d a vs e = ap length e ∙ length-sets (set l 0 a) 2 vs ∙ length-set l 0 a

pub more_long : (l d e : List ℕ) (i : ℕ) (vs : List ℕ) → length d ≡ length l → e ≡ sets d i vs → length e ≡ length l
more_long l d e i vs h q = ap length q ∙ length-sets d i vs ∙ h

shown_seven : (a : Answer) → length (shown_numbers a) ≡ 7
shown_seven (Char c start) = refl
shown_seven (Ligature c start n left right) = refl
shown_seven (Kern k) = refl
shown_seven End = refl
shown_seven (Refused n) = refl

-- one run of stores after another
run_on : (l xs ys : List ℕ) (i : ℕ) → length xs ≡ i → sets (sets l 0 xs) i ys ≡ sets l 0 (xs ++ ys)
run_on l xs ys i h = let e : 0 + length xs ≡ i = omega (arith, h) in ap (λ (k : ℕ). sets (sets l 0 xs) k ys) (sym e) ∙ sym (sets_append xs ys l 0)

five : (f m t z k : List ℕ) (c : ℕ) (d : List ℕ) → ((f ++ m) ++ t) ++ z ++ (k ++ (c ∷ d)) ≡ (f ++ m ++ (t ++ z) ++ k ++ (c ∷ [])) ++ d
five f m t z k c d = simp append_assoc

-- stores at a seam
sets_seam : (p y zs : List ℕ) (k : ℕ) → length p ≡ k → length zs ≤ length y → sets (p ++ y) k zs ≡ p ++ zs ++ drop (length zs) y
sets_seam p y zs k e h =
    let d : drop (k + length zs) (p ++ y) ≡ drop (length zs) y = ap (λ (m : ℕ). drop (m + length zs) (p ++ y)) (sym e) ∙ drop-append-add p y (length zs) in
    sets-eq zs (p ++ y) k (omega (arith, length-append p y, e, h)) ∙ rw (take_at p y k e, d)

-- zeros in the part up to place 82
pub zeros_put : (l ys : List ℕ) (from : ℕ) → 91 ≤ length l → from ≤ 82 → ys ≡ replicate (length (mid_of from (82 - from) l)) 0 →
    put_mid from (82 - from) l ys ≡ sets l from (replicate (82 - from) 0)
zeros_put l ys from h f e =
    let m : length (mid_of from (82 - from) l) ≡ 82 - from = length-take-le (82 - from) (drop from l) (omega (arith, length-drop from l, h, f)) in
    let z : length (replicate {A = ℕ} (82 - from) 0) ≡ 82 - from = length-replicate (82 - from) 0 in
    let q : from + length (replicate {A = ℕ} (82 - from) 0) ≡ 82 = omega (arith, z, f) in
    ap (λ (t : List ℕ). take from l ++ (ys ++ t)) (Post-is from 82 l f)
    ∙ ap (λ (t : List ℕ). take from l ++ (t ++ drop 82 l)) (e ∙ ap (λ (k : ℕ). replicate k 0) m)
    ∙ sym (append_assoc (take from l) (replicate (82 - from) 0) (drop 82 l))
    ∙ ap (λ (k : ℕ). take from l ++ replicate (82 - from) 0 ++ drop k l) (sym q)
    ∙ sym (sets-eq (replicate (82 - from) 0) l from (omega (arith, q, h)))

module _ (l : List ℕ) (opened : Bool) (item : Answer) (state : State) (room : 91 ≤ length l) (few : get_or l 1 0 ≤ 64) where
  abbrev n : ℕ
  n = get_or l 1 0

  abbrev front : List ℕ
  front = flag_bit opened ∷ n ∷ shown_numbers item

  abbrev first : List ℕ
  first = front ++ numbers_of state

  abbrev zeros : List ℕ
  zeros = replicate (64 - n) 0

  nine : length front ≡ 9
  nine = omega (arith, shown_seven item)

  eighteen : length first ≡ 18
  eighteen = length-append front (numbers_of state) ∙ rw nine

  -- the length is stored as it was
  length_kept : set l 0 (flag_bit opened) ≡ set (set l 0 (flag_bit opened)) 1 n
  length_kept =
      sym (ap (λ (m : ℕ). set (set l 0 (flag_bit opened)) 1 m) (sym (get_or-set_other l 0 1 (flag_bit opened) 0 (λ e. omega (arith, e))))
      ∙ set-get_or (set l 0 (flag_bit opened)) 1 0)

  pub first_put : (d₂ d₃ : List ℕ) → d₂ ≡ sets (set l 0 (flag_bit opened)) 2 (shown_numbers item) → d₃ ≡ sets d₂ 9 (numbers_of state) →
      d₃ ≡ first ++ drop 18 l
  first_put d₂ d₃ e f =
      f ∙ ap (λ (d : List ℕ). sets d 9 (numbers_of state)) (e ∙ ap (λ (d : List ℕ). sets d 2 (shown_numbers item)) length_kept)
      ∙ run_on l front (numbers_of state) 9 nine ∙ sets_front first l (omega (arith, eighteen, room)) ∙ ap (λ (k : ℕ). first ++ drop k l) eighteen

  -- what stands behind the letters
  rest : drop 82 l ≡ take 8 (drop 82 l) ++ (get_or l 90 0 ∷ drop 91 l)
  rest =
      sym (take-append-drop 8 (drop 82 l))
      ∙ ap (λ (t : List ℕ). take 8 (drop 82 l) ++ t) (drop-drop 8 82 l ∙ drop-cons l 90 0 (omega (arith, room)))

  word_long : length (first ++ take n (drop 18 l)) ≡ 18 + n
  word_long =
      length-append first (take n (drop 18 l))
      ∙ rw (eighteen, length-take-le n (drop 18 l) (omega (arith, length-drop 18 l, room, few)))

  parted : first ++ drop 18 l ≡ (first ++ take n (drop 18 l)) ++ drop n (drop 18 l)
  parted = ap (λ (t : List ℕ). first ++ t) (sym (take-append-drop n (drop 18 l))) ∙ sym (append_assoc first (take n (drop 18 l)) (drop n (drop 18 l)))

  zeros_long : length zeros ≡ 64 - n
  zeros_long = length-replicate (64 - n) 0

  behind : drop (length zeros) (drop n (drop 18 l)) ≡ drop 82 l
  behind =
      drop-drop (length zeros) n (drop 18 l) ∙ drop-drop (n + length zeros) 18 l
      ∙ ap (λ (k : ℕ). drop k l) (let q : 18 + (n + length zeros) ≡ 82 = omega (arith, zeros_long, few) in q)

  joined : (first ++ take n (drop 18 l)) ++ zeros ++ (take 8 (drop 82 l) ++ (get_or l 90 0 ∷ drop 91 l))
      ≡ chip_numbers (chip_with opened item state (chip_at l)) ++ drop 91 l
  joined = five front (numbers_of state) (take n (drop 18 l)) zeros (take 8 (drop 82 l)) (get_or l 90 0) (drop 91 l)

  pub changes_put : (d₂ d₃ d₄ : List ℕ) → d₂ ≡ sets (set l 0 (flag_bit opened)) 2 (shown_numbers item) → d₃ ≡ sets d₂ 9 (numbers_of state) →
      d₄ ≡ sets d₃ (18 + n) (replicate (82 - (18 + n)) 0) → d₄ ≡ chip_numbers (chip_with opened item state (chip_at l)) ++ drop 91 l
  changes_put d₂ d₃ d₄ e f g =
      let k : 82 - (18 + n) ≡ 64 - n = omega arith in
      let r : length zeros ≤ length (drop n (drop 18 l)) = omega (arith, zeros_long, length-drop n (drop 18 l), length-drop 18 l, room, few) in
      g ∙ ap (λ (m : ℕ). sets d₃ (18 + n) (replicate m 0)) k ∙ ap (λ (d : List ℕ). sets d (18 + n) zeros) (first_put d₂ d₃ e f ∙ parted)
      ∙ sets_seam (first ++ take n (drop 18 l)) (drop n (drop 18 l)) zeros (18 + n) word_long r
      ∙ ap (λ (t : List ℕ). (first ++ take n (drop 18 l)) ++ zeros ++ t) (behind ∙ rest) ∙ joined

  -- the block that shows it
  pub shows : (block : List ℕ) → get_or l 90 0 ≤ 7 →
      shown_where block (chip_showing opened (get_or l (82 + get_or l 90 0) 0) item) ≡ shown_where block (chip_with opened item state (chip_at l))
  shows block c = ap (λ (m : ℕ). shown_where block (chip_showing opened m item)) (sym (count_at l (get_or l 90 0) c))

-- ---- a list that can be shown

module _ (ns : List ℕ) (h : can_show ns ≡ true) where
  abbrev caller : Bool
  caller = both (leb (get_or ns 90 0) 7) (is_word (get_or ns (82 + get_or ns 90 0) 0))

  pub can_room : 91 ≤ length ns
  can_room = leb-true 91 (length ns) (both_left (leb 91 (length ns)) _ h)

  pub can_few : get_or ns 1 0 ≤ 64
  can_few = leb-true (get_or ns 1 0) 64 (both_left (leb (get_or ns 1 0) 64) _ (both_right (leb 91 (length ns)) _ h))

  callers : caller ≡ true
  callers = both_right (leb (get_or ns 1 0) 64) caller (both_right (leb 91 (length ns)) _ h)

  pub can_caller : get_or ns 90 0 ≤ 7
  can_caller = leb-true (get_or ns 90 0) 7 (both_left (leb (get_or ns 90 0) 7) _ callers)

  pub can_count_lem : get_or ns (82 + get_or ns 90 0) 0 ≤ 4294967295
  can_count_lem = leb-true (get_or ns (82 + get_or ns 90 0) 0) 4294967295 (both_right (leb (get_or ns 90 0) 7) _ callers)
