-- Laws of a list with zeros behind: numbers taken out and put in, and the list after a change at a cursor.
-- Assumes nothing.
use mathlib.Core.Path.{◌≡◌, refl, sym, ap, ◌∙◌}
use mathlib.Core.List.{List, [], ◌∷◌, ◌++◌, append_assoc}
use Prim.Native.Nat.{ℕ, zero, suc, ◌+◌, ◌-◌, ◌*◌, ◌<◌, ◌≤◌}
use native.Mathlib.Omega.{arith}
use lib.IntN.{ℤ, pos}
use lib.ListN.{length, take, drop, replicate, length-append, length-drop, length-replicate, take-append-drop, drop_of_length-le}
use lib.Seq.{length-take-le, drop-cons, get_or-take, take-append-le, drop-append-le, take-append-add, drop-append-add, take-take, ext_get_or}
use Rattle.words.specs.Words.{number_of}
use Rattle.words.proofs.Bits.{number_pos}
use Rattle.words.proofs.Lists.{length_tabulate, get_d_tabulate}
use Rattle.lang.specs.Answers.{padded}
use Rattle.readings.specs.Lists.{stand_item}
use Rattle.read_change.specs.declared.Change.{Change}
use Rattle.read_change.specs.Changes.{stayed, inserted_numbers, inserts_of}
use Rattle.read_change.specs.Fitted.{fitted, without, with_two}
use Rattle.read_change.proofs.Moving.{at}
use Rattle.read_step.specs.Changed.{count_after, changed_items}

-- ---- zeros behind

zero_at : (m i : ℕ) → at (replicate m (pos 0)) i ≡ pos 0
zero_at zero i = refl
zero_at (suc m) zero = refl
zero_at (suc m) (suc i) = zero_at m i

front_at : (xs : List ℤ) (m i : ℕ) → at (xs ++ replicate m (pos 0)) i ≡ at xs i
front_at [] m i = zero_at m i
front_at (x ∷ xs) m zero = refl
front_at (x ∷ xs) m (suc i) = front_at xs m i

long : (xs : List ℤ) (n : ℕ) → length xs ≤ n → length (padded (pos 0) n xs) ≡ n
long xs n h = simp (length-append, length-replicate) (omega arith)

fitted_is : (xs : List ℤ) (n m : ℕ) → length xs ≤ n → fitted n (xs ++ replicate m (pos 0)) ≡ padded (pos 0) n xs
fitted_is xs n m h =
    let e : length (fitted n (xs ++ replicate m (pos 0))) ≡ n = length_tabulate n (at (xs ++ replicate m (pos 0))) in
    ext_get_or (pos 0) (fitted n (xs ++ replicate m (pos 0))) (padded (pos 0) n xs) (e ∙ sym (long xs n h))
    (λ i k.
    get_d_tabulate n (at (xs ++ replicate m (pos 0))) i (pos 0) (omega (arith, k, e)) ∙ front_at xs m i ∙ sym (front_at xs (n - length xs) i))

-- what passes a place goes
pub cleared : (l : List ℤ) (k : ℕ) → k ≤ length l → fitted (length l) (without k (length l - k) l) ≡ padded (pos 0) (length l) (take k l)
cleared l k h =
    ap (λ (t : List ℤ). fitted (length l) (take k l ++ t)) (drop_of_length-le l {i = k + (length l - k)} (omega arith))
    ∙ fitted_is (take k l) (length l) 0 (omega (arith, length-take-le k l h))

module _ (n : ℕ) (xs d d₁ : List ℤ) (is : d ≡ padded (pos 0) n xs) where
  abbrev zeros : List ℤ
  zeros = replicate (n - length xs) (pos 0)

  long_is : length xs ≤ n → length d ≡ n
  long_is h = ap length is ∙ long xs n h

  -- numbers are taken out in front of the zeros
  removed : (place g : ℕ) → length xs ≤ n → place + g ≤ length xs → d₁ ≡ fitted (length d) (without place g d) → d₁ ≡ padded (pos 0) n (without place g xs)
  removed place g h k e =
      let t = without place g xs in
      let s : without place g (padded (pos 0) n xs) ≡ t ++ zeros =
      rw (take-append-le place xs zeros (omega arith), drop-append-le (place + g) xs zeros k)
      (sym (append_assoc (take place xs) (drop (place + g) xs) zeros)) in
      let m : length t ≤ n = simp (length-append, length-drop) (omega (arith, length-take-le place xs (omega arith))) in
      e ∙ (λ i. fitted (long_is h i) (without place g (is i))) ∙ ap (fitted n) s ∙ fitted_is t n (n - length xs) m

  -- two numbers are put in in front of them
  inserted : (place : ℕ) (p q : ℤ) → length xs + 2 ≤ n → place ≤ length xs → d₁ ≡ fitted (length d) (with_two place p q d) →
      d₁ ≡ padded (pos 0) n (with_two place p q xs)
  inserted place p q h k e =
      let t = with_two place p q xs in
      let s : with_two place p q (padded (pos 0) n xs) ≡ t ++ zeros =
      rw (take-append-le place xs zeros k, drop-append-le place xs zeros k) (sym (append_assoc (take place xs) (p ∷ q ∷ drop place xs) zeros)) in
      let m : length t ≤ n = simp (length-append, length-drop) (omega (arith, length-take-le place xs k, length-drop place xs)) in
      e ∙ (λ i. fitted (long_is (omega arith) i) (with_two place p q (is i))) ∙ ap (fitted n) s ∙ fitted_is t n (n - length xs) m

-- ---- in front of the cursor nothing changes

without_after : (f r : List ℤ) (i g : ℕ) → without (length f + i) g (f ++ r) ≡ f ++ without i g r
without_after f r i g =
    let e : length f + i + g ≡ length f + (i + g) = omega arith in
    rw (e, take-append-add f r i, drop-append-add f r (i + g)) (append_assoc f (take i r) (drop (i + g) r))

two_after : (f r : List ℤ) (i : ℕ) (p q : ℤ) → with_two (length f + i) p q (f ++ r) ≡ f ++ with_two i p q r
two_after f r i p q = rw (take-append-add f r i, drop-append-add f r i) (append_assoc f (take i r) (p ∷ q ∷ drop i r))

module _ (f : List ℤ) (m : ℕ) (h : length f ≡ m) where
  right_goes_lem : (a b c d : ℤ) (e : List ℤ) (k : ℕ) → k ≤ 1 →
      without (m + 2) (2 - 2 * k) (f ++ (a ∷ b ∷ c ∷ d ∷ e)) ≡ f ++ (a ∷ b ∷ (stayed k (c ∷ d ∷ []) ++ e))
  right_goes_lem a b c d e zero l = rw (← h) (without_after f (a ∷ b ∷ c ∷ d ∷ e) 2 2)
  right_goes_lem a b c d e (suc zero) l = rw (← h) (without_after f (a ∷ b ∷ c ∷ d ∷ e) 2 0)
  right_goes_lem a b c d e (suc (suc k)) l = absurd (omega arith)

  here : m ≡ m + 0
  here = omega arith

  left_goes_lem : (a b : ℤ) (e : List ℤ) (k : ℕ) → k ≤ 1 → without m (2 - 2 * k) (f ++ (a ∷ b ∷ e)) ≡ f ++ (stayed k (a ∷ b ∷ []) ++ e)
  left_goes_lem a b e zero l = ap (λ (i : ℕ). without i 2 (f ++ (a ∷ b ∷ e))) here ∙ rw (← h) (without_after f (a ∷ b ∷ e) 0 2)
  left_goes_lem a b e (suc zero) l = ap (λ (i : ℕ). without i 0 (f ++ (a ∷ b ∷ e))) here ∙ rw (← h) (without_after f (a ∷ b ∷ e) 0 0)
  left_goes_lem a b e (suc (suc k)) l = absurd (omega arith)

  two_come : (a b : ℤ) (e : List ℤ) (p q : ℤ) (k : ℕ) → k ≤ 1 →
      with_two (m + 2 * k) p q (f ++ (stayed k (a ∷ b ∷ []) ++ e)) ≡ f ++ (stayed k (a ∷ b ∷ []) ++ (p ∷ q ∷ e))
  two_come a b e p q zero l = rw (← h) (two_after f e 0 p q)
  two_come a b e p q (suc zero) l = rw (← h) (two_after f (a ∷ b ∷ e) 2 p q)
  two_come a b e p q (suc (suc k)) l = absurd (omega arith)

-- ---- the items at a cursor

-- four numbers after m of them
next_four : (xs : List ℤ) (m : ℕ) → m + 4 ≤ length xs →
    drop m xs ≡ at xs m ∷ at xs (suc m) ∷ at xs (suc (suc m)) ∷ at xs (suc (suc (suc m))) ∷ drop (suc (suc (suc (suc m)))) xs
next_four xs m h =
    drop-cons xs m (pos 0) (omega arith)
    ∙ ap (λ (t : List ℤ). at xs m ∷ t)
    (drop-cons xs (suc m) (pos 0) (omega arith)
    ∙ ap (λ (t : List ℤ). at xs (suc m) ∷ t)
    (drop-cons xs (suc (suc m)) (pos 0) (omega arith)
    ∙ ap (λ (t : List ℤ). at xs (suc (suc m)) ∷ t) (drop-cons xs (suc (suc (suc m))) (pos 0) (omega arith))))

module _ (l : List ℤ) (count cursor : ℕ) (there : suc cursor < count) (within : 2 * count ≤ length l) where
  abbrev xs : List ℤ
  xs = take (2 * count) l

  abbrev f : List ℤ
  f = take (2 * cursor) l

  abbrev rest : List ℤ
  rest = drop (2 * (cursor + 2)) xs

  long_xs : length xs ≡ 2 * count
  long_xs = length-take-le (2 * count) l within

  long_f : length f ≡ 2 * cursor
  long_f = length-take-le (2 * cursor) l (omega arith)

  long_rest : length rest ≡ 2 * count - 2 * (cursor + 2)
  long_rest = length-drop (2 * (cursor + 2)) xs ∙ ap (λ (n : ℕ). n - 2 * (cursor + 2)) long_xs

  -- a number of an item is that of the list
  same_at : (i j : ℕ) → i ≡ j → j < 2 * count → at xs i ≡ at l j
  same_at i j e h = ap (at xs) e ∙ get_or-take (2 * count) l j (pos 0) h

  items_are : xs ≡
      f ++ (at l (2 * cursor) ∷ at l (2 * cursor + 1) ∷ at l (2 * suc cursor) ∷ at l (2 * suc cursor + 1) ∷ rest)
  items_are =
      let m = 2 * cursor in
      let a = same_at m m refl (omega arith) in
      let b = same_at (suc m) (2 * cursor + 1) (omega arith) (omega arith) in
      let c = same_at (suc (suc m)) (2 * suc cursor) (omega arith) (omega arith) in
      let d = same_at (suc (suc (suc m))) (2 * suc cursor + 1) (omega arith) (omega arith) in
      let e : suc (suc (suc (suc m))) ≡ 2 * (cursor + 2) = omega arith in
      let t = take-take m (2 * count) l (omega arith) in
      sym (take-append-drop m xs) ∙ ap (λ (z : List ℤ). take m xs ++ z) (next_four xs m (omega (arith, long_xs)))
      ∙ (λ i. t i ++ (a i ∷ b i ∷ c i ∷ d i ∷ drop (e i) xs))

-- ---- the list after a change

long_kept : (k : ℕ) (a b : ℤ) → k ≤ 1 → length (stayed k (a ∷ b ∷ [])) ≡ 2 * k
long_kept zero a b h = refl
long_kept (suc zero) a b h = refl
long_kept (suc (suc k)) a b h = absurd (omega arith)

long_inserted : (k w : ℕ) → length (inserted_numbers k w) ≡ 2 * inserts_of k
long_inserted zero w = refl
long_inserted (suc k) w = refl

inserts_one : (k : ℕ) → (k ≡ 0 → ⊥) → inserts_of k ≡ 1
inserts_one zero h = absurd (h refl)
inserts_one (suc k) h = refl

-- what is put in, by its kind
inserted_is : (k w : ℕ) → (k ≡ 0 → ⊥) → k ≤ 2 → number_of k ∷ number_of w ∷ [] ≡ inserted_numbers k w
inserted_is zero w h l = absurd (h refl)
inserted_is (suc k) w h l = ap (λ (z : ℤ). z ∷ number_of w ∷ []) (number_pos (suc k) (omega arith))

none_inserted : (k w : ℕ) → k ≡ 0 → [] ≡ inserted_numbers k w
none_inserted k w e = rw e

grouped : (f x z y b : List ℤ) → f ++ (x ++ (z ++ (y ++ b))) ≡ f ++ (x ++ z ++ y) ++ b
grouped f x z y b = simp append_assoc

module _ (r : Change) (l : List ℤ) (count cursor : ℕ) (there : suc cursor < count) (within : 2 * count ≤ length l) (left : r.left ≤ 1)
    (right : r.right ≤ 1) where
  -- how many numbers it has
  pub long_changed : length (changed_items r l count cursor) ≡ 2 * count_after count r
  long_changed =
      simp length-append
      (omega (
        arith,
        long_f l count cursor there within,
        long_rest l count cursor there within,
        long_kept r.left (at l (2 * cursor)) (at l (2 * cursor + 1)) left,
        long_kept r.right (at l (2 * suc cursor)) (at l (2 * suc cursor + 1)) right,
        long_inserted r.kind r.value,
      ))

  -- the left that stays, and what then follows it
  abbrev left_kept : List ℤ
  left_kept = stayed r.left (stand_item l cursor)

  abbrev following : List ℤ
  following = stayed r.right (stand_item l (suc cursor)) ++ drop (2 * (cursor + 2)) (take (2 * count) l)

  abbrev kept_items : List ℤ
  kept_items = take (2 * cursor) l ++ (left_kept ++ following)

  regroup : take (2 * cursor) l ++ (left_kept ++ (inserted_numbers r.kind r.value ++ following)) ≡ changed_items r l count cursor
  regroup =
      grouped (take (2 * cursor) l) left_kept (inserted_numbers r.kind r.value) (stayed r.right (stand_item l (suc cursor)))
      (drop (2 * (cursor + 2)) (take (2 * count) l))

  -- the items without what goes
  long_items : length kept_items ≡ 2 * (count - 2 + r.left + r.right)
  long_items =
      simp length-append
      (omega (
        arith,
        long_f l count cursor there within,
        long_rest l count cursor there within,
        long_kept r.left (at l (2 * cursor)) (at l (2 * cursor + 1)) left,
        long_kept r.right (at l (2 * suc cursor)) (at l (2 * suc cursor + 1)) right,
      ))

  module _ (w₁ w₂ w₃ : List ℤ) (e₁ : w₁ ≡ fitted (length l) (without (2 * count) (length l - 2 * count) l))
      (e₂ : w₂ ≡ fitted (length w₁) (without (2 * cursor + 2) (2 - 2 * r.right) w₁))
      (e₃ : w₃ ≡ fitted (length w₂) (without (2 * cursor) (2 - 2 * r.left) w₂)) where
    abbrev a : ℤ
    a = at l (2 * cursor)

    abbrev b : ℤ
    b = at l (2 * cursor + 1)

    abbrev c : ℤ
    c = at l (2 * suc cursor)

    abbrev d : ℤ
    d = at l (2 * suc cursor + 1)

    abbrev items₂ : List ℤ
    items₂ = take (2 * cursor) l ++ (a ∷ b ∷ following)

    first : w₁ ≡ padded (pos 0) (length l) (take (2 * count) l)
    first = e₁ ∙ cleared l (2 * count) within

    second : w₂ ≡ padded (pos 0) (length l) items₂
    second =
        removed (length l) (take (2 * count) l) w₁ w₂ first (2 * cursor + 2) (2 - 2 * r.right) (omega (arith, long_xs l count cursor there within))
        (omega (arith, long_xs l count cursor there within)) e₂
        ∙ ap (padded (pos 0) (length l))
        (ap (without (2 * cursor + 2) (2 - 2 * r.right)) (items_are l count cursor there within)
        ∙ right_goes_lem (take (2 * cursor) l) (2 * cursor) (long_f l count cursor there within) a b c d (drop (2 * (cursor + 2)) (take (2 * count) l)) r.right
        right)

    long₂ : length items₂ ≡ 2 * (count - 1 + r.right)
    long₂ =
        simp length-append
        (omega (
          arith,
          long_f l count cursor there within,
          long_rest l count cursor there within,
          long_kept r.right c d right,
        ))

    pub kept_are : w₃ ≡ padded (pos 0) (length l) kept_items
    kept_are =
        removed (length l) items₂ w₂ w₃ second (2 * cursor) (2 - 2 * r.left) (omega (arith, long₂)) (omega (arith, long₂)) e₃
        ∙ ap (padded (pos 0) (length l)) (left_goes_lem (take (2 * cursor) l) (2 * cursor) (long_f l count cursor there within) a b following r.left left)

    -- nothing is inserted
    pub changed_less : r.kind ≡ 0 → w₃ ≡ padded (pos 0) (length l) (changed_items r l count cursor)
    changed_less z =
        kept_are
        ∙ ap (padded (pos 0) (length l))
        (ap (λ (t : List ℤ). take (2 * cursor) l ++ (left_kept ++ (t ++ following))) (none_inserted r.kind r.value z) ∙ regroup)

    -- something is inserted
    pub changed_more : (w₄ : List ℤ) → (r.kind ≡ 0 → ⊥) → r.kind ≤ 2 → 2 * count_after count r ≤ length l →
        w₄ ≡ fitted (length w₃) (with_two (2 * cursor + 2 * r.left) (number_of r.kind) (number_of r.value) w₃) →
        w₄ ≡ padded (pos 0) (length l) (changed_items r l count cursor)
    changed_more w₄ z k room e₄ =
        inserted (length l) kept_items w₃ w₄ kept_are (2 * cursor + 2 * r.left) (number_of r.kind) (number_of r.value)
        (omega (arith, long_items, inserts_one r.kind z)) (omega (arith, long_items)) e₄
        ∙ ap (padded (pos 0) (length l))
        (two_come (take (2 * cursor) l) (2 * cursor) (long_f l count cursor there within) a b following (number_of r.kind) (number_of r.value) r.left
        left
        ∙ ap (λ (t : List ℤ). take (2 * cursor) l ++ (left_kept ++ (t ++ following))) (inserted_is r.kind r.value z k) ∙ regroup)
