-- Loops that pass over the bytes of a text: the first point, digits alone, the value of digits, and decimals from the last to the first.
-- Assumes nothing.
use mathlib.Core.Path.{◌≡◌, sym, ap, ◌∙◌}
use mathlib.Core.Bool.{true, false}
use mathlib.Core.List.{List, [], ◌∷◌}
use mathlib.Core.Logic.{◌⊎◌, inl, inr}
use Prim.Native.Nat.{ℕ, suc, ◌+◌, ◌-◌, ◌*◌, ◌/◌, ◌<◌, ◌≤◌, min}
use native.Mathlib.Nat.{min-eq_left, min-eq_right, min-le_left}
use native.Mathlib.Numerals.{add-one}
use native.Mathlib.Omega.{arith}
use lib.ListN.{length, get_or, take, drop, drop_of_length-le, length-take}
use lib.Seq.{drop-cons, get_or-take}
use borrow.Author.Tests.{eq-eqb, ne_eqb, le-leb, lt-leb}
use Rattle.words.proofs.Tests.{less_or_not}
use Rattle.points.specs.Scanning.{point_place, only_digits, digits_after, half_scaled}

-- ---- the first point

module _ (text : List ℕ) (i : ℕ) (inv : point_place text ≡ i + point_place (drop i text)) where
  pub place_found : i < length text → get_or text i 0 ≡ 46 → i ≡ point_place text
  unfolding point_place
  place_found h e =
      let z : point_place (drop i text) ≡ 0 = rw (drop-cons text i 0 h, eq-eqb (get_or text i 0) 46 e) in
      omega (arith, inv, z)

  pub place_more : i < length text → (get_or text i 0 ≡ 46 → ⊥) → point_place text ≡ i + 1 + point_place (drop (i + 1) text)
  unfolding point_place
  place_more h n =
      let z : point_place (drop i text) ≡ suc (point_place (drop (i + 1) text)) = rw (drop-cons text i 0 h, ne_eqb (get_or text i 0) 46 n, add-one) in
      omega (arith, inv, z)

  pub place_end : length text ≤ i → i ≡ point_place text
  unfolding point_place
  place_end h =
      let z : point_place (drop i text) ≡ 0 = ap point_place (drop_of_length-le text {i = i} h) in
      omega (arith, inv, z)

-- ---- digits alone

module _ (text : List ℕ) (i : ℕ) (inv : only_digits text ≡ only_digits (drop i text)) where
  pub digits_below : i < length text → get_or text i 0 < 48 → false ≡ only_digits text
  unfolding only_digits
  digits_below h l = sym (inv ∙ rw (drop-cons text i 0 h, lt-leb 48 (get_or text i 0) l))

  pub digits_above : i < length text → 48 ≤ get_or text i 0 → 57 < get_or text i 0 → false ≡ only_digits text
  unfolding only_digits
  digits_above h k l = sym (inv ∙ rw (drop-cons text i 0 h, le-leb 48 (get_or text i 0) k, lt-leb (get_or text i 0) 57 l))

  pub digits_more : i < length text → 48 ≤ get_or text i 0 → get_or text i 0 ≤ 57 → only_digits text ≡ only_digits (drop (i + 1) text)
  unfolding only_digits
  digits_more h k l = inv ∙ rw (drop-cons text i 0 h, le-leb 48 (get_or text i 0) k, le-leb (get_or text i 0) 57 l, add-one)

  pub digits_end : length text ≤ i → true ≡ only_digits text
  unfolding only_digits
  digits_end h = sym (inv ∙ ap only_digits (drop_of_length-le text {i = i} h))

-- ---- the value of digits, capped

-- digits make no value smaller
after_least : (n : ℕ) (bs : List ℕ) → n ≤ digits_after n bs
unfolding digits_after
after_least n [] = omega arith
after_least n (b ∷ bs) = omega (arith, after_least (10 * n + (b - 48)) bs)

cap_high : (n : ℕ) → 2048 ≤ n → min 2048 n ≡ 2048
cap_high n h = min-eq_left h

cap_low : (n : ℕ) → n ≤ 2048 → min 2048 n ≡ n
cap_low n h = min-eq_right h

pub cap_after : (n : ℕ) (bs : List ℕ) → min 2048 (digits_after n bs) ≡ min 2048 (digits_after (min 2048 n) bs)
cap_after n bs = by (less_or_not n 2048)
  where
    by : (n < 2048) ⊎ (2048 ≤ n) → min 2048 (digits_after n bs) ≡ min 2048 (digits_after (min 2048 n) bs)
    by (inl h) = rw (cap_low n (omega arith))
    by (inr h) =
        rw (cap_high n h)
        (cap_high (digits_after n bs) (omega (arith, after_least n bs)) ∙ sym (cap_high (digits_after 2048 bs) (after_least 2048 bs)))

-- what is known of a capped value
pub cap_known : (n m : ℕ) → m ≡ min 2048 n → (m ≤ 2048) × (m ≤ n) × (m < 2048 → m ≡ n)
cap_known n m e = by (less_or_not n 2048)
  where
    by : (n < 2048) ⊎ (2048 ≤ n) → (m ≤ 2048) × (m ≤ n) × (m < 2048 → m ≡ n)
    by (inl h) = let k = cap_low n (omega arith) in (omega (arith, k), omega (arith, k), λ _. e ∙ k)
    by (inr h) = let k = cap_high n h in (omega (arith, k), omega (arith, k), λ l. absurd (omega (arith, k)))

pub record Valued (text : List ℕ) (n i : ℕ) : Type 0 where
  pub value : min 2048 (digits_after 0 text) ≡ min 2048 (digits_after n (drop i text))
  pub small : n ≤ 2048

module _ {text : List ℕ} {n i : ℕ} (v : Valued text n i) where
  pub valued_more : {m d : ℕ} → i < length text → d ≡ get_or text i 0 - 48 → m ≡ min 2048 (10 * n + d) → Valued text m (i + 1)
  unfolding digits_after
  valued_more {m} {d} h e g =
      let b = get_or text i 0 in
      let a : digits_after n (drop i text) ≡ digits_after (10 * n + (b - 48)) (drop (i + 1) text) = rw (drop-cons text i 0 h, add-one) in
      let k : m ≡ min 2048 (10 * n + (b - 48)) = g ∙ ap (λ (x : ℕ). min 2048 (10 * n + x)) e in
      record {
        value = v.value ∙ ap (min 2048) a ∙ cap_after (10 * n + (b - 48)) (drop (i + 1) text)
            ∙ ap (λ (x : ℕ). min 2048 (digits_after x (drop (i + 1) text))) (sym k);
        small = (cap_known (10 * n + (b - 48)) m k).0;
      }

  pub valued_all : length text ≤ i → n ≡ min 2048 (digits_after 0 text)
  unfolding digits_after
  valued_all h = sym (v.value ∙ ap (λ (l : List ℕ). min 2048 (digits_after n l)) (drop_of_length-le text {i = i} h) ∙ cap_low n v.small)

-- ---- decimals

-- a is what the decimals from k on come to
pub record HalfRead (text : List ℕ) (a k : ℕ) : Type 0 where
  pub is : a ≡ half_scaled (drop k (take 17 text))
  pub within : k ≤ length (take 17 text)
  pub small : a ≤ 4000000

pub halved_none : (text : List ℕ) {k : ℕ} → k ≡ min 17 (length text) → HalfRead text 0 k
unfolding half_scaled
halved_none text {k} e =
    let l : k ≡ length (take 17 text) = e ∙ sym (length-take 17 text) in
    let h : length (take 17 text) ≤ k = omega arith in
    record { is = sym (ap half_scaled (drop_of_length-le (take 17 text) {i = k} h)); within = omega arith; small = omega arith }

module _ {text : List ℕ} {a k : ℕ} (v : HalfRead text a k) where
  pub halved_more : {d : ℕ} → 0 < k → (d ≡ get_or text (k - 1) 0 - 48) × (d ≤ 207) → HalfRead text ((a + d * 131072) / 10) (k - 1)
  unfolding half_scaled
  halved_more {d} h g =
      let j = k - 1 in
      let s : suc j ≡ k = omega arith in
      let few : length (take 17 text) ≤ 17 = omega (arith, length-take 17 text, min-le_left 17 (length text)) in
      let x : drop j (take 17 text) ≡ get_or text j 0 ∷ drop k (take 17 text) =
      drop-cons (take 17 text) j 0 (omega (arith, v.within)) ∙ rw (get_or-take 17 text j 0 (omega (arith, v.within)), s) in
      record {
        is = rw (x, g.0, v.is);
        within = omega (arith, v.within);
        small = omega (arith, v.small, g.1);
      }

  pub halved_all : k ≡ 0 → a ≡ half_scaled (take 17 text)
  halved_all e = v.is ∙ ap (λ (j : ℕ). half_scaled (drop j (take 17 text))) e
