-- Rows that hold a font's pairs, with their rules written, say the font's pairs and the font's rules.
-- Assumes nothing.
use mathlib.Core.Path.{◌≡◌, refl, sym, ap, ap₂, ◌∙◌, fun_ext}
use mathlib.Core.List.Memᴰ
use mathlib.Core.List.{List, [], ◌∷◌, Memᴰ}
use mathlib.Core.Logic.{◌⊎◌, inl, inr}
use mathlib.Core.Option.{Option, none, some}
use Prim.Native.Nat.{ℕ, zero, suc, ◌<◌}
use native.Mathlib.Omega.{arith}
use native.Mathlib.Nat.{le_of_suc-le-suc}
use lib.IntN.{ℤ}
use lib.ListN.{length}
use lib.Seq.{ext_get_or}
use Rattle.words.proofs.Lists.{length_tabulate, get_d_tabulate}
use Rattle.reading.specs.Items.{Left, bnd}
use Rattle.reading.specs.Loops.{Ruled}
use Rattle.compiling.specs.Rows.{at, ruled_at, rule_at, rule_by, row_of, rules, pairs, Ascending}
use Rattle.fonts.specs.Fonts.{left_of, number_of_left, Font, index_of, ruled_by, row_pairs, left_pairs, pairs_by, pairs_of, table_of, rules_of, rule_of_index}
use Rattle.fonts.specs.Numbers.{nth}
use Rattle.compiling.specs.PairRows.{Collects, Writes}
use Rattle.compiling.proofs.RowLaws.{row_is, no_row, number_left, left_number_lem}
use Rattle.fonts.proofs.FontLaws.{has_pair_lem}

-- ---- members by their place

pub nth_member : (ps : List Ruled) (k : ℕ) → k < length ps → Memᴰ (nth ps k) ps
nth_member [] k h = absurd (omega arith)
nth_member (p ∷ ps) zero h = Memᴰ.head refl
nth_member (p ∷ ps) (suc k) h = Memᴰ.tail (nth_member ps k (le_of_suc-le-suc h))

place_by : (x p : Ruled) (ps : List Ruled) → (x ≡ p) ⊎ Memᴰ x ps → (Memᴰ x ps → (k : ℕ) × (k < length ps) × (nth ps k ≡ x)) →
    (k : ℕ) × (k < suc (length ps)) × (nth (p ∷ ps) k ≡ x)
place_by x p ps (inl e) i = (zero, omega arith, sym e)
place_by x p ps (inr m) i = let q = i m in (suc q.0, omega (arith, q.1), q.2)

pub member_place : (x : Ruled) (ps : List Ruled) → Memᴰ x ps → (k : ℕ) × (k < length ps) × (nth ps k ≡ x)
member_place x [] m = absurd (Memᴰ.not-nil m)
member_place x (p ∷ ps) m = place_by x p ps (Memᴰ.cases_cons m) (member_place x ps)

-- ---- a font's pairs have a rule

module _ (s table : List ℤ) where
  abbrev Indexed : Ruled → Type 0
  Indexed x = index_of s table x.pair.left x.pair.right ≡ some x.index

  ruled_indexed : (x : Ruled) (l : Left) (r : ℕ) (o : Option ℕ) → index_of s table l r ≡ o → Memᴰ x (ruled_by l r o) → Indexed x
  ruled_indexed x l r none e m = absurd (Memᴰ.not-nil m)
  ruled_indexed x l r (some i) e m = rw (Memᴰ.eq_of_singleton m) e

  row_cases : (x : Ruled) (l : Left) (n : ℕ) → Memᴰ x (row_pairs s table l n) ⊎ Memᴰ x (ruled_by l n (index_of s table l n)) →
      (Memᴰ x (row_pairs s table l n) → Indexed x) → Indexed x
  row_cases x l n (inl m) k = k m
  row_cases x l n (inr m) k = ruled_indexed x l n (index_of s table l n) refl m

  row_indexed : (x : Ruled) (l : Left) (n : ℕ) → Memᴰ x (row_pairs s table l n) → Indexed x
  unfolding row_pairs
  row_indexed x l zero m = absurd (Memᴰ.not-nil m)
  row_indexed x l (suc n) m = row_cases x l n (Memᴰ.append_cases (row_pairs s table l n) m) (row_indexed x l n)

  left_cases : (x : Ruled) (n : ℕ) → Memᴰ x (left_pairs s table n) ⊎ Memᴰ x (row_pairs s table (left_of n) 256) →
      (Memᴰ x (left_pairs s table n) → Indexed x) → Indexed x
  left_cases x n (inl m) k = k m
  left_cases x n (inr m) k = row_indexed x (left_of n) 256 m

  left_indexed : (x : Ruled) (n : ℕ) → Memᴰ x (left_pairs s table n) → Indexed x
  unfolding left_pairs
  left_indexed x zero m = absurd (Memᴰ.not-nil m)
  left_indexed x (suc n) m = left_cases x n (Memᴰ.append_cases (left_pairs s table n) m) (left_indexed x n)

  pub pair_indexed : (x : Ruled) → Memᴰ x (pairs_by s table) → Indexed x
  pair_indexed x m = left_indexed x 257 m

-- ---- the rows

-- rows that are a list's pairs, each at its place
pub pairs_are : (ps : List Ruled) (n : ℕ) (w : List ℕ) → n ≡ length ps → ((k : ℕ) → k < n → ruled_at w k ≡ nth ps k) → pairs n w ≡ ps
pairs_are ps n w all each =
    ext_get_or (record { pair = record { left = bnd; right = 0 }; index = 0 }) (pairs n w) ps
    (length_tabulate n (ruled_at w) ∙ all)
    (λ i h. let l : i < n = rw (length_tabulate n (ruled_at w)) at h in get_d_tabulate n (ruled_at w) i _ l ∙ each i l)

module _ (f : Font) (w₀ w w' : List ℕ) (n e : ℕ) (c : Collects f.instructions (table_of f) w₀ w n e)
    (r : Writes f.instructions f.kerns f.design n w w') where
  kept : (k g : ℕ) → k < n → g < 3 → at w' k g ≡ at w k g
  kept k g h l = r.same k g (omega arith) (λ i. omega arith) (λ i. omega arith)

  pub ruled_tied : (k : ℕ) → k < n → ruled_at w' k ≡ nth (pairs_of f) k
  ruled_tied k h =
      let a = kept k 0 h (omega arith) in
      let b = kept k 1 h (omega arith) in
      let d = kept k 2 h (omega arith) in
      let q : ruled_at w' k ≡ ruled_at w k = λ i. record { pair = record { left = left_of (a i); right = b i }; index = d i } in
      q ∙ c.pair k h

  pub pairs_tied : pairs n w' ≡ pairs_of f
  pairs_tied = pairs_are (pairs_of f) n w' c.all ruled_tied

  pub ascending : Ascending n w'
  ascending =
      record {
        room = omega (arith, c.ascending.room, r.same_length);
        few = c.ascending.few;
        left = λ k h. omega (arith, c.ascending.left k h, kept k 0 h (omega arith));
        right = λ k h. omega (arith, c.ascending.right k h, kept k 1 h (omega arith));
        ascends = λ k h.
            omega (
              arith,
              c.ascending.ascends k h,
              kept k 0 (omega arith) (omega arith),
              kept k 1 (omega arith) (omega arith),
              kept (suc k) 0 h (omega arith),
              kept (suc k) 1 h (omega arith),
            );
      }

  -- the rule of a row is its instruction's
  rule_tied : (k : ℕ) → k < n → rule_at w' k ≡ rule_of_index f (some (nth (pairs_of f) k).index)
  rule_tied k h = r.rules k h ∙ ap (λ (i : ℕ). rule_of_index f (some i)) (ap (λ (x : Ruled). x.index) (c.pair k h))

  -- the row of a pair of the font
  row_there : (l : Left) (y j k : ℕ) → k < n → nth (pairs_of f) k ≡ record { pair = record { left = l; right = y }; index = j } →
      (at w' k 0 ≡ number_of_left l) × (at w' k 1 ≡ y)
  row_there l y j k h q =
      let u : ruled_at w' k ≡ record { pair = record { left = l; right = y }; index = j } = ruled_tied k h ∙ q in
      (sym (number_left (at w' k 0)) ∙ ap (λ (x : Ruled). number_of_left x.pair.left) u, ap (λ (x : Ruled). x.pair.right) u)

  -- a pair without a rule has no row
  none_there : (l : Left) (y : ℕ) → index_of f.instructions (table_of f) l y ≡ none → (k : ℕ) → k < n → (at w' k 0 ≡ number_of_left l) × (at w' k 1 ≡ y) → ⊥
  none_there l y i k h q =
      let x = nth (pairs_of f) k in
      let u : ruled_at w' k ≡ x = ruled_tied k h in
      let a : x.pair.left ≡ l = sym (ap (λ (z : Ruled). z.pair.left) u) ∙ ap left_of q.0 ∙ left_number_lem l in
      let b : x.pair.right ≡ y = sym (ap (λ (z : Ruled). z.pair.right) u) ∙ q.1 in
      let m = pair_indexed f.instructions (table_of f) x (nth_member (pairs_of f) k (omega (arith, c.all))) in
      let v : ◌≡◌ {A = Option ℕ} none (some x.index) = sym i ∙ ap₂ (index_of f.instructions (table_of f)) (sym a) (sym b) ∙ m in
      let z : ◌≡◌ {A = ℕ} 0 1 = cc in
      omega arith

  rules_by_lem : (l : Left) (y : ℕ) (o : Option ℕ) → index_of f.instructions (table_of f) l y ≡ o → rules n w' l y ≡ rule_of_index f o
  rules_by_lem l y none i =
      let o : row_of w' n (number_of_left l) y ≡ none = no_row w' (number_of_left l) y n (λ k h q. none_there l y i k h q) in
      ap (rule_by w') o
  rules_by_lem l y (some j) i =
      let p = member_place (record { pair = record { left = l; right = y }; index = j }) (pairs_of f) (has_pair_lem f.instructions (table_of f) l y j i) in
      let h : p.0 < n = omega (arith, p.1, c.all) in
      let t = row_there l y j p.0 h p.2 in
      let o : row_of w' n (number_of_left l) y ≡ some p.0 = row_is n w' ascending p.0 (number_of_left l) y h t in
      ap (rule_by w') o ∙ rule_tied p.0 h ∙ ap (λ (x : Ruled). rule_of_index f (some x.index)) p.2

  pub rules_tied : rules n w' ≡ rules_of f
  rules_tied = fun_ext (λ l. fun_ext (λ y. rules_by_lem l y (index_of f.instructions (table_of f) l y) refl))
