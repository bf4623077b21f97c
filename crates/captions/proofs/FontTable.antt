-- The table that compile writes of a font, decoded: it has the form, and it holds the font's finished pairs.
-- Assumes nothing.
use mathlib.Core.Path.{◌≡◌, refl, sym, ap, ap₂, ◌∙◌, subst}
use mathlib.Core.Bool.{Bool, true, false, cond}
use mathlib.Core.List.Memᴰ
use mathlib.Core.List.{List, [], ◌∷◌, Memᴰ}
use mathlib.Core.Logic.{◌⊎◌, inl, inr}
use mathlib.Core.Option.{none, some, map, map-eq-some_iff, none-ne-some}
use Prim.Native.Nat.{ℕ, zero, suc, ◌<◌, ◌≤◌}
use native.Mathlib.Omega.{arith}
use lib.IntN.{ℤ}
use lib.Dec.{T, ltb}
use lib.ListN.{length}
use borrow.Author.Tests.{ltb-true, lt-ltb}
use Rattle.reading.specs.Items.{Left, free}
use Rattle.reading.specs.Depth.{Res, Finished, Pair, comp}
use Rattle.reading.specs.Form.{formed}
use Rattle.reading.proofs.Holds.{Holds}
use Rattle.reading.proofs.Theorems as Reading
use Rattle.fonts.specs.Fonts.{left_of, number_of_left, Font, pairs_of, rules_of}
use Rattle.fonts.specs.Compiled.{finished_of, font_table, font_ops}
use Rattle.compiling.proofs.RowLaws.{left_number_lem}
use Rattle.fonts.proofs.FontLaws.{covers_font, ruled_in_range}
use Rattle.compiling.proofs.Sorted.{Pairwise}
use Rattle.fonts.proofs.Theorems.{entry_formed}
use Rattle.captions.specs.Tables.{op_count, key_of, key_at, find, entry_of_pair, entries}
use Rattle.captions.specs.Form.{table_form}
use Rattle.captions.proofs.Finding.{find_inside}
use Rattle.captions.proofs.Bisecting.{finds}
use Rattle.captions.proofs.Codes.{SmallRules, small_codes}
use Rattle.captions.proofs.Decoding.{Entry, kept, whole_table, whole_ops, nowhere, entry, entry_is}
use Rattle.captions.proofs.Forming.{get_d_member, place_of, Sooner, InRange, Good, pairs, ops, pair_count_lem, key_is, range_at, keys_form, table_form_lem}
use Rattle.captions.proofs.FontPairs.{pairs_sorted, pairs_ranged, Finishes, kept_finishes, in_kept, kept_sorted}

-- a test that holds
test_true : (b : Bool) → T b → b ≡ true
test_true true t = refl
test_true false t = absurd t

-- ---- a member by its place

place_by : (x y : Entry) (xs : List Entry) → (x ≡ y) ⊎ Memᴰ x xs → (Memᴰ x xs → (m : ℕ) × (m < length xs) × (entry xs m ≡ x)) →
    (m : ℕ) × (m < suc (length xs)) × (entry (y ∷ xs) m ≡ x)
place_by x y xs (inl e) k = (zero, omega arith, sym e)
place_by x y xs (inr l) k = let h = k l in (suc h.0, omega (arith, h.1), h.2)

place : (x : Entry) (xs : List Entry) → Memᴰ x xs → (m : ℕ) × (m < length xs) × (entry xs m ≡ x)
place x [] l = absurd (Memᴰ.not-nil l)
place x (y ∷ xs) l = place_by x y xs (Memᴰ.cases_cons l) (place x xs)

-- ---- a table of finished pairs answers for each of them, and for no other pair of a right below 2 ^ 32

one_pair : (l : Left) (r : ℕ) (p : Pair) → r < 4294967296 → p.right < 256 → place_of p ≡ key_of l r → (p.left ≡ l) × (p.right ≡ r)
one_pair l r p i j e =
    let a : number_of_left p.left ≡ number_of_left l = omega arith in
    (sym (left_number_lem p.left) ∙ ap left_of a ∙ left_number_lem l, omega arith)

module _ (xs : List Entry) (ranged : (x : Entry) → Memᴰ x xs → InRange x.pair) where
  -- a pair that has an entry is one of them
  pub entered : (l : Left) (r : ℕ) (q : Res) → r < 4294967296 → entries (pairs xs) (ops xs) l r ≡ some q →
      (x : Entry) × Memᴰ x xs × (x.pair.left ≡ l) × (x.pair.right ≡ r) × (x.res ≡ q)
  entered l r q h e =
      let m = (map-eq-some_iff (entry_of_pair (pairs xs) (ops xs)) (find (pairs xs) (key_of l r))).0 e in
      let k = m.0 in
      let i = find_inside (pairs xs) (key_of l r) k m.1 in
      let n : k < length xs = omega (arith, i.0, pair_count_lem xs) in
      let p = one_pair l r (entry xs k).pair h (range_at xs ranged k n).right (sym (key_is xs ranged k n) ∙ i.1) in
      (entry xs k, get_d_member nowhere xs k n, p.0, p.1, sym (entry_is xs k n) ∙ m.2)

  -- and each of them has its entry
  pub enters : Pairwise Sooner xs → (x : Entry) → Memᴰ x xs → entries (pairs xs) (ops xs) x.pair.left x.pair.right ≡ some x.res
  enters sorted x l =
      let p = place x xs l in
      let k = p.0 in
      let key : key_at (pairs xs) k ≡ place_of x.pair = key_is xs ranged k p.1 ∙ ap (λ (y : Entry). place_of y.pair) p.2 in
      let at : find (pairs xs) (key_at (pairs xs) k) ≡ some k = finds (pairs xs) (keys_form xs ranged sorted) k (omega (arith, p.1, pair_count_lem xs)) in
      let is : entry_of_pair (pairs xs) (ops xs) k ≡ x.res = entry_is xs k p.1 ∙ ap (λ (y : Entry). y.res) p.2 in
      ap (λ (n : ℕ). map (entry_of_pair (pairs xs) (ops xs)) (find (pairs xs) n)) (sym key) ∙ ap (map (entry_of_pair (pairs xs) (ops xs))) at
      ∙ ap some is

-- ---- the table of a font

-- A table for rights below n. Keys are of a left and a u32: past 2 ^ 32 a right has the key of another pair (that of the left boundary and
-- 2 ^ 32 * (1 + c) + r is that of the character c and r), so that what a table holds is said of rights below that.
abbrev pub below : ℕ → Finished → Finished
below n table l r = cond (ltb r n) (table l r) none

pub below_is : (n : ℕ) (table : Finished) (l : Left) (r : ℕ) → r < n → below n table l r ≡ table l r
below_is n table l r h = rw (lt-ltb r n h)

below_some : (n : ℕ) (table : Finished) (l : Left) (r : ℕ) (q : Res) → below n table l r ≡ some q → (r < n) × (table l r ≡ some q)
below_some n table l r q e = go (ltb r n) refl e
  where
    go : (b : Bool) → ltb r n ≡ b → cond b (table l r) none ≡ some q → (r < n) × (table l r ≡ some q)
    go true i h = (ltb-true r n i, h)
    go false i h = absurd (none-ne-some q h)

module _ (f : Font) where
  abbrev finishing : List Entry
  finishing = kept (finished_of f) (pairs_of f)

  decoded : entries (font_table f) (font_ops f) ≡ entries (pairs finishing) (ops finishing)
  decoded = ap₂ entries (whole_table (finished_of f) (pairs_of f)) (whole_ops (finished_of f) (pairs_of f))

  finishes : (x : Entry) → Memᴰ x finishing → Finishes (finished_of f) (pairs_of f) x
  finishes x m = kept_finishes (finished_of f) (pairs_of f) x m

  sorted : Pairwise Sooner finishing
  sorted = kept_sorted (finished_of f) (pairs_of f) (pairs_sorted f)

  ranged : (x : Entry) → Memᴰ x finishing → InRange x.pair
  ranged x m = let h = finishes x m in subst InRange (sym h.same) (pairs_ranged f h.ruled h.member)

  good : SmallRules (rules_of f) → (x : Entry) → Memᴰ x finishing → Good x
  good s x m =
      let h = finishes x m in
      let r = ranged x m in
      let l = x.pair.left in
      record {
        range = r;
        coded = small_codes (rules_of f) s (suc (length (pairs_of f))) l x.pair.right x.res r.left r.right h.entered;
        form = test_true (formed l x.pair.right x.res) (entry_formed f l x.pair.right x.res h.entered);
      }

  -- The table has the form that begin checks.
  pub font_form_by : SmallRules (rules_of f) → op_count (font_ops f) ≤ 2147483647 → table_form (font_table f) (font_ops f) ≡ true
  font_form_by s few =
      ap₂ table_form (whole_table (finished_of f) (pairs_of f)) (whole_ops (finished_of f) (pairs_of f))
      ∙ table_form_lem finishing (good s) sorted (subst (λ (o : List ℤ). op_count o ≤ 2147483647) (whole_ops (finished_of f) (pairs_of f)) few)

  -- Every entry is that of its pair, of any left and any u32.
  pub font_sound : (l : Left) (r : ℕ) (q : Res) → r < 4294967296 → entries (font_table f) (font_ops f) l r ≡ some q → (d : ℕ) × (comp (rules_of f) d l r ≡ some q)
  font_sound l r q i e =
      let t = entered finishing ranged l r q i (subst (λ (table : Finished). table l r ≡ some q) decoded e) in
      let h = (finishes t.0 t.1).entered in
      (suc (length (pairs_of f)), sym (ap₂ (finished_of f) t.2 t.3) ∙ h ∙ ap some t.4)

  -- Every pair that has a rule and finishes has its entry.
  pub font_whole : (l : Left) (r : ℕ) (d : ℕ) (q : Res) → (rules_of f l r ≡ free → ⊥) → comp (rules_of f) d l r ≡ some q →
      entries (font_table f) (font_ops f) l r ≡ some q
  font_whole l r d q n e =
      let c = (covers_font f).covers l r n in
      let h : finished_of f l r ≡ some q = Reading.depth_enough (rules_of f) (pairs_of f) (covers_font f) d l r e in
      let m = in_kept (finished_of f) (pairs_of f) (record { pair = record { left = l; right = r }; index = c.0 }) q c.1 h in
      let t = enters finishing ranged sorted (record { pair = record { left = l; right = r }; res = q }) m in
      subst (λ (table : Finished). table l r ≡ some q) (sym decoded) t

  -- The table holds exactly the font's finished pairs that have a rule, among rights below n.
  pub font_holds_below : (n : ℕ) → 256 ≤ n → n ≤ 4294967296 → Holds (rules_of f) (below n (entries (font_table f) (font_ops f)))
  font_holds_below n a b =
      record {
        sound = λ l r q e. let t = below_some n (entries (font_table f) (font_ops f)) l r q e in font_sound l r q (omega (arith, t.0)) t.1;
        whole =
            λ l r d q i e. let h : r < n = omega (arith, (ruled_in_range f l r i).1) in
            below_is n (entries (font_table f) (font_ops f)) l r h ∙ font_whole l r d q i e;
      }
