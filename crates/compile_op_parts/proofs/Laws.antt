-- On rows whose rules are written the parts that are found are those of compiling/specs/OpSteps; and the tests of the code, as the definitions have them.
-- Assumes nothing.
use mathlib.Core.Path.{◌≡◌, refl, sym, ap, ◌∙◌}
use mathlib.Core.Bool.{Bool, true, false, cond}
use mathlib.Core.List.{List, [], ◌∷◌}
use mathlib.Core.Logic.{◌⊎◌, inl, inr}
use Prim.Native.Nat.{ℕ, suc, ◌+◌, ◌<◌, ◌≤◌}
use native.Mathlib.Numerals.{add-one}
use native.Mathlib.Omega.{arith}
use lib.Dec.{leb, eqb}
use borrow.Author.Tests.{lt-ltb, le-leb, lt-leb, ne_eqb, eqb-true}
use Rattle.compiling.specs.declared.Part.{Part}
use Rattle.compiling.specs.declared.Part.TheVariants.{Nothing, Ligature, Kern}
use Rattle.compiling.specs.Rows.{at, Ascending, Encoded}
use Rattle.compiling.specs.OpSteps.{left_part, part_by, last_by, pair_part, row_last_code, any_of, first_of, second_of, first_part, second_part, LastFits}
use Rattle.compiling.proofs.RowSearch.{search_row_lem}
use Rattle.compiling.proofs.OpLaws.{small_value}
use Rattle.compile_op_parts.specs.FoundParts.{pair_found, last_found, place_of, first_of_found, second_of_found, first_found, second_found}

-- one of two op bytes
either : (x a b : ℕ) → any_of x (a ∷ b ∷ []) ≡ true → (x ≡ a) ⊎ (x ≡ b)
either x a b e = go (eqb x a) (eqb x b) refl refl
  where
    go : (s t : Bool) → eqb x a ≡ s → eqb x b ≡ t → (x ≡ a) ⊎ (x ≡ b)
    go true t p q = inl (eqb-true x a p)
    go false true p q = inr (eqb-true x b q)
    go false false p q = absurd (let z : ◌≡◌ {A = ℕ} 0 1 = ap (λ (b : Bool). cond b 1 0) (rw (p, q) at e) in omega arith)

place_is : (c : ℕ) → c < 256 → place_of c ≡ suc c
place_is c h = rw (lt-ltb c 256 h, add-one)

module _ (n : ℕ) (w : List ℕ) (a : Ascending n w) (t r : ℕ) (small : r < 256) where
  found_pair : pair_found n w t r ≡ pair_part n w t r
  found_pair = ap (part_by t) (search_row_lem n w a t r small)

  found_last : last_found n w t r ≡ row_last_code n w t r
  found_last = ap (last_by w r) (search_row_lem n w a t r small)

-- branches that are equal where they are taken
module _ (x y y' z : Part) where
  same_first : (a b : Bool) → (b ≡ true → y ≡ y') → cond a x (cond b y z) ≡ cond a x (cond b y' z)
  same_first true b f = refl
  same_first false true f = f refl
  same_first false false f = refl

  same_second : (l u u' : Part) (a b c d : Bool) → (c ≡ true → y ≡ y') → (d ≡ true → u ≡ u') →
      cond a x (cond b l (cond c y (cond d u z))) ≡ cond a x (cond b l (cond c y' (cond d u' z)))
  same_second l u u' true b c d f g = refl
  same_second l u u' false true c d f g = refl
  same_second l u u' false false true d f g = f refl
  same_second l u u' false false false true f g = g refl
  same_second l u u' false false false false f g = refl

module _ (n : ℕ) (w : List ℕ) (k : ℕ) (e : Encoded n w) (h : k < n) where
  value_below : at w k 3 < 128 → at w k 4 < 256
  value_below l = small_value n w k e h refl refl l

  two_below : {a b : ℕ} → a < 128 → b < 128 → (at w k 3 ≡ a) ⊎ (at w k 3 ≡ b) → at w k 3 < 128
  two_below p q (inl i) = omega arith
  two_below p q (inr i) = omega arith

  pub first_written : first_found n w k ≡ first_part n w k
  unfolding first_of
  first_written =
      same_first (left_part (at w k 0)) (pair_found n w (at w k 0) (at w k 4)) (pair_part n w (at w k 0) (at w k 4)) Nothing (leb 6 (at w k 3)) (any_of (at w k 3) (2 ∷ 3 ∷ []))
      (λ i. found_pair n w e.ascending (at w k 0) (at w k 4) (value_below (two_below (omega arith) (omega arith) (either (at w k 3) 2 3 i))))

  inserted_written : at w k 4 < 256 → pair_found n w (place_of (at w k 4)) (at w k 1) ≡ pair_part n w (suc (at w k 4)) (at w k 1)
  inserted_written l =
      ap (λ (x : ℕ). pair_found n w x (at w k 1)) (place_is (at w k 4) l)
      ∙ found_pair n w e.ascending (suc (at w k 4)) (at w k 1) (e.ascending.right k h)

  last_written : LastFits n w k → at w k 3 ≡ 3 →
      pair_found n w (place_of (last_found n w (at w k 0) (at w k 4))) (at w k 1) ≡ pair_part n w (suc (row_last_code n w (at w k 0) (at w k 4))) (at w k 1)
  last_written f i =
      ap (λ (x : ℕ). pair_found n w (place_of x) (at w k 1))
      (found_last n w e.ascending (at w k 0) (at w k 4) (value_below (omega arith)))
      ∙ ap (λ (x : ℕ). pair_found n w x (at w k 1)) (place_is (row_last_code n w (at w k 0) (at w k 4)) (f i))
      ∙ found_pair n w e.ascending (suc (row_last_code n w (at w k 0) (at w k 4))) (at w k 1) (e.ascending.right k h)

  pub second_written : LastFits n w k → second_found n w k ≡ second_part n w k
  unfolding second_of
  second_written f =
      same_second (Kern (at w k 4)) (pair_found n w (place_of (at w k 4)) (at w k 1)) (pair_part n w (suc (at w k 4)) (at w k 1)) Nothing (Ligature (at w k 4))
      (pair_found n w (place_of (last_found n w (at w k 0) (at w k 4))) (at w k 1)) (pair_part n w (suc (row_last_code n w (at w k 0) (at w k 4))) (at w k 1))
      (eqb (at w k 3) 128) (any_of (at w k 3) (5 ∷ 11 ∷ [])) (any_of (at w k 3) (1 ∷ 7 ∷ [])) (eqb (at w k 3) 3)
      (λ i. inserted_written (value_below (two_below (omega arith) (omega arith) (either (at w k 3) 1 7 i))))
      (λ i. last_written f (eqb-true (at w k 3) 3 i))

-- ---- the tests of the code

module _ (n : ℕ) (w : List ℕ) (op t v : ℕ) where
  pub first_high : 6 ≤ op → left_part t ≡ first_of_found n w op t v
  first_high h = rw (le-leb 6 op h)

  pub first_pair : (op ≡ 2) ⊎ (op ≡ 3) → pair_found n w t v ≡ first_of_found n w op t v
  first_pair (inl j) = rw j
  first_pair (inr j) = rw j

  pub first_none : op < 6 → (op ≡ 2 → ⊥) → (op ≡ 3 → ⊥) → Nothing ≡ first_of_found n w op t v
  first_none h a b = rw (lt-leb 6 op h, ne_eqb op 2 a, ne_eqb op 3 b)

  module _ (r : ℕ) where
    pub second_kern : op ≡ 128 → Kern v ≡ second_of_found n w op t v r
    second_kern j = rw j

    pub second_ligature : (op ≡ 5) ⊎ (op ≡ 11) → Ligature v ≡ second_of_found n w op t v r
    second_ligature (inl j) = rw j
    second_ligature (inr j) = rw j

    pub second_inserted : (op ≡ 1) ⊎ (op ≡ 7) → pair_found n w (place_of v) r ≡ second_of_found n w op t v r
    second_inserted (inl j) = rw j
    second_inserted (inr j) = rw j

    pub second_last : op ≡ 3 → pair_found n w (place_of (last_found n w t v)) r ≡ second_of_found n w op t v r
    second_last j = rw j

    pub second_none : (op ≡ 128 → ⊥) → ((op ≡ 5) ⊎ (op ≡ 11) → ⊥) → ((op ≡ 1) ⊎ (op ≡ 7) → ⊥) → (op ≡ 3 → ⊥) → Nothing ≡ second_of_found n w op t v r
    second_none a b c d =
        rw (
          ne_eqb op 128 a,
          ne_eqb op 5 (λ j. b (inl j)),
          ne_eqb op 11 (λ j. b (inr j)),
          ne_eqb op 1 (λ j. c (inl j)),
          ne_eqb op 7 (λ j. c (inr j)),
          ne_eqb op 3 d,
        )

module _ (n : ℕ) (w : List ℕ) (k : ℕ) {op t v : ℕ} (i : op ≡ at w k 3) (j : t ≡ at w k 0) (l : v ≡ at w k 4) where
  pub first_is : {p : Part} → p ≡ first_of_found n w op t v → p ≡ first_found n w k
  first_is x = x ∙ (λ a. first_of_found n w (i a) (j a) (l a))

  pub second_is : {r : ℕ} → r ≡ at w k 1 → {p : Part} → p ≡ second_of_found n w op t v r → p ≡ second_found n w k
  second_is y x = x ∙ (λ a. second_of_found n w (i a) (j a) (l a) (y a))
