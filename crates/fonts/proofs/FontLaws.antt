-- A font's pairs are all that have a rule.
-- Assumes nothing.
use mathlib.Core.Path.{◌≡◌, refl}
use mathlib.Core.Bool.{Bool, true, false, cond}
use mathlib.Core.List.{List, [], ◌∷◌, ◌++◌, Memᴰ}
use mathlib.Core.Logic.{◌⊎◌, inl, inr}
use mathlib.Core.Option.{Option, none, some}
use Prim.Native.Nat.{ℕ, zero, suc, ◌<◌}
use native.Mathlib.Nat.{eq-or-lt_of_le, le_of_suc-le-suc}
use native.Mathlib.Omega.{arith}
use lib.Dec.{ltb}
use lib.IntN.{ℤ, pos, negsuc}
use borrow.Author.Tests.{le-ltb}
use native.Mathlib.Decide.{dec_lt}
use Rattle.lang.specs.Records.{instruction_at}
use Rattle.program_chain.specs.Chains.{Program, is_rule_for, first_for, chain_of}
use Rattle.program_chain.proofs.Rules.{taken_right}
use Rattle.reading.specs.Items.{Left, bnd, chr, free}
use Rattle.reading.specs.Loops.{Ruled}
use Rattle.reading.proofs.Covers.{Covers}
use Rattle.fonts.specs.Fonts.{Font, left_of, number_of_left, index_of, left_entry_of, rule_from, ruled_by, row_pairs, left_pairs, pairs_by, pairs_of, table_of, rules_of}
use Rattle.fonts.specs.Fonts.{rule_of_index}

-- the first instruction for a character is one for it
first_by : (program : Program) (r : ℕ) (j : ℕ) (is : List ℕ) (i : ℕ) (b : Bool) → is_rule_for r (program j) ≡ b →
    (first_for program r is ≡ some i → (program i).right_char.0 ≡ r) → cond b (some j) (first_for program r is) ≡ some i → (program i).right_char.0 ≡ r
first_by program r j is i true t k h =
    let m : j ≡ i = cc in
    rw (← m) (taken_right r (program j) t)
first_by program r j is i false t k h = k h

first_right : (program : Program) (r : ℕ) (is : List ℕ) (i : ℕ) → first_for program r is ≡ some i → (program i).right_char.0 ≡ r
unfolding first_for
first_right program r [] i e = absurd (let z : ◌≡◌ {A = ℕ} 0 1 = cc in omega arith)
first_right program r (j ∷ is) i e = first_by program r j is i (is_rule_for r (program j)) refl (first_right program r is i) e

-- so a right character that has a rule is below 256
rule_right : (s : List ℤ) (e : ℤ) (r i : ℕ) → rule_from s e r ≡ some i → r < 256
rule_right s (negsuc n) r i h = absurd (let z : ◌≡◌ {A = ℕ} 0 1 = cc in omega arith)
rule_right s (pos e) r i h = omega (arith, first_right (instruction_at s) r (chain_of s e) i h)

-- ---- the pairs of a font

module _ (s table : List ℤ) where
  abbrev ruled : Left → ℕ → ℕ → Ruled
  ruled l r i = record { pair = record { left = l; right = r }; index = i }

  in_ruled : (l : Left) (r i : ℕ) → Memᴰ (ruled l r i) (ruled_by l r (some i))
  in_ruled l r i = mathlib.Core.List.Memᴰ.head refl

  row_by : (l : Left) (r n i : ℕ) → index_of s table l r ≡ some i → (r ≡ n) ⊎ (r < n) → (r < n → Memᴰ (ruled l r i) (row_pairs s table l n)) →
      Memᴰ (ruled l r i) (row_pairs s table l n ++ ruled_by l n (index_of s table l n))
  row_by l r n i e (inl q) k = mathlib.Core.List.Memᴰ.append_right (row_pairs s table l n) (rw (← q, e) (in_ruled l r i))
  row_by l r n i e (inr h) k = mathlib.Core.List.Memᴰ.append_left (ruled_by l n (index_of s table l n)) (k h)

  in_row : (l : Left) (r n i : ℕ) → index_of s table l r ≡ some i → r < n → Memᴰ (ruled l r i) (row_pairs s table l n)
  unfolding row_pairs
  in_row l r zero i e h = absurd (omega arith)
  in_row l r (suc n) i e h = row_by l r n i e (eq-or-lt_of_le (le_of_suc-le-suc h)) (in_row l r n i e)

  left_by : (x : Ruled) (t n : ℕ) → Memᴰ x (row_pairs s table (left_of t) 256) → (t ≡ n) ⊎ (t < n) → (t < n → Memᴰ x (left_pairs s table n)) →
      Memᴰ x (left_pairs s table n ++ row_pairs s table (left_of n) 256)
  left_by x t n m (inl q) k = mathlib.Core.List.Memᴰ.append_right (left_pairs s table n) (rw (← q) m)
  left_by x t n m (inr h) k = mathlib.Core.List.Memᴰ.append_left (row_pairs s table (left_of n) 256) (k h)

  in_left : (x : Ruled) (t n : ℕ) → Memᴰ x (row_pairs s table (left_of t) 256) → t < n → Memᴰ x (left_pairs s table n)
  unfolding left_pairs
  in_left x t zero m h = absurd (omega arith)
  in_left x t (suc n) m h = left_by x t n m (eq-or-lt_of_le (le_of_suc-le-suc h)) (in_left x t n m)

  -- a character past 255 has no entry
  left_small : (c r i : ℕ) → Dec (c < 256) → index_of s table (chr c) r ≡ some i → c < 256
  left_small c r i (yes h) e = h
  left_small c r i (no h) e =
      let t : ltb c 256 ≡ false = le-ltb c 256 (omega (arith, h)) in
      let u : ◌≡◌ {A = Option ℕ} none (some i) = rw t at e in
      absurd (let z : ◌≡◌ {A = ℕ} 0 1 = cc in omega arith)

  pub has_pair_lem : (l : Left) (r i : ℕ) → index_of s table l r ≡ some i → Memᴰ (ruled l r i) (pairs_by s table)
  has_pair_lem bnd r i e = in_left (ruled bnd r i) 0 257 (in_row bnd r 256 i e (rule_right s (left_entry_of table bnd) r i e)) (omega arith)
  has_pair_lem (chr c) r i e =
      let h : c < 256 = left_small c r i (dec_lt c 256) e in
      in_left (ruled (chr c) r i) (suc c) 257 (in_row (chr c) r 256 i e (rule_right s (left_entry_of table (chr c)) r i e)) (omega arith)

-- Every pair that has a rule is among the font's pairs.
covers_by : (f : Font) (l : Left) (r : ℕ) (o : Option ℕ) → index_of f.instructions (table_of f) l r ≡ o → (rule_of_index f o ≡ free → ⊥) →
    (i : ℕ) × Memᴰ (record { pair = record { left = l; right = r }; index = i }) (pairs_of f)
covers_by f l r none e h = absurd (h refl)
covers_by f l r (some i) e h = (i, has_pair_lem f.instructions (table_of f) l r i e)

pub covers_font : (f : Font) → Covers (rules_of f) (pairs_of f)
covers_font f = record { covers = λ l r h. covers_by f l r (index_of f.instructions (table_of f) l r) refl h }

-- A pair that has a rule is of a left of -1 to 255 and a right of 0 to 255.
range_by : (f : Font) (l : Left) (r : ℕ) (o : Option ℕ) → index_of f.instructions (table_of f) l r ≡ o → (rule_of_index f o ≡ free → ⊥) →
    (number_of_left l < 257) × (r < 256)
range_by f l r none e h = absurd (h refl)
range_by f bnd r (some i) e h = (omega arith, rule_right f.instructions (left_entry_of (table_of f) bnd) r i e)
range_by f (chr c) r (some i) e h =
    let l = left_small f.instructions (table_of f) c r i (dec_lt c 256) e in
    (omega arith, rule_right f.instructions (left_entry_of (table_of f) (chr c)) r i e)

pub ruled_in_range : (f : Font) (l : Left) (r : ℕ) → (rules_of f l r ≡ free → ⊥) → (number_of_left l < 257) × (r < 256)
ruled_in_range f l r h = range_by f l r (index_of f.instructions (table_of f) l r) refl h
