-- The tests of the code, as the definition has them; and what a kern pair is. Assumes nothing.
use mathlib.Core.Path.{◌≡◌, refl, sym, ap, ◌∙◌}
use mathlib.Core.Bool.{Bool, true, false, not, cond}
use mathlib.Core.List.{List}
use Prim.Native.Nat.{ℕ, suc, ◌+◌, ◌<◌, ◌≤◌}
use native.Mathlib.Numerals.{add-one}
use native.Mathlib.Omega.{arith}
use lib.IntN.{ℤ}
use lib.Dec.{ltb, leb, eqb}
use borrow.Author.Tests.{lt-ltb, le-ltb, ltb-true, leb-true, eq-eqb, ne_eqb, eqb-true}
use Rattle.words.specs.Words.{Word, word_of}
use Rattle.lang.specs.Every.{both}
use Rattle.lang.specs.Records.{within}
use Rattle.lang.proofs.Every.{both_left, both_right}
use Rattle.lang.proofs.Records.{within_bound}
use Rattle.captions.specs.Tables.{pair_count, op_count, number, op_kind, op_value, op_holds, first_op, count_of, last_code, last_flag, record_fits}
use Rattle.step_quick.specs.Quick.{first_plain, is_entered, is_ready}
use Rattle.step_quick_pair.specs.KernPairs.{is_kern_pair, kern_op}

no : {A : Type 0} → ◌≡◌ {A = Bool} false true → A
no e = absurd (let z : ◌≡◌ {A = ℕ} 0 1 = cc in omega arith)

-- ---- tests one after the other

fails : (a b : Bool) (n : ℕ) → a ≡ false → 0 ≡ cond (both a b) n 0
fails true b n e = no (sym e)
fails false b n e = refl

passes : (a b : Bool) (n m : ℕ) → a ≡ true → m ≡ cond b n 0 → m ≡ cond (both a b) n 0
passes true b n m e h = h
passes false b n m e h = no e

module _ (pairs ops : List ℤ) (k : ℕ) where
  abbrev first : ℕ
  first = first_op pairs k

  abbrev kern : Bool
  kern = eqb (word_of (op_kind ops (suc first))) 2

  abbrev unflagged : Bool
  unflagged = both (not (last_flag pairs k)) kern

  abbrev counted : Bool
  counted = both (eqb (count_of pairs k) 2) unflagged

  abbrev read : Bool
  read = both (is_entered pairs ops k) counted

  pub op_outside : pair_count pairs ≤ k → 0 ≡ kern_op pairs ops k
  op_outside h = fails (ltb k (pair_count pairs)) read (suc first) (le-ltb k (pair_count pairs) h)

  module _ (l : k < pair_count pairs) {b : Bool} (is : b ≡ is_ready pairs ops k) where
    inside : ltb k (pair_count pairs) ≡ true
    inside = lt-ltb k (pair_count pairs) l

    entered : b ≡ is_entered pairs ops k
    entered = is ∙ ap (λ (t : Bool). cond t (is_entered pairs ops k) true) inside

    past : {m : ℕ} → m ≡ cond read (suc first) 0 → m ≡ kern_op pairs ops k
    past {m} = passes (ltb k (pair_count pairs)) read (suc first) m inside

    pub op_unread : b ≡ false → 0 ≡ kern_op pairs ops k
    op_unread e = past (fails (is_entered pairs ops k) counted (suc first) (sym entered ∙ e))

    module _ (e : b ≡ true) {c : ℕ} (n : Word (number pairs k 5) c) where
      past-read : {m : ℕ} → m ≡ cond counted (suc first) 0 → m ≡ kern_op pairs ops k
      past-read {m} h = past (passes (is_entered pairs ops k) counted (suc first) m (sym entered ∙ e) h)

      pub op_other_count : (c ≡ 2 → ⊥) → 0 ≡ kern_op pairs ops k
      op_other_count h = past-read (fails (eqb (count_of pairs k) 2) unflagged (suc first) (ne_eqb (count_of pairs k) 2 (λ z. h (n.is ∙ z))))

      module _ (two : c ≡ 2) {f : ℕ} (g : Word (number pairs k 3) f) where
        past-count : {m : ℕ} → m ≡ cond unflagged (suc first) 0 → m ≡ kern_op pairs ops k
        past-count {m} h = past-read (passes (eqb (count_of pairs k) 2) unflagged (suc first) m (eq-eqb (count_of pairs k) 2 (sym n.is ∙ two)) h)

        pub op_flagged : f ≡ 1 → 0 ≡ kern_op pairs ops k
        op_flagged h = past-count (fails (not (last_flag pairs k)) kern (suc first) (ap not (eq-eqb (word_of (number pairs k 3)) 1 (sym g.is ∙ h))))

        module _ (plain : f ≡ 1 → ⊥) {p v : ℕ} (o : Word (number pairs k 4) p) (w : Word (op_kind ops (p + 1)) v) where
          past-flag : {m : ℕ} → m ≡ cond kern (suc first) 0 → m ≡ kern_op pairs ops k
          past-flag {m} h =
              past-count (passes (not (last_flag pairs k)) kern (suc first) m (ap not (ne_eqb (word_of (number pairs k 3)) 1 (λ z. plain (g.is ∙ z)))) h)

          kind : word_of (op_kind ops (suc first)) ≡ v
          kind = ap (λ (j : ℕ). word_of (op_kind ops j)) (ap suc (sym o.is) ∙ sym (add-one p)) ∙ sym w.is

          by_kind : (m : ℕ) (t : Bool) → kern ≡ t → m ≡ cond t (suc first) 0 → m ≡ kern_op pairs ops k
          by_kind m t e h = past-flag (h ∙ ap (λ (s : Bool). cond s (suc first) 0) (sym e))

          pub op_other : (v ≡ 2 → ⊥) → 0 ≡ kern_op pairs ops k
          op_other h = by_kind 0 false (ne_eqb (word_of (op_kind ops (suc first))) 2 (λ z. h (sym kind ∙ z))) refl

          pub op_is : v ≡ 2 → p + 1 ≡ kern_op pairs ops k
          op_is h = by_kind (p + 1) true (eq-eqb (word_of (op_kind ops (suc first))) 2 (kind ∙ h)) (add-one p ∙ ap suc o.is)

  -- ---- what a kern pair is

  pub record Pair : Type 0 where
    pub there : k < pair_count pairs
    pub reads : is_entered pairs ops k ≡ true
    pub two : count_of pairs k ≡ 2
    pub unflagged : last_flag pairs k ≡ false
    pub kern : word_of (op_kind ops (suc (first_op pairs k))) ≡ 2
    pub code : last_code pairs k ≤ 255
    pub right : last_code pairs k ≡ word_of (number pairs k 1)
    pub among : first_op pairs k + 2 ≤ op_count ops
    pub value : word_of (op_value ops (first_op pairs k)) ≤ 255

  not_flag : (b : Bool) → not b ≡ true → b ≡ false
  not_flag true e = no e
  not_flag false e = refl

  equal_right : (b : Bool) (x y : ℕ) → b ≡ false → cond b true (eqb x y) ≡ true → x ≡ y
  equal_right true x y e h = no (sym e)
  equal_right false x y e h = eqb-true x y h

  -- an op that is a character holds its code
  holds_code : (z v : ℤ) (t : Bool) → within 1 z ≡ t → word_of z ≡ 0 → cond t (within 255 v) (eqb (word_of z) 2) ≡ true → word_of v ≤ 255
  holds_code z v true e z0 h = within_bound 255 v h
  holds_code z v false e z0 h = absurd (omega (arith, eqb-true (word_of z) 2 h, z0))

  pub pair_is : is_kern_pair pairs ops k ≡ true → Pair
  pair_is h =
      let a = both_right (ltb k (pair_count pairs)) read h in
      let e = both_left (is_entered pairs ops k) counted a in
      let b = both_right (is_entered pairs ops k) counted a in
      let n = eqb-true (count_of pairs k) 2 (both_left (eqb (count_of pairs k) 2) unflagged b) in
      let c = both_right (eqb (count_of pairs k) 2) unflagged b in
      let f = not_flag (last_flag pairs k) (both_left (not (last_flag pairs k)) kern c) in
      let r = both_left (record_fits pairs ops k) (first_plain ops first (count_of pairs k)) e in
      let p = both_right (record_fits pairs ops k) (first_plain ops first (count_of pairs k)) e in
      let last = within 255 (number pairs k 2) in
      let flag = within 1 (number pairs k 3) in
      let same = cond (last_flag pairs k) true (eqb (last_code pairs k) (word_of (number pairs k 1))) in
      let fit = leb (first + count_of pairs k) (op_count ops) in
      let r2 = both_right last (both flag (both same fit)) r in
      let r3 = both_right flag (both same fit) r2 in
      let w = leb-true (first + count_of pairs k) (op_count ops) (both_right same fit r3) in
      let p2 = both_right (ltb 0 (count_of pairs k)) _ p in
      let zero-kind = eqb-true (word_of (op_kind ops first)) 0 (both_left (eqb (word_of (op_kind ops first)) 0) _ p2) in
      let holds = both_left (op_holds ops first) _ (both_right (eqb (word_of (op_kind ops first)) 0) _ p2) in
      record {
        there = ltb-true k (pair_count pairs) (both_left (ltb k (pair_count pairs)) read h);
        reads = e;
        two = n;
        unflagged = f;
        kern = eqb-true (word_of (op_kind ops (suc first))) 2 (both_right (not (last_flag pairs k)) kern c);
        code = within_bound 255 (number pairs k 2) (both_left last (both flag (both same fit)) r);
        right = equal_right (last_flag pairs k) (last_code pairs k) (word_of (number pairs k 1)) f (both_left same fit r3);
        among = omega (arith, w, n);
        value = holds_code (op_kind ops first) (op_value ops first) (within 1 (op_kind ops first)) refl zero-kind holds;
      }

  -- a place that is not 0 is that of a kern pair
  by_op : (b : Bool) (q : ℕ) → q ≡ cond b (suc first) 0 → (q ≡ 0 → ⊥) → (b ≡ true) × (q ≡ suc first)
  by_op true q e h = (refl, e)
  by_op false q e h = absurd (h e)

  pub op_pair : (q : ℕ) → q ≡ kern_op pairs ops k → (q ≡ 0 → ⊥) → (is_kern_pair pairs ops k ≡ true) × (q ≡ suc (first_op pairs k))
  op_pair q e h = by_op (is_kern_pair pairs ops k) q e h
