-- What is reachable is the same in the repaired program: redirects and their targets are as they were, so that the same entries unpack to the same places; and
-- a skip is taken away only where it passed the end, so that the same instructions are marked. Assumes nothing.
use mathlib.Core.Path.{◌≡◌, refl, sym, ap, ◌∙◌}
use mathlib.Core.Bool.{Bool, true, false, cond}
use mathlib.Core.List.{List, [], ◌∷◌, ◌++◌}
use mathlib.Core.Logic.{◌⊎◌, inl, inr}
use Prim.Native.Nat.{ℕ, zero, suc, ◌+◌, ◌/◌, ◌%◌, ◌<◌, ◌≤◌}
use native.Mathlib.Omega.{arith}
use lib.IntN.{ℤ, pos, negsuc}
use lib.Dec.{leb, ltb, eqb}
use lib.ListN.{length, get_or, set}
use lib.Seq.{set_out}
use lib.Signed.{non_neg}
use borrow.Author.Tests.{le-ltb, leb-true, ne_eqb, eqb-true}
use Rattle.words.specs.Words.{word_of}
use Rattle.words.proofs.Tests.{less_or_not}
use Rattle.lang.specs.Every.{both}
use Rattle.lang.specs.Records.{count, field, next_of, is_kind, absent_or}
use Rattle.lang.specs.Checks.{char_at, program_refusal, unless}
use Rattle.lang.proofs.Every.{both_left, both_right}
use Rattle.lang.proofs.Refusals.{program_record}
use Rattle.program_chain.specs.Chains.{onward_from}
use Rattle.entry_targets.specs.Targets.{target_at, stands_for, entry_refusal}
use Rattle.reach_marks.specs.Marks.{entries_marked, left_marked, marks_after, reachable}
use Rattle.reach_marks.proofs.Marks.{length_marks}
use Rattle.repairs.specs.Damaged.{Damaged, packed_entry_of, unpacks, unpacked_upto, unpacked_entries, left_goes, repaired_left, program_of}
use Rattle.repairs.specs.Repaired.{is_reachable, skip_goes, kern_goes, repaired_instructions}
use Rattle.repairs.specs.Purpose.{again}
use Rattle.repairs.proofs.Steps.{same_count, field_repaired}
use Rattle.repairs.proofs.Kept.{next_fits, cond_false}

-- ---- of plain values

field_past : (s : List ℤ) (i j : ℕ) → count s ≤ i → field s i j ≡ pos 0
field_past s i j h = rw (le-ltb i (count s) h)

cond_same : {A : Type 0} (t u : Bool) (x y z : A) → t ≡ u → (u ≡ true → x ≡ y) → cond t x z ≡ cond u y z
cond_same t true x y z e f = rw e (f refl)
cond_same t false x y z e f = rw e

-- a kern of zero in the place of a kern index changes no other kind, and no operand of a redirect
kind_by : (n k : ℕ) (z : ℤ) (x t : Bool) → (n ≡ 0 → ⊥) → (n ≡ 1 → ⊥) → k ≡ word_of z → both (eqb k 1) x ≡ t → eqb (word_of (cond t (pos 0) z)) n ≡ eqb k n
kind_by n k z x true p q e h =
    let one : k ≡ 1 = eqb-true k 1 (both_left (eqb k 1) x h) in
    ne_eqb 0 n (λ r. p (sym r)) ∙ sym (ap (λ (m : ℕ). eqb m n) one ∙ ne_eqb 1 n (λ r. q (sym r)))
kind_by n k z x false p q e h = ap (λ (m : ℕ). eqb m n) (sym e)

operand_redirect : (k : ℕ) (x : Bool) (a z : ℤ) → k ≡ 3 → cond (eqb k 2) a (cond (both (eqb k 1) x) (pos 0) z) ≡ z
operand_redirect k x a z e = rw e

-- a skip that passes the end marks nothing, and so does none
past_end : (n i : ℕ) (z : ℤ) → absent_or 255 z ≡ true → non_neg z ≡ true → n ≤ i + 1 + word_of z → n ≤ onward_from n (next_of z) i
past_end n i (pos w) f p h = omega (arith, leb-true w 255 f)
past_end n i (negsuc w) f p h = omega arith

onward_by : (n i : ℕ) (z : ℤ) (m : List ℕ) (r t : Bool) → length m ≡ n → absent_or 255 z ≡ true → both r (both (non_neg z) (leb n (i + 1 + word_of z))) ≡ t →
    set m (onward_from n (next_of (cond t (negsuc 0) z)) i) 1 ≡ set m (onward_from n (next_of z) i) 1
onward_by n i z m r true l f e =
    let past = leb n (i + 1 + word_of z) in
    let b = both_right r (both (non_neg z) past) e in
    let p = past_end n i z f (both_left (non_neg z) past b) (leb-true n (i + 1 + word_of z) (both_right (non_neg z) past b)) in
    set_out m n 1 (omega arith) ∙ sym (set_out m (onward_from n (next_of z) i) 1 (omega arith))
onward_by n i z m r false l f e = refl

-- ---- the program as it was lent, s, and repaired, s'

module _ (d : Damaged) where
  abbrev s : List ℤ
  s = d.instructions

  abbrev s' : List ℤ
  s' = repaired_instructions d

  -- past the end both have nothing
  same_past : (i j : ℕ) → count s ≤ i → field s' i j ≡ field s i j
  same_past i j h = field_past s' i j (omega (arith, same_count d)) ∙ sym (field_past s i j h)

  -- a kern index is past the list: the second half of `kernGoes`
  abbrev past_kerns : ℕ → Bool
  past_kerns i = leb (length d.kerns) (word_of (field s i 3))

  -- ---- kinds

  kind_at : (n i : ℕ) → (n ≡ 0 → ⊥) → (n ≡ 1 → ⊥) → (i < count s) ⊎ (count s ≤ i) → is_kind n s' i ≡ is_kind n s i
  kind_at n i p q (inl h) =
      ap (λ (z : ℤ). eqb (word_of z) n) (field_repaired d i 2 h (omega arith))
      ∙ kind_by n (word_of (field s i 2)) (field s i 2) (past_kerns i) (kern_goes (program_of d) i) p q refl refl
  kind_at n i p q (inr h) = ap (λ (z : ℤ). eqb (word_of z) n) (same_past i 2 h)

  pub same_kind : (n i : ℕ) → (n ≡ 0 → ⊥) → (n ≡ 1 → ⊥) → is_kind n s' i ≡ is_kind n s i
  same_kind n i p q = kind_at n i p q (less_or_not i (count s))

  pub same_redirect : (i : ℕ) → is_kind 3 s' i ≡ is_kind 3 s i
  same_redirect i = same_kind 3 i (λ e. omega (arith, e)) (λ e. omega (arith, e))

  -- ---- targets, and what an entry stands for

  operand_at : (i : ℕ) → is_kind 3 s i ≡ true → (i < count s) ⊎ (count s ≤ i) → field s' i 3 ≡ field s i 3
  operand_at i e (inl h) =
      field_repaired d i 3 h (omega arith)
      ∙ operand_redirect (word_of (field s i 2)) (past_kerns i) _ (field s i 3) (eqb-true (word_of (field s i 2)) 3 e)
  operand_at i e (inr h) = same_past i 3 h

  same_target : (i : ℕ) → is_kind 3 s i ≡ true → target_at s' i ≡ target_at s i
  same_target i e = ap (λ (z : ℤ). word_of z % 65536) (operand_at i e (less_or_not i (count s)))

  same_stands : (e : ℕ) → stands_for s' e ≡ stands_for s e
  same_stands e = cond_same (is_kind 3 s' e) (is_kind 3 s e) (target_at s' e) (target_at s e) e (same_redirect e) (same_target e)

  same_refusal : (e : ℕ) → entry_refusal s' e ≡ entry_refusal s e
  same_refusal e =
      ap (λ (n : ℕ). cond (ltb e n) (cond (is_kind 3 s' e) (unless 9 (ltb (target_at s' e) n)) 0) 8) (same_count d)
      ∙ ap (λ (n : ℕ). cond (ltb e (count s)) n 8)
      (cond_same (is_kind 3 s' e) (is_kind 3 s e) (unless 9 (ltb (target_at s' e) (count s))) (unless 9 (ltb (target_at s e) (count s))) 0 (same_redirect e)
      (λ h. ap (λ (t : ℕ). unless 9 (ltb t (count s))) (same_target e h)))

  pub same_unpacked : (k : ℕ) → unpacked_upto (again d) k ≡ unpacked_upto d k
  unfolding unpacked_upto
  same_unpacked zero = refl
  same_unpacked (suc k) =
      let e = packed_entry_of d k in
      let c = char_at d.entries k in
      ap (λ (l : List ℤ). l ++ cond (unpacks (again d) k) (c ∷ pos (stands_for s' e) ∷ []) []) (same_unpacked k)
      ∙ ap (λ (r : ℕ). unpacked_upto d k ++ cond (eqb r 0) (c ∷ pos (stands_for s' e) ∷ []) []) (same_refusal e)
      ∙ ap (λ (p : ℕ). unpacked_upto d k ++ cond (unpacks d k) (c ∷ pos p ∷ []) []) (same_stands e)

  -- ---- the left entry

  pub left_sound : left_goes (again d) ≡ false
  left_sound =
      ap (λ (n : ℕ). both (non_neg (repaired_left d)) (leb n (word_of (repaired_left d)))) (same_count d) ∙ by (left_goes d) refl
    where
      by : (t : Bool) → left_goes d ≡ t → both (non_neg (cond t (negsuc 0) d.left)) (leb (count s) (word_of (cond t (negsuc 0) d.left))) ≡ false
      by true e = refl
      by false e = e

  -- ---- marks

  module _ (taken : program_refusal s ≡ 0) where
    same-onward : (i : ℕ) (m : List ℕ) → i < count s → length m ≡ count s →
        set m (onward_from (count s') (next_of (field s' i 0)) i) 1 ≡ set m (onward_from (count s) (next_of (field s i 0)) i) 1
    same-onward i m h l =
        ap (λ (n : ℕ). set m (onward_from n (next_of (field s' i 0)) i) 1) (same_count d)
        ∙ ap (λ (z : ℤ). set m (onward_from (count s) (next_of z) i) 1) (field_repaired d i 0 h (omega arith))
        ∙ onward_by (count s) i (field s i 0) m (is_reachable (program_of d) i) (skip_goes (program_of d) i) l (next_fits s i (program_record s taken i h)) refl

    same_marks : (es : List ℤ) (left : ℤ) (k : ℕ) → k ≤ count s → marks_after s' es left k ≡ marks_after s es left k
    unfolding marks_after
    same_marks es left zero h = ap (λ (n : ℕ). left_marked n left (entries_marked n es (length es / 2))) (same_count d)
    same_marks es left (suc k) h =
        let m = marks_after s es left k in
        ap (λ (x : List ℕ). cond (eqb (get_or x k 0) 0) x (set x (onward_from (count s') (next_of (field s' k 0)) k) 1)) (same_marks es left k (omega arith))
        ∙ ap (λ (x : List ℕ). cond (eqb (get_or m k 0) 0) m x) (same-onward k m (omega arith) (length_marks s es left k))

    same-reach : (es : List ℤ) (left : ℤ) → reachable s' es left ≡ reachable s es left
    same-reach es left = ap (λ (k : ℕ). marks_after s' es left k) (same_count d) ∙ same_marks es left (count s) (omega arith)

    pub same_reachable : (i : ℕ) → is_reachable (program_of (again d)) i ≡ is_reachable (program_of d) i
    same_reachable i =
        ap (λ (m : List ℕ). cond (eqb (get_or m i 0) 0) false true)
        (ap (λ (es : List ℤ). reachable s' es (repaired_left (again d))) (same_unpacked (length d.entries / 2))
        ∙ ap (λ (l : ℤ). reachable s' (unpacked_entries d) l) (cond_false (left_goes (again d)) (negsuc 0) (repaired_left d) left_sound)
        ∙ same-reach (unpacked_entries d) (repaired_left d))
