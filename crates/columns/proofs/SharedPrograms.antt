-- A program whose kern values are shared (program_kerns/specs/SharedKerns): its numbers, its chains and rules, and what each rule does, which is what it did.
-- Assumes nothing.
use mathlib.Core.Path.{◌≡◌, refl, sym, ap, ◌∙◌, subst}
use mathlib.Core.Bool.{Bool, true, false, cond, not}
use mathlib.Core.List.Memᴰ
use mathlib.Core.List.{List, [], ◌∷◌, ◌++◌, Memᴰ}
use mathlib.Core.Logic.{◌⊎◌, inl, inr}
use mathlib.Core.Option.{Option, none, some}
use Prim.Native.Nat.{ℕ, zero, suc, ◌+◌, ◌-◌, ◌*◌, ◌/◌, ◌%◌, ◌<◌, ◌≤◌}
use native.Mathlib.Nat.{eq-or-lt_of_le, le_of_suc-le-suc}
use native.Mathlib.Omega.{arith}
use lib.IntN.{ℤ, pos, negsuc}
use lib.Dec.{leb, ltb, eqb}
use lib.ListN.{length, get_or, get_or-eq_default}
use borrow.Author.Tests.{eqb-true, eqb-false, eq-eqb, ne_eqb, lt-ltb, le-ltb, ltb-true, leb-true, leb-false, le-leb}
use Rattle.std.specs.declared.option.Option as rust
use Rattle.words.specs.Words.{word_of, number_of}
use Rattle.words.proofs.Bits.{number_word}
use Rattle.words.proofs.Lists.{get_d_tabulate}
use Rattle.words.proofs.Tests.{less_or_not}
use Rattle.lang.specs.declared.operation.Operation.{Operation}
use Rattle.lang.specs.declared.operation.Operation.TheVariants.{Kern, KernAtIndex}
use Rattle.lang.specs.Every.{both, every}
use Rattle.lang.specs.declared.operation.PostLigOperation.TheVariants.{RetainNeitherMoveToInserted}
use Rattle.lang.specs.Operations.{advance, keeps_left, keeps_right, retains, is_standard, lig, ligature, from_bytes}
use Rattle.lang.specs.Records.{count, field, next_of, operation_of, right_of, instruction_at, within, absent_or, operand_fits, is_instruction, is_kind}
use Rattle.lang.specs.Checks.{program_refusal}
use Rattle.lang.proofs.Every.{both_left, both_right, every_ext}
use Rattle.lang.proofs.Records.{within_bound, within_read}
use Rattle.lang.proofs.Refusals.{program_record}
use Rattle.program_chain.specs.Chains.{Program, onward_from, chain_from, chain, is_redirect_op, is_rule_for, first_for, acts_as}
use Rattle.program_chain.proofs.Rules.{redirect_kind}
use Rattle.program_chain.proofs.Theorems.{no_redirect}
use Rattle.program_kerns.specs.Kerns.{kern_place, shared}
use Rattle.program_kerns.specs.SharedKerns.{is_past_index, holds_value, held_value, shared_kerns, all_kerns, shared_number, share_kerns}
use Rattle.program_kerns.proofs.Places.{place_le, place_grows, place_new, snoc_at, snoc_length}
use Rattle.program_kerns.proofs.SharedKerns.{kerns_few, kerns_least, shared_length}
use Rattle.reading.specs.Items.{Left}
use Rattle.reading.specs.Loops.{Ruled}
use Rattle.fonts.specs.Fonts.{left_of, left_entry_of, rule_from, index_of, ruled_by, row_pairs, left_pairs, pairs_by}
use Rattle.columns.specs.Purpose.{is_i32, all_i32}
use Rattle.columns.proofs.Fitting.{all_fit, all_both}
use Rattle.columns.proofs.KernFits.{i32_fits}

-- ---- the place of a value

place_there : (v : ℤ) (ks : List ℤ) → kern_place v ks < length ks → word_of (get_or ks (kern_place v ks) (pos 0)) ≡ word_of v
unfolding kern_place
place_there v [] h = absurd (omega arith)
place_there v (k ∷ ks) h = by (eqb (word_of k) (word_of v)) refl (place_there v ks) h
  where
    by : (t : Bool) → eqb (word_of k) (word_of v) ≡ t → (kern_place v ks < length ks → word_of (get_or ks (kern_place v ks) (pos 0)) ≡ word_of v) →
        cond t 0 (suc (kern_place v ks)) < suc (length ks) → word_of (get_or (k ∷ ks) (cond t 0 (suc (kern_place v ks))) (pos 0)) ≡ word_of v
    by true e r l = eqb-true (word_of k) (word_of v) e
    by false e r l = r (omega arith)

-- i32 with the same bits
word_same : (y z : ℤ) → is_i32 y ≡ true → is_i32 z ≡ true → word_of y ≡ word_of z → y ≡ z
word_same y z a b e = sym (number_word y (i32_fits y a)) ∙ ap number_of e ∙ number_word z (i32_fits z b)

-- ---- tests

if_true : (a b : Bool) → cond a b false ≡ true → (a ≡ true) × (b ≡ true)
if_true true b e = (refl, e)
if_true false b e = absurd (let z : ◌≡◌ {A = ℕ} 0 1 = cc in omega arith)

or_true : (a b : Bool) → cond a true b ≡ true → (a ≡ true) ⊎ ((a ≡ false) × (b ≡ true))
or_true true b e = inl refl
or_true false b e = inr (refl, e)

or_false : (a b : Bool) → cond a true b ≡ false → (a ≡ false) × (b ≡ false)
or_false true b e = absurd (let z : ◌≡◌ {A = ℕ} 0 1 = cc in omega arith)
or_false false b e = (refl, e)

both_not : (a b c : Bool) → a ≡ true → c ≡ true → both a (both b c) ≡ false → b ≡ false
both_not a true c p q e = absurd (let z : ◌≡◌ {A = Bool} true false = sym (rw (p, q)) ∙ e in let w : ◌≡◌ {A = ℕ} 0 1 = cc in omega arith)
both_not a false c p q e = refl

pub either_way : (b : Bool) (x : ℤ) → cond b x x ≡ x
either_way true x = refl
either_way false x = refl

-- ---- the kerns

-- by one value more, or none
more_kept : (Y : List ℤ) (v : ℤ) (j : ℕ) (t u : Bool) → j < length Y → get_or (cond t (cond u (Y ++ (v ∷ [])) Y) Y) j (pos 0) ≡ get_or Y j (pos 0)
more_kept Y v j true true l = snoc_at Y v j l
more_kept Y v j true false l = refl
more_kept Y v j false u l = refl

more_met : (Y : List ℤ) (v w : ℤ) (t u : Bool) → kern_place v Y < length Y →
    kern_place v (cond t (cond u (Y ++ (w ∷ [])) Y) Y) < length (cond t (cond u (Y ++ (w ∷ [])) Y) Y)
more_met Y v w true true l = rw (place_grows v Y (w ∷ []) l, snoc_length Y w) (omega (arith, l))
more_met Y v w true false l = l
more_met Y v w false u l = l

more_new : (Y : List ℤ) (v : ℤ) (u : Bool) → eqb (kern_place v Y) (length Y) ≡ u → kern_place v (cond u (Y ++ (v ∷ [])) Y) < length (cond u (Y ++ (v ∷ [])) Y)
more_new Y v true e = rw (place_new v Y (eqb-true (kern_place v Y) (length Y) e), snoc_length Y v) (omega arith)
more_new Y v false e = let n : kern_place v Y ≡ length Y → ⊥ = eqb-false (kern_place v Y) (length Y) e in omega (arith, place_le v Y, n)

more_fits : (Y : List ℤ) (v : ℤ) (t u : Bool) → all_i32 Y ≡ true → is_i32 v ≡ true → all_i32 (cond t (cond u (Y ++ (v ∷ [])) Y) Y) ≡ true
unfolding all_i32
more_fits Y v true true a b = all_both Y (v ∷ []) a (rw b)
more_fits Y v true false a b = a
more_fits Y v false u a b = a

module _ (s ks : List ℤ) where
  -- an added kern stands after those that were there
  pub kerns_kept : (n j : ℕ) → j < length ks → get_or (shared_kerns s ks n) j (pos 0) ≡ get_or ks j (pos 0)
  unfolding shared_kerns
  kerns_kept zero j h = refl
  kerns_kept (suc n) j h =
      let Y = shared_kerns s ks n in
      more_kept Y (held_value s n) j (holds_value s (length ks) n) (eqb (kern_place (held_value s n) Y) (length Y)) (omega (arith, h, kerns_least s ks n))
      ∙ kerns_kept n j h

  -- a value of the first n instructions has a place
  abbrev Placed : ℕ → ℕ → Type 0
  Placed n i = kern_place (held_value s i) (shared_kerns s ks n) < length (shared_kerns s ks n)

  placed_by : (n i : ℕ) → holds_value s (length ks) i ≡ true → (i ≡ n) ⊎ (i < n) → (i < n → Placed n i) → Placed (suc n) i
  unfolding shared_kerns
  placed_by n i h (inl e) k =
      let Y = shared_kerns s ks n in
      let v = held_value s i in
      subst (λ (j : ℕ). let Z = cond (holds_value s (length ks) j) (shared Y (held_value s j)) Y in kern_place v Z < length Z) e
      (subst (λ (b : Bool). kern_place v (cond b (shared Y v) Y) < length (cond b (shared Y v) Y)) (sym h) (more_new Y v (eqb (kern_place v Y) (length Y)) refl))
  placed_by n i h (inr l) k =
      let Y = shared_kerns s ks n in
      more_met Y (held_value s i) (held_value s n) (holds_value s (length ks) n) (eqb (kern_place (held_value s n) Y) (length Y)) (k l)

  placed : (n i : ℕ) → i < n → holds_value s (length ks) i ≡ true → Placed n i
  placed zero i l h = absurd (omega arith)
  placed (suc n) i l h = placed_by n i h (eq-or-lt_of_le (le_of_suc-le-suc l)) (λ m. placed n i m h)

  held_fits : all_i32 s ≡ true → (i : ℕ) → is_i32 (held_value s i) ≡ true
  held_fits f i = by (is_kind 0 s i) (ltb i (count s))
    where
      by : (t u : Bool) → is_i32 (cond t (cond u (get_or s (4 * i + 3) (pos 0)) (pos 0)) (pos 0)) ≡ true
      by true true = all_fit s f (4 * i + 3)
      by true false = refl
      by false u = refl

  pub kerns_fit_all : all_i32 s ≡ true → all_i32 ks ≡ true → (n : ℕ) → all_i32 (shared_kerns s ks n) ≡ true
  unfolding shared_kerns
  kerns_fit_all f g zero = g
  kerns_fit_all f g (suc n) =
      let Y = shared_kerns s ks n in
      more_fits Y (held_value s n) (holds_value s (length ks) n) (eqb (kern_place (held_value s n) Y) (length Y)) (kerns_fit_all f g n) (held_fits f n)

-- ---- the numbers of the instructions

-- a number inside the program, and 0 past it
spread : (b c p q : Bool) (u v x : ℤ) → b ≡ true →
    cond b (cond c (cond p u (cond q v x)) x) (pos 0) ≡ cond c (cond p u (cond q v (cond b x (pos 0)))) (cond b x (pos 0))
spread true c p q u v x e = refl
spread false c p q u v x e = absurd (let z : ◌≡◌ {A = ℕ} 0 1 = cc in omega arith)

module _ (s ks : List ℤ) where
  abbrev T : List ℤ
  T = share_kerns s ks

  abbrev A : List ℤ
  A = all_kerns s ks

  abbrev holds : ℕ → Bool
  holds i = holds_value s (length ks) i

  abbrev place : ℕ → ℕ
  place i = kern_place (held_value s i) (all_kerns s ks)

  pub count_same : count (share_kerns s ks) ≡ count s
  count_same = ap (λ (n : ℕ). n / 4) (shared_length s ks)

  number_at : (i k : ℕ) → i < count s → k < 4 →
      get_or T (4 * i + k) (pos 0) ≡
      cond (holds i) (cond (eqb k 2) (pos 1) (cond (eqb k 3) (pos (place i)) (get_or s (4 * i + k) (pos 0)))) (get_or s (4 * i + k) (pos 0))
  number_at i k h l =
      let d : (4 * i + k) / 4 ≡ i = omega arith in
      let m : (4 * i + k) % 4 ≡ k = omega arith in
      let x = get_or s (4 * i + k) (pos 0) in
      get_d_tabulate (length s) (shared_number s A (length ks)) (4 * i + k) (pos 0) (omega (arith, h, l))
      ∙ (λ y. cond (holds_value s (length ks) (d y))
      (cond (eqb (m y) 2) (pos 1) (cond (eqb (m y) 3) (pos (kern_place (held_value s (d y)) A)) x)) x)

  holds_none : (i : ℕ) → count s ≤ i → holds i ≡ false
  holds_none i h = ap (λ (b : Bool). cond b (cond (is_kind 0 s i) true (is_past_index s (length ks) i)) false) (le-ltb i (count s) h)

  field_by : (i k : ℕ) → k < 4 → (i < count s) ⊎ (count s ≤ i) →
      field T i k ≡ cond (holds i) (cond (eqb k 2) (pos 1) (cond (eqb k 3) (pos (place i)) (field s i k))) (field s i k)
  field_by i k l (inl h) =
      (λ x. cond (ltb i (count_same x)) (number_at i k h l x) (pos 0))
      ∙ spread (ltb i (count s)) (holds i) (eqb k 2) (eqb k 3) (pos 1) (pos (place i)) (get_or s (4 * i + k) (pos 0)) (lt-ltb i (count s) h)
  field_by i k l (inr h) =
      ap (λ (b : Bool). cond b (get_or T (4 * i + k) (pos 0)) (pos 0)) (le-ltb i (count T) (omega (arith, h, count_same)))
      ∙ sym (ap (λ (b : Bool). cond b (cond (eqb k 2) (pos 1) (cond (eqb k 3) (pos (place i)) (field s i k))) (field s i k)) (holds_none i h)
      ∙ ap (λ (b : Bool). cond b (get_or s (4 * i + k) (pos 0)) (pos 0)) (le-ltb i (count s) h))

  field_shared : (i k : ℕ) → k < 4 → field T i k ≡ cond (holds i) (cond (eqb k 2) (pos 1) (cond (eqb k 3) (pos (place i)) (field s i k))) (field s i k)
  field_shared i k l = field_by i k l (less_or_not i (count s))

  next_kept : (i : ℕ) → field T i 0 ≡ field s i 0
  next_kept i = field_shared i 0 (omega arith) ∙ either_way (holds i) (field s i 0)

  right_kept : (i : ℕ) → field T i 1 ≡ field s i 1
  right_kept i = field_shared i 1 (omega arith) ∙ either_way (holds i) (field s i 1)

  -- an instruction that holds a value
  held_kind : (i : ℕ) → holds i ≡ true → field T i 2 ≡ pos 1
  held_kind i h = field_shared i 2 (omega arith) ∙ ap (λ (b : Bool). cond b (pos 1) (field s i 2)) h

  pub held_operand : (i : ℕ) → holds i ≡ true → field T i 3 ≡ pos (place i)
  held_operand i h = field_shared i 3 (omega arith) ∙ ap (λ (b : Bool). cond b (pos (place i)) (field s i 3)) h

  -- any other
  pub kind_kept : (i : ℕ) → holds i ≡ false → field T i 2 ≡ field s i 2
  kind_kept i h = field_shared i 2 (omega arith) ∙ ap (λ (b : Bool). cond b (pos 1) (field s i 2)) h

  pub operand_kept : (i : ℕ) → holds i ≡ false → field T i 3 ≡ field s i 3
  operand_kept i h = field_shared i 3 (omega arith) ∙ ap (λ (b : Bool). cond b (pos (place i)) (field s i 3)) h

  -- ---- what is held

  pub data Holds (i : ℕ) : Type 0 where
    a-value : word_of (field s i 2) ≡ 0 → held_value s i ≡ field s i 3 → Holds i
    an-index : word_of (field s i 2) ≡ 1 → length ks ≤ word_of (field s i 3) → word_of (field s i 3) ≤ 65535 → held_value s i ≡ pos 0 → Holds i

  held_by : (i : ℕ) → (is_kind 0 s i ≡ true) ⊎ ((is_kind 0 s i ≡ false) × (is_past_index s (length ks) i ≡ true)) → Holds i
  held_by i (inl e) = a-value (eqb-true (word_of (field s i 2)) 0 e) (ap (λ (b : Bool). cond b (field s i 3) (pos 0)) e)
  held_by i (inr h) =
      let w = word_of (field s i 3) in
      let r = both_right (is_kind 1 s i) (both (leb (length ks) w) (leb w 65535)) h.1 in
      an-index (eqb-true (word_of (field s i 2)) 1 (both_left (is_kind 1 s i) (both (leb (length ks) w) (leb w 65535)) h.1))
      (leb-true (length ks) w (both_left (leb (length ks) w) (leb w 65535) r)) (leb-true w 65535 (both_right (leb (length ks) w) (leb w 65535) r))
      (ap (λ (b : Bool). cond b (field s i 3) (pos 0)) h.0)

  held_is : (i : ℕ) → holds i ≡ true → Holds i
  held_is i h = held_by i (or_true (is_kind 0 s i) (is_past_index s (length ks) i) (if_true (ltb i (count s)) _ h).1)

  held_inside : (i : ℕ) → holds i ≡ true → i < count s
  held_inside i h = ltb-true i (count s) (if_true (ltb i (count s)) (cond (is_kind 0 s i) true (is_past_index s (length ks) i)) h).0

  -- one that holds none is neither a value nor an index past the kerns
  pub none_held : (i : ℕ) → i < count s → holds i ≡ false → (is_kind 0 s i ≡ false) × (is_past_index s (length ks) i ≡ false)
  none_held i l h =
      let rest = cond (is_kind 0 s i) true (is_past_index s (length ks) i) in
      or_false (is_kind 0 s i) (is_past_index s (length ks) i) (ap (λ (b : Bool). cond b rest false) (sym (lt-ltb i (count s) l)) ∙ h)

  index_inside : (i : ℕ) → i < count s → holds i ≡ false → word_of (field s i 2) ≡ 1 → word_of (field s i 3) ≤ 65535 → word_of (field s i 3) < length ks
  index_inside i l h e m =
      let w = word_of (field s i 3) in
      leb-false (length ks) w
      (both_not (is_kind 1 s i) (leb (length ks) w) (leb w 65535) (eq-eqb (word_of (field s i 2)) 1 e) (le-leb w 65535 m) (none_held i l h).1)

  pub held_placed : (i : ℕ) → holds i ≡ true → place i < length A
  held_placed i h = placed s ks (count s) i (held_inside i h) h

  -- ---- redirects, rights and nexts

  kind_three : (i : ℕ) → is_kind 3 T i ≡ is_kind 3 s i
  kind_three i = by (holds i) refl
    where
      held : Holds i → eqb (word_of (pos 1)) 3 ≡ is_kind 3 s i
      held (a-value e v) = sym (ap (λ (n : ℕ). eqb n 3) e)
      held (an-index e l m v) = sym (ap (λ (n : ℕ). eqb n 3) e)

      by : (t : Bool) → holds i ≡ t → is_kind 3 T i ≡ is_kind 3 s i
      by true h = ap (λ (z : ℤ). eqb (word_of z) 3) (held_kind i h) ∙ held (held_is i h)
      by false h = ap (λ (z : ℤ). eqb (word_of z) 3) (kind_kept i h)

  redirect_same : (i : ℕ) → is_redirect_op (instruction_at T i).operation ≡ is_redirect_op (instruction_at s i).operation
  redirect_same i = redirect_kind T i ∙ kind_three i ∙ sym (redirect_kind s i)

  right_same : (i : ℕ) → right_of T i ≡ right_of s i
  right_same i = ap (λ (z : ℤ). word_of z % 256) (right_kept i)

  next_same : (i : ℕ) → (instruction_at T i).next_instruction ≡ (instruction_at s i).next_instruction
  next_same i = ap next_of (next_kept i)

-- ---- chains and rules

-- programs whose instructions go on alike have the same chains
same_chain : (n : ℕ) (p q : Program) → ((j : ℕ) → (p j).next_instruction ≡ (q j).next_instruction) → (most j : ℕ) →
    chain_from most n p j ≡ chain_from most n q j
unfolding chain_from
same_chain n p q h zero j = refl
same_chain n p q h (suc most) j =
    ap (λ (is : List ℕ). cond (ltb j n) (j ∷ is) [])
    (same_chain n p q h most (onward_from n (p j).next_instruction j)
    ∙ ap (λ (x : rust.Option ℕ). chain_from most n q (onward_from n x j)) (h j))

-- .. and, where they are rules alike, the same rule on each
same_first : (p q : Program) (r : ℕ) → ((j : ℕ) → is_rule_for r (p j) ≡ is_rule_for r (q j)) → (is : List ℕ) → first_for p r is ≡ first_for q r is
unfolding first_for
same_first p q r h [] = refl
same_first p q r h (j ∷ is) = λ x. cond (h j x) (some j) (same_first p q r h is x)

module _ (s ks : List ℤ) where
  rule_alike : (r j : ℕ) → is_rule_for r (instruction_at (share_kerns s ks) j) ≡ is_rule_for r (instruction_at s j)
  rule_alike r j = λ x. both (not (redirect_same s ks j x)) (eqb (right_same s ks j x) r)

  from_same : (e : ℤ) (r : ℕ) → rule_from (share_kerns s ks) e r ≡ rule_from s e r
  from_same (negsuc n) r = refl
  from_same (pos e) r =
      let p = instruction_at (share_kerns s ks) in
      (λ x. first_for p r (chain (count_same s ks x) p e))
      ∙ ap (first_for p r) (same_chain (count s) p (instruction_at s) (next_same s ks) (count s) e)
      ∙ same_first p (instruction_at s) r (rule_alike r) (chain (count s) (instruction_at s) e)

  pub index_same : (table : List ℤ) (l : Left) (r : ℕ) → index_of (share_kerns s ks) table l r ≡ index_of s table l r
  index_same table l r = from_same (left_entry_of table l) r

  row_same : (table : List ℤ) (l : Left) (n : ℕ) → row_pairs (share_kerns s ks) table l n ≡ row_pairs s table l n
  unfolding row_pairs
  row_same table l zero = refl
  row_same table l (suc r) = λ x. row_same table l r x ++ ruled_by l r (index_same table l r x)

  left_same : (table : List ℤ) (t : ℕ) → left_pairs (share_kerns s ks) table t ≡ left_pairs s table t
  unfolding left_pairs
  left_same table zero = refl
  left_same table (suc t) = λ x. left_same table t x ++ row_same table (left_of t) 256 x

  pub pairs_same : (table : List ℤ) → pairs_by (share_kerns s ks) table ≡ pairs_by s table
  pairs_same table = left_same table 257

-- ---- no rule is a redirect

abbrev pub Plain : List ℤ → ℕ → Type 0
Plain s i = is_redirect_op (instruction_at s i).operation ≡ false

module _ (s table : List ℤ) where
  from_plain : (e : ℤ) (r i : ℕ) → rule_from s e r ≡ some i → Plain s i
  from_plain (negsuc n) r i h = absurd (let z : ◌≡◌ {A = ℕ} 0 1 = cc in omega arith)
  from_plain (pos e) r i h = (no_redirect (count s) (instruction_at s) e r i h).0

  pub rule_plain : (l : Left) (r i : ℕ) → index_of s table l r ≡ some i → Plain s i
  rule_plain l r i h = from_plain (left_entry_of table l) r i h

  ruled_plain : (x : Ruled) (l : Left) (r : ℕ) (o : Option ℕ) → index_of s table l r ≡ o → Memᴰ x (ruled_by l r o) → Plain s x.index
  ruled_plain x l r none e m = absurd (Memᴰ.not-nil m)
  ruled_plain x l r (some i) e m = subst (Plain s) (sym (ap (λ (y : Ruled). y.index) (Memᴰ.eq_of_singleton m))) (rule_plain l r i e)

  row_plain_by : (x : Ruled) (l : Left) (n : ℕ) → (Memᴰ x (row_pairs s table l n) → Plain s x.index) →
      Memᴰ x (row_pairs s table l n) ⊎ Memᴰ x (ruled_by l n (index_of s table l n)) → Plain s x.index
  row_plain_by x l n k (inl m) = k m
  row_plain_by x l n k (inr m) = ruled_plain x l n (index_of s table l n) refl m

  row_plain : (x : Ruled) (l : Left) (n : ℕ) → Memᴰ x (row_pairs s table l n) → Plain s x.index
  unfolding row_pairs
  row_plain x l zero m = absurd (Memᴰ.not-nil m)
  row_plain x l (suc n) m = row_plain_by x l n (row_plain x l n) (Memᴰ.append_cases (row_pairs s table l n) m)

  left_plain_by : (x : Ruled) (t : ℕ) → (Memᴰ x (left_pairs s table t) → Plain s x.index) →
      Memᴰ x (left_pairs s table t) ⊎ Memᴰ x (row_pairs s table (left_of t) 256) → Plain s x.index
  left_plain_by x t k (inl m) = k m
  left_plain_by x t k (inr m) = row_plain x (left_of t) 256 m

  left_plain : (x : Ruled) (t : ℕ) → Memᴰ x (left_pairs s table t) → Plain s x.index
  unfolding left_pairs
  left_plain x zero m = absurd (Memᴰ.not-nil m)
  left_plain x (suc t) m = left_plain_by x t (left_plain x t) (Memᴰ.append_cases (left_pairs s table t) m)

  pub pair_plain : (x : Ruled) → Memᴰ x (pairs_by s table) → Plain s x.index
  pair_plain x m = left_plain x 257 m

-- ---- what an instruction does

-- a kern by its value
abbrev kern_by : ℤ → Operation
kern_by z = Kern (record { 0 = z })

-- a ligature does the same over any two lists
ligature_acts : (op c : ℕ) (A B : List ℤ) → acts_as A (ligature op c) ≡ acts_as B (ligature op c)
unfolding ligature
ligature_acts op c A B = by (is_standard op)
  where
    either : Bool → Operation
    either t = cond t (lig (retains (keeps_left op) (keeps_right op) (advance op)) c false) (lig RetainNeitherMoveToInserted c true)

    by : (t : Bool) → acts_as A (either t) ≡ acts_as B (either t)
    by true = refl
    by false = refl

-- one that is no redirect does the same over two lists that have the same kern at its index
acts_plain : (kind : ℕ) (z : ℤ) (A B : List ℤ) → (kind ≡ 1 → get_or A (word_of z % 65536) (pos 0) ≡ get_or B (word_of z % 65536) (pos 0)) → (kind ≡ 3 → ⊥) →
    acts_as A (operation_of kind z) ≡ acts_as B (operation_of kind z)
unfolding from_bytes
acts_plain zero z A B h n = refl
acts_plain (suc zero) z A B h n = ap kern_by (h refl)
acts_plain (suc (suc zero)) z A B h n =
    let q = word_of z / 256 % 128 in
    let r = word_of z % 256 in
    let l : q < 128 = omega arith in
    let i = KernAtIndex (256 * (q - 128) + r) in
    subst (λ (b : Bool). acts_as A (cond b (ligature q r) i) ≡ acts_as B (cond b (ligature q r) i))
    (sym (lt-ltb q 128 l)) (ligature_acts q r A B)
acts_plain (suc (suc (suc zero))) z A B h n = absurd (n refl)
acts_plain (suc (suc (suc (suc k)))) z A B h n =
    rw (
      ne_eqb (suc (suc (suc (suc k)))) 1 (λ e. omega arith),
      ne_eqb (suc (suc (suc (suc k)))) 2 (λ e. omega arith),
      ne_eqb (suc (suc (suc (suc k)))) 3 (λ e. omega arith),
    )

module _ (s ks : List ℤ) (fs : all_i32 s ≡ true) (fk : all_i32 ks ≡ true) (few : length ks + count s ≤ 65536) where
  few_kerns : length (all_kerns s ks) ≤ 65536
  few_kerns = omega (arith, few, kerns_few s ks (count s))

  -- the kern at a value's place is that value
  kern_there : (i : ℕ) → holds_value s (length ks) i ≡ true → get_or (all_kerns s ks) (kern_place (held_value s i) (all_kerns s ks) % 65536) (pos 0) ≡ held_value s i
  kern_there i h =
      let p = kern_place (held_value s i) (all_kerns s ks) in
      let l : p < length (all_kerns s ks) = held_placed s ks i h in
      let e : p % 65536 ≡ p = omega (arith, l, few_kerns) in
      ap (λ (j : ℕ). get_or (all_kerns s ks) j (pos 0)) e
      ∙ word_same (get_or (all_kerns s ks) p (pos 0)) (held_value s i) (all_fit (all_kerns s ks) (kerns_fit_all s ks fs fk (count s)) p) (held_fits s ks fs i)
      (place_there (held_value s i) (all_kerns s ks) l)

  -- a value does the same
  value_acts : (i : ℕ) → Holds s ks i → acts_as ks (instruction_at s i).operation ≡ kern_by (held_value s i)
  value_acts i (a-value e v) = ap (λ (n : ℕ). acts_as ks (operation_of n (field s i 3))) e ∙ ap kern_by (sym v)
  value_acts i (an-index e l m v) =
      let w = word_of (field s i 3) in
      let r : w % 65536 ≡ w = omega (arith, m) in
      ap (λ (n : ℕ). acts_as ks (operation_of n (field s i 3))) e
      ∙ ap (λ (j : ℕ). kern_by (get_or ks j (pos 0))) r ∙ ap kern_by (get_or-eq_default ks (pos 0) l ∙ sym v)

  held_acts : (i : ℕ) → holds_value s (length ks) i ≡ true →
      acts_as (all_kerns s ks) (instruction_at (share_kerns s ks) i).operation ≡ acts_as ks (instruction_at s i).operation
  held_acts i h =
      (λ x. acts_as (all_kerns s ks) (operation_of (word_of (held_kind s ks i h x)) (held_operand s ks i h x)))
      ∙ ap kern_by (kern_there i h) ∙ sym (value_acts i (held_is s ks i h))

  -- a record is an instruction as it was
  value_fits : (i : ℕ) → Holds s ks i → operand_fits (word_of (field s i 2)) (field s i 3) ≡ true
  value_fits i (a-value e v) = ap (λ (n : ℕ). operand_fits n (field s i 3)) e
  value_fits i (an-index e l m v) =
      ap (λ (n : ℕ). operand_fits n (field s i 3)) e
      ∙ within_read 65535 (record { is = refl; fits = i32_fits (field s i 3) (by (ltb i (count s))) }) (omega arith) ∙ le-leb (word_of (field s i 3)) 65535 m
    where
      by : (t : Bool) → is_i32 (cond t (get_or s (4 * i + 3) (pos 0)) (pos 0)) ≡ true
      by true = all_fit s fs (4 * i + 3)
      by false = refl

  fits_by : (i : ℕ) (t : Bool) → holds_value s (length ks) i ≡ t →
      operand_fits (word_of (field (share_kerns s ks) i 2)) (field (share_kerns s ks) i 3) ≡ operand_fits (word_of (field s i 2)) (field s i 3)
  fits_by i true h =
      (λ x. operand_fits (word_of (held_kind s ks i h x)) (held_operand s ks i h x))
      ∙ le-leb (kern_place (held_value s i) (all_kerns s ks)) 65535 (omega (arith, held_placed s ks i h, few_kerns)) ∙ sym (value_fits i (held_is s ks i h))
  fits_by i false h = λ x. operand_fits (word_of (kind_kept s ks i h x)) (operand_kept s ks i h x)

  record_same : (i : ℕ) → is_instruction (share_kerns s ks) i ≡ is_instruction s i
  record_same i = λ x. both (absent_or 255 (next_kept s ks i x)) (both (within 255 (right_kept s ks i x)) (fits_by i (holds_value s (length ks) i) refl x))

  pub records_same : every (count (share_kerns s ks)) (is_instruction (share_kerns s ks)) ≡ every (count s) (is_instruction s)
  records_same =
      (λ x. every (count_same s ks x) (is_instruction (share_kerns s ks)))
      ∙ every_ext (count s) (is_instruction (share_kerns s ks)) (is_instruction s) (λ i h. record_same i)

  -- ---- where every record is an instruction

  module _ (taken : program_refusal s ≡ 0) where
    kind-inside : (i : ℕ) → word_of (field s i 2) ≡ 1 → (i < count s) ⊎ (count s ≤ i) → i < count s
    kind-inside i e (inl h) = h
    kind-inside i e (inr h) =
        let z : ◌≡◌ {A = ℕ} 0 1 = sym (ap (λ (b : Bool). word_of (cond b (get_or s (4 * i + 2) (pos 0)) (pos 0))) (le-ltb i (count s) h)) ∙ e in
        absurd (omega arith)

    index_small : (i : ℕ) → i < count s → word_of (field s i 2) ≡ 1 → word_of (field s i 3) ≤ 65535
    index_small i l e =
        let r = both_right (absent_or 255 (field s i 0)) _ (program_record s taken i l) in
        let f = both_right (within 255 (field s i 1)) (operand_fits (word_of (field s i 2)) (field s i 3)) r in
        within_bound 65535 (field s i 3) (ap (λ (n : ℕ). operand_fits n (field s i 3)) (sym e) ∙ f)

    -- an index to a kern that was there
    index-kern : (i : ℕ) → holds_value s (length ks) i ≡ false → word_of (field s i 2) ≡ 1 →
        get_or (all_kerns s ks) (word_of (field s i 3) % 65536) (pos 0) ≡ get_or ks (word_of (field s i 3) % 65536) (pos 0)
    index-kern i h e =
        let l = kind-inside i e (less_or_not i (count s)) in
        let m = index_small i l e in
        kerns_kept s ks (count s) (word_of (field s i 3) % 65536) (omega (arith, m, index_inside s ks i l h e m))

    acts-by : (i : ℕ) → Plain s i → (t : Bool) → holds_value s (length ks) i ≡ t →
        acts_as (all_kerns s ks) (instruction_at (share_kerns s ks) i).operation ≡ acts_as ks (instruction_at s i).operation
    acts-by i p true h = held_acts i h
    acts-by i p false h =
        (λ x. acts_as (all_kerns s ks) (operation_of (word_of (kind_kept s ks i h x)) (operand_kept s ks i h x)))
        ∙ acts_plain (word_of (field s i 2)) (field s i 3) (all_kerns s ks) ks (index-kern i h)
        (λ e. let z : ◌≡◌ {A = Bool} true false = sym (eq-eqb (word_of (field s i 2)) 3 e) ∙ sym (redirect_kind s i) ∙ p in
        let w : ◌≡◌ {A = ℕ} 0 1 = cc in omega arith)

    -- what is no redirect does what it did
    pub acts_same : (i : ℕ) → Plain s i → acts_as (all_kerns s ks) (instruction_at (share_kerns s ks) i).operation ≡ acts_as ks (instruction_at s i).operation
    acts_same i p = acts-by i p (holds_value s (length ks) i) refl

-- ---- no value is left

module _ (s ks : List ℤ) where
  left_by : (i : ℕ) → i < count s → (t : Bool) → holds_value s (length ks) i ≡ t → is_kind 0 (share_kerns s ks) i ≡ false
  left_by i l true h = ap (λ (z : ℤ). eqb (word_of z) 0) (held_kind s ks i h)
  left_by i l false h = ap (λ (z : ℤ). eqb (word_of z) 0) (kind_kept s ks i h) ∙ (none_held s ks i l h).0

  pub no_value_left : (i : ℕ) → i < count s → is_kind 0 (share_kerns s ks) i ≡ false
  no_value_left i l = left_by i l (holds_value s (length ks) i) refl

  past_by : (i : ℕ) → i < count s → is_kind 1 (share_kerns s ks) i ≡ true → program_refusal (share_kerns s ks) ≡ 0 → (t : Bool) → holds_value s (length ks) i ≡ t →
      word_of (field (share_kerns s ks) i 3) < length (all_kerns s ks)
  past_by i l k taken true h = subst (λ (z : ℤ). word_of z < length (all_kerns s ks)) (sym (held_operand s ks i h)) (held_placed s ks i h)
  past_by i l k taken false h =
      let q = share_kerns s ks in
      let e : word_of (field q i 2) ≡ 1 = eqb-true (word_of (field q i 2)) 1 k in
      let r = both_right (absent_or 255 (field q i 0)) _ (program_record q taken i (omega (arith, l, count_same s ks))) in
      let f = both_right (within 255 (field q i 1)) (operand_fits (word_of (field q i 2)) (field q i 3)) r in
      let m : word_of (field q i 3) ≤ 65535 = within_bound 65535 (field q i 3) (ap (λ (n : ℕ). operand_fits n (field q i 3)) (sym e) ∙ f) in
      let w : word_of (field q i 3) ≡ word_of (field s i 3) = ap word_of (operand_kept s ks i h) in
      let d = index_inside s ks i l h (ap word_of (sym (kind_kept s ks i h)) ∙ e) (omega (arith, w, m)) in
      omega (arith, w, d, kerns_least s ks (count s))

  pub no_index_past : (i : ℕ) → i < count s → is_kind 1 (share_kerns s ks) i ≡ true → program_refusal (share_kerns s ks) ≡ 0 →
      word_of (field (share_kerns s ks) i 3) < length (all_kerns s ks)
  no_index_past i l k taken = past_by i l k taken (holds_value s (length ks) i) refl
