-- The rules of a program are those of the same program as it is written: its kerns shared, moved by the offset, the flags of redirects off.
-- Assumes nothing.
use mathlib.Core.Path.{◌≡◌, refl, sym, ap, ◌∙◌}
use mathlib.Core.Bool.{Bool, true, false, cond}
use mathlib.Core.List.{List, [], ◌∷◌}
use mathlib.Core.Logic.{◌⊎◌, inl, inr}
use mathlib.Core.Option.{some}
use Prim.Native.Nat.{ℕ, zero, suc, ◌/◌, ◌%◌, ◌<◌}
use native.Mathlib.Nat.{mod-eq_of_lt}
use native.Mathlib.Omega.{arith}
use lib.IntN.{ℤ, pos}
use lib.Dec.{ltb, eqb}
use lib.ListN.{length, get_or}
use mir.Syntax.{w32}
use mir.Val.{SFits}
use borrow.Author.Tests.{lt-ltb, ltb-true, eqb-true}
use Rattle.words.specs.Words.{word_of, number_of}
use Rattle.words.proofs.Bits.{number_word}
use Rattle.lang.specs.declared.operation.Operation.{Operation}
use Rattle.lang.specs.declared.operation.Operation.TheVariants.{Kern}
use Rattle.lang.specs.Every.{both}
use Rattle.lang.specs.declared.operation.PostLigOperation.TheVariants.{RetainNeitherMoveToInserted}
use Rattle.lang.specs.Operations.{from_bytes, ligature, lig, is_standard, retains, keeps_left, keeps_right, advance}
use Rattle.lang.specs.Records.{count, field, is_kind, next_of, right_of, operand_fits, instruction_at, within, absent_or}
use Rattle.lang.specs.Checks.{program_refusal}
use Rattle.lang.proofs.Every.{both_right}
use Rattle.lang.proofs.Records.{within_bound}
use Rattle.lang.proofs.Refusals.{program_record}
use Rattle.program_chain.specs.Chains.{Program, onward_from, chain_from, is_redirect_op, is_rule_for, first_for, rule_index_of, acts_as}
use Rattle.program_chain.proofs.Rules.{redirect_kind}
use Rattle.program_kerns.specs.Kerns.{kern_at, packed, kern_place, kerns_of}
use Rattle.files.specs.Purpose.{AreI32, unflagged}
use Rattle.files.proofs.Shared.{shared_by, changed_first, changed_not, changed_operand, kind_other, shared_count, shared_first, shared_kern, shared_other}
use Rattle.files.proofs.Shared.{shared_index, shared_kind, kerns_few}
use Rattle.files.proofs.Kerns.{fits_field, fits_kerns}
use Rattle.files.proofs.Unflagged.{unflagged_count, unflagged_kind}

-- ---- two programs whose instructions go on alike and are rules alike

module _ (n : ℕ) (program program' : Program) (r : ℕ)
    (onward : (i : ℕ) → i < n → (program i).next_instruction ≡ (program' i).next_instruction)
    (alike : (i : ℕ) → i < n → is_rule_for r (program i) ≡ is_rule_for r (program' i))
  where
    alike-by : (m i : ℕ) (t : Bool) → ltb i n ≡ t →
        ((j : ℕ) → first_for program r (chain_from m n program j) ≡ first_for program' r (chain_from m n program' j)) →
        first_for program r (cond t (i ∷ chain_from m n program (onward_from n (program i).next_instruction i)) [])
        ≡ first_for program' r (cond t (i ∷ chain_from m n program' (onward_from n (program' i).next_instruction i)) [])
    unfolding first_for
    alike-by m i true t g =
        let h = ltb-true i n t in
        rw (onward i h, alike i h, g (onward_from n (program' i).next_instruction i))
    alike-by m i false t g = refl

    first_alike : (m i : ℕ) → first_for program r (chain_from m n program i) ≡ first_for program' r (chain_from m n program' i)
    unfolding first_for chain_from
    first_alike zero i = refl
    first_alike (suc m) i = alike-by m i (ltb i n) refl (first_alike m)

-- what is found is an instruction
below_by : (n : ℕ) (program : Program) (r i j : ℕ) (is : List ℕ) (t u : Bool) → ltb i n ≡ t → is_rule_for r (program i) ≡ u →
    (first_for program r is ≡ some j → j < n) → first_for program r (cond t (i ∷ is) []) ≡ some j → j < n
unfolding first_for
below_by n program r i j is true true t u g e = let q : some i ≡ some j = rw u at e in let k : i ≡ j = cc in omega (arith, ltb-true i n t)
below_by n program r i j is true false t u g e = g (rw u at e)
below_by n program r i j is false u t q g e = absurd (let z : ◌≡◌ {A = ℕ} 0 1 = cc in omega arith)

pub found_below : (n : ℕ) (program : Program) (r m i j : ℕ) → first_for program r (chain_from m n program i) ≡ some j → j < n
unfolding first_for chain_from
found_below n program r zero i j e = absurd (let z : ◌≡◌ {A = ℕ} 0 1 = cc in omega arith)
found_below n program r (suc m) i j e =
    let on = onward_from n (program i).next_instruction i in
    below_by n program r i j (chain_from m n program on) (ltb i n) (is_rule_for r (program i)) refl refl (found_below n program r m on j) e

-- of two programs that are lent
module _ (s s' : List ℤ) (same_count : count s ≡ count s')
    (first : (i m : ℕ) → i < count s' → m < 2 → field s i m ≡ field s' i m) (kind : (i : ℕ) → i < count s' → is_kind 3 s i ≡ is_kind 3 s' i)
  where
    rule_alike : (r i : ℕ) → i < count s' → is_rule_for r (instruction_at s i) ≡ is_rule_for r (instruction_at s' i)
    rule_alike r i h =
        let a : is_redirect_op (instruction_at s i).operation ≡ is_redirect_op (instruction_at s' i).operation =
        redirect_kind s i ∙ kind i h ∙ sym (redirect_kind s' i) in
        let b : right_of s i ≡ right_of s' i = ap (λ (z : ℤ). word_of z % 256) (first i 1 h (omega arith)) in
        rw (a, b)

    pub index_alike : (e r : ℕ) → rule_index_of s e r ≡ rule_index_of s' e r
    index_alike e r =
        ap (λ (n : ℕ). first_for (instruction_at s) r (chain_from n n (instruction_at s) e)) same_count
        ∙ first_alike (count s') (instruction_at s) (instruction_at s') r (λ i h. ap next_of (first i 0 h (omega arith))) (rule_alike r) (count s') e

-- ---- the flags

pub unflagged_index : (s : List ℤ) (e r : ℕ) → rule_index_of (unflagged s) e r ≡ rule_index_of s e r
unflagged_index s e r =
    index_alike (unflagged s) s (unflagged_count s)
    (λ i m h l. changed_first s (is_kind 3 s) (pos 3) (λ j. pos (word_of (field s j 3) % 65536)) i m h l) (unflagged_kind s) e r

-- ---- the kerns

-- a value stands at its place
value_by : (v k : ℤ) (ks : List ℤ) (t : Bool) → eqb (word_of k) (word_of v) ≡ t →
    (kern_place v ks < length ks → word_of (get_or ks (kern_place v ks) (pos 0)) ≡ word_of v) → cond t 0 (suc (kern_place v ks)) < suc (length ks) →
    word_of (get_or (k ∷ ks) (cond t 0 (suc (kern_place v ks))) (pos 0)) ≡ word_of v
value_by v k ks true t g l = eqb-true (word_of k) (word_of v) t
value_by v k ks false t g l = g (omega arith)

place_value : (v : ℤ) (ks : List ℤ) → kern_place v ks < length ks → word_of (get_or ks (kern_place v ks) (pos 0)) ≡ word_of v
unfolding kern_place
place_value v [] h = absurd (omega arith)
place_value v (k ∷ ks) h = value_by v k ks (eqb (word_of k) (word_of v)) refl (place_value v ks) h

-- what a ligature does has nothing to do with kerns
either_acts : (ks ks' : List ℤ) (t : Bool) (x y : Operation) → acts_as ks x ≡ acts_as ks' x → acts_as ks y ≡ acts_as ks' y →
    acts_as ks (cond t x y) ≡ acts_as ks' (cond t x y)
either_acts ks ks' true x y p q = p
either_acts ks ks' false x y p q = q

ligature_acts : (ks ks' : List ℤ) (a c : ℕ) → a < 128 → acts_as ks (from_bytes a c) ≡ acts_as ks' (from_bytes a c)
unfolding from_bytes ligature
ligature_acts ks ks' a c h =
    rw (lt-ltb a 128 h)
    (either_acts ks ks' (is_standard a) (lig (retains (keeps_left a) (keeps_right a) (advance a)) c false) (lig RetainNeitherMoveToInserted c true) refl refl)

module _ (s kerns : List ℤ) (are : AreI32 s) (kerns_are : AreI32 kerns) (ok : program_refusal s ≡ 0) where
  pub shared_rules : (e r : ℕ) → rule_index_of (shared_by s kerns) e r ≡ rule_index_of s e r
  shared_rules =
      index_alike (shared_by s kerns) s (shared_count s kerns) (λ i m h l. shared_first s kerns i h m l) (λ i h. shared_kind s kerns i h 3 (omega arith))

  abbrev own_kerns : List ℤ
  own_kerns = kerns_of (packed s kerns)

  module _ (i : ℕ) (h : i < count s) where
    fits : operand_fits (word_of (field s i 2)) (field s i 3) ≡ true
    fits =
        both_right (within 255 (field s i 1)) (operand_fits (word_of (field s i 2)) (field s i 3))
        (both_right (absent_or 255 (field s i 0)) (both (within 255 (field s i 1)) (operand_fits (word_of (field s i 2)) (field s i 3))) (program_record s ok i h))

    -- the kern value of a kern
    acts-kern : (v : ℤ) → SFits w32 v → field (packed s kerns) i 3 ≡ v → (is_kind 0 s i ≡ true) ⊎ (is_kind 1 s i ≡ true) →
        acts_as own_kerns (instruction_at (shared_by s kerns) i).operation ≡ Kern (record { 0 = v })
    acts-kern v fit q k =
        let w = shared_kern s kerns i h k in
        let place : ℕ = kern_place (field (packed s kerns) i 3) own_kerns in
        let lt : place < length own_kerns = rw w.1 at (shared_index s kerns i h (ap (λ (z : ℤ). eqb (word_of z) 1) w.0)) in
        let m : place % 65536 ≡ place = mod-eq_of_lt (omega (arith, lt, kerns_few s kerns ok)) in
        let x : ℤ = get_or own_kerns place (pos 0) in
        let value : x ≡ v =
        sym (number_word x (fits_kerns s kerns are kerns_are place))
        ∙ ap number_of (place_value (field (packed s kerns) i 3) own_kerns lt ∙ ap word_of q)
        ∙ number_word v fit in
        rw (w.0, w.1) (ap (λ (n : ℕ). Kern (record { 0 = get_or own_kerns n (pos 0) })) m ∙ ap (λ (z : ℤ). Kern (record { 0 = z })) value)

    acts-value : is_kind 0 s i ≡ true → acts_as own_kerns (instruction_at (shared_by s kerns) i).operation ≡ acts_as kerns (instruction_at s i).operation
    acts-value k =
        let z : word_of (field s i 2) ≡ 0 = eqb-true (word_of (field s i 2)) 0 k in
        acts-kern (field s i 3) (fits_field s are i 3)
        (changed_not s (is_kind 1 s) (pos 0) (kern_at s kerns) i 3 h (omega arith) (kind_other 0 1 s i k (λ e. omega arith))) (inl k)
        ∙ rw z

    acts-index : is_kind 1 s i ≡ true → acts_as own_kerns (instruction_at (shared_by s kerns) i).operation ≡ acts_as kerns (instruction_at s i).operation
    acts-index k =
        let z : word_of (field s i 2) ≡ 1 = eqb-true (word_of (field s i 2)) 1 k in
        let g : within 65535 (field s i 3) ≡ true = rw z at fits in
        let m : word_of (field s i 3) % 65536 ≡ word_of (field s i 3) = mod-eq_of_lt (omega (arith, within_bound 65535 (field s i 3) g)) in
        acts-kern (kern_at s kerns i) (kerns_are (word_of (field s i 3))) (changed_operand s (is_kind 1 s) (pos 0) (kern_at s kerns) i h k) (inr k)
        ∙ rw (z, m)

    -- of another instruction that is no redirect
    kind-two : (a b c d : Bool) (z : ℤ) → a ≡ false → b ≡ false → d ≡ false →
        cond a true (cond b (within 65535 z) (cond c (within 32767 z) (cond d (within 131071 z) false))) ≡ true → c ≡ true
    kind-two a b true d z e g k t = refl
    kind-two a b false d z e g k t = absurd (let y : false ≡ true = rw (e, g, k) at t in let x : ◌≡◌ {A = ℕ} 0 1 = cc in omega arith)

    acts-other : is_kind 0 s i ≡ false → is_kind 1 s i ≡ false → is_kind 3 s i ≡ false →
        acts_as own_kerns (instruction_at (shared_by s kerns) i).operation ≡ acts_as kerns (instruction_at s i).operation
    acts-other a b c =
        let w = word_of (field s i 2) in
        let z : w ≡ 2 = eqb-true w 2 (kind-two (eqb w 0) (eqb w 1) (eqb w 2) (eqb w 3) (field s i 3) a b c fits) in
        rw (shared_other s kerns i h a b 2 (omega arith), shared_other s kerns i h a b 3 (omega arith), z)
        (ligature_acts own_kerns kerns (word_of (field s i 3) / 256 % 128) (word_of (field s i 3) % 256) (omega arith))

    pub acts_same : is_kind 3 s i ≡ false → acts_as own_kerns (instruction_at (shared_by s kerns) i).operation ≡ acts_as kerns (instruction_at s i).operation
    acts_same c = by (is_kind 0 s i) (is_kind 1 s i) refl refl
      where
        by : (a b : Bool) → is_kind 0 s i ≡ a → is_kind 1 s i ≡ b →
            acts_as own_kerns (instruction_at (shared_by s kerns) i).operation ≡ acts_as kerns (instruction_at s i).operation
        by true b a e = acts-value a
        by false true a e = acts-index e
        by false false a e = acts-other a e c
