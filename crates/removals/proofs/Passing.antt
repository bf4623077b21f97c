-- The rules of a font without an instruction: its chains are those of the font, and the instruction is passed over on each.
-- Assumes nothing.
use mathlib.Core.Path.{◌≡◌, refl, sym, ap, ◌∙◌}
use mathlib.Core.Bool.{Bool, true, false, cond}
use mathlib.Core.List.{List, [], ◌∷◌}
use mathlib.Core.Option.{Option, none, some}
use Prim.Native.Nat.{ℕ, zero, suc, ◌+◌, ◌*◌, ◌/◌, ◌%◌, ◌<◌, ◌≤◌}
use native.Mathlib.Decide.{ℕ_discrete}
use native.Mathlib.Omega.{arith}
use lib.IntN.{ℤ, pos, negsuc}
use lib.Dec.{ltb, eqb}
use lib.ListN.{length, get_or, set, length-set}
use lib.Seq.{get_or-set_same, get_or-set_other}
use borrow.Author.Tests.{lt-ltb, ltb-true, eq-eqb, ne_eqb}
use Rattle.std.specs.declared.option.Option as rust
use Rattle.words.specs.Words.{word_of}
use Rattle.lang.specs.Records.{count, field, next_of, operation_of, instruction_at}
use Rattle.program_chain.specs.Chains.{Program, onward_from, chain_from, chain, is_rule_for, first_for, rule_index_of}
use Rattle.program_chain.proofs.Rules.{redirect_passed_lem, redirect_kind}
use Rattle.program_chain.proofs.Walks.{onward_ascends, chain_whole}
use Rattle.fonts.specs.Fonts.{table_of, left_entry_of, rule_from}
use Rattle.removals.specs.Removed.{without_instruction}
use Rattle.removals.specs.Purpose.{goes_on_after, rule_without, RulesWithout}

-- ---- the numbers of the instructions

module _ (s : List ℤ) (i : ℕ) (h : i < count s) where
  abbrev t : List ℤ
  t = without_instruction s i

  long : length t ≡ length s
  long = length-set (set s (4 * i + 2) (pos 3)) (4 * i + 3) (pos 0) ∙ length-set s (4 * i + 2) (pos 3)

  count_same : count t ≡ count s
  count_same = ap (λ (n : ℕ). n / 4) long

  number_kept : (k : ℕ) → (k ≡ 4 * i + 2 → ⊥) → (k ≡ 4 * i + 3 → ⊥) → get_or t k (pos 0) ≡ get_or s k (pos 0)
  number_kept k a b =
      get_or-set_other (set s (4 * i + 2) (pos 3)) (4 * i + 3) k (pos 0) (pos 0) b
      ∙ get_or-set_other s (4 * i + 2) k (pos 3) (pos 0) a

  field_kept : (j k : ℕ) → (4 * j + k ≡ 4 * i + 2 → ⊥) → (4 * j + k ≡ 4 * i + 3 → ⊥) → field t j k ≡ field s j k
  field_kept j k a b = λ x. cond (ltb j (count_same x)) (number_kept (4 * j + k) a b x) (pos 0)

  kind_three : field t i 2 ≡ pos 3
  kind_three =
      let l : 4 * i + 2 < length s = omega (arith, h) in
      (λ x. cond (ltb i (count_same x)) (get_or t (4 * i + 2) (pos 0)) (pos 0))
      ∙ ap (λ (b : Bool). cond b (get_or t (4 * i + 2) (pos 0)) (pos 0)) (lt-ltb i (count s) h)
      ∙ get_or-set_other (set s (4 * i + 2) (pos 3)) (4 * i + 3) (4 * i + 2) (pos 0) (pos 0) (λ e. omega (arith, e))
      ∙ get_or-set_same s (4 * i + 2) (pos 3) (pos 0) l

  -- another instruction is as it was, and so is where each goes on
  other_same : (j : ℕ) → (j ≡ i → ⊥) → instruction_at t j ≡ instruction_at s j
  other_same j ne x =
      record {
        next_instruction = next_of (field_kept j 0 (λ e. ne (omega (arith, e))) (λ e. ne (omega (arith, e))) x);
        right_char = record { 0 = word_of (field_kept j 1 (λ e. ne (omega (arith, e))) (λ e. ne (omega (arith, e))) x) % 256 };
        operation =
            operation_of (word_of (field_kept j 2 (λ e. ne (omega (arith, e))) (λ e. ne (omega (arith, e))) x))
            (field_kept j 3 (λ e. ne (omega (arith, e))) (λ e. ne (omega (arith, e))) x);
      }

  next_same : (j : ℕ) → (instruction_at t j).next_instruction ≡ (instruction_at s j).next_instruction
  next_same j = ap next_of (field_kept j 0 (λ e. omega (arith, e)) (λ e. omega (arith, e)))

  gone : (r : ℕ) → is_rule_for r (instruction_at t i) ≡ false
  gone r = redirect_passed_lem r (instruction_at t i) (redirect_kind t i ∙ ap (λ (z : ℤ). eqb (word_of z) 3) kind_three)

  other_rule : (r j : ℕ) → (j ≡ i → ⊥) → is_rule_for r (instruction_at t j) ≡ is_rule_for r (instruction_at s j)
  other_rule r j ne = ap (is_rule_for r) (other_same j ne)

-- ---- chains

-- programs whose instructions go on alike have the same chains
same_chain : (n : ℕ) (p q : Program) → ((j : ℕ) → (p j).next_instruction ≡ (q j).next_instruction) → (most j : ℕ) →
    chain_from most n p j ≡ chain_from most n q j
unfolding chain_from
same_chain n p q h zero j = refl
same_chain n p q h (suc most) j =
    ap (λ (is : List ℕ). cond (ltb j n) (j ∷ is) [])
    (same_chain n p q h most (onward_from n (p j).next_instruction j)
    ∙ ap (λ (x : rust.Option ℕ). chain_from most n q (onward_from n x j)) (h j))

module _ (s : List ℤ) (i : ℕ) (h : i < count s) (r : ℕ) where
  abbrev n : ℕ
  n = count s

  abbrev p : Program
  p = instruction_at s

  abbrev q : Program
  q = instruction_at (without_instruction s i)

  -- the indices of a list are all past i
  data Above : List ℕ → Type 0 where
    no_more : Above []
    one_more : {j : ℕ} {is : List ℕ} → i < j → Above is → Above (j ∷ is)

  above_by : (b : Bool) (j : ℕ) (is : List ℕ) → i < j → (b ≡ true → Above is) → Above (cond b (j ∷ is) [])
  above_by true j is l h = one_more l (h refl)
  above_by false j is l h = no_more

  chain_above : (most j : ℕ) → i < j → Above (chain_from most n p j)
  unfolding chain_from
  chain_above zero j l = no_more
  chain_above (suc most) j l =
      above_by (ltb j n) j (chain_from most n p (onward_from n (p j).next_instruction j)) l
      (λ e. chain_above most (onward_from n (p j).next_instruction j)
      (omega (arith, l, onward_ascends n (p j).next_instruction j (ltb-true j n e))))

  -- of such a list the rule is the same, and is not i
  above_same : (is : List ℕ) → Above is → first_for q r is ≡ first_for p r is
  unfolding first_for
  above_same [] no_more = refl
  above_same (j ∷ is) (one_more l a) =
      (λ x. cond (other_rule s i h r j (λ e. omega (arith, e, l)) x) (some j) (above_same is a x))

  other_passed : (j : ℕ) → (j ≡ i → ⊥) → rule_without s i r (some j) ≡ some j
  other_passed j ne = rw (ne_eqb i j (λ e. ne (sym e)))

  kept_by : (b : Bool) (j : ℕ) (x : Option ℕ) → i < j → rule_without s i r x ≡ x → rule_without s i r (cond b (some j) x) ≡ cond b (some j) x
  kept_by true j x l e = other_passed j (λ z. omega (arith, z, l))
  kept_by false j x l e = e

  above_kept : (is : List ℕ) → Above is → rule_without s i r (first_for p r is) ≡ first_for p r is
  unfolding first_for
  above_kept [] no_more = refl
  above_kept (j ∷ is) (one_more l a) = kept_by (is_rule_for r (p j)) j (first_for p r is) l (above_kept is a)

  -- ---- a chain

  abbrev rest : ℕ → ℕ → List ℕ
  rest most j = chain_from most n p (onward_from n (p j).next_instruction j)

  -- at i: it is passed over
  at_by : (b : Bool) (x : Option ℕ) → rule_without s i r x ≡ x → rule_index_of s (goes_on_after s i) r ≡ x → x ≡ rule_without s i r (cond b (some i) x)
  at_by true x e f = sym (rw (eq-eqb i i refl) f)
  at_by false x e f = sym e

  -- at another: it is the rule, or the chain goes on
  else_by : (b : Bool) (j : ℕ) (x y : Option ℕ) → (j ≡ i → ⊥) → x ≡ rule_without s i r y → cond b (some j) x ≡ rule_without s i r (cond b (some j) y)
  else_by true j x y ne e = sym (other_passed j ne)
  else_by false j x y ne e = e

  step_by : (most j : ℕ) → j < n → n ≤ j + suc most → Dec (j ≡ i) →
      (first_for q r (rest most j) ≡ rule_without s i r (first_for p r (rest most j))) →
      first_for q r (j ∷ rest most j) ≡ rule_without s i r (first_for p r (j ∷ rest most j))
  unfolding first_for
  step_by most j l m (yes e) k =
      let o : i < onward_from n (p i).next_instruction i = onward_ascends n (p i).next_instruction i h in
      let a : Above (rest most i) = chain_above most (onward_from n (p i).next_instruction i) o in
      let w : chain n p (goes_on_after s i) ≡ rest most i = sym (chain_whole n p (onward_from n (p i).next_instruction i) most (omega (arith, o, m, e))) in
      rw (e, gone s i h r)
      (above_same (rest most i) a
      ∙ at_by (is_rule_for r (p i)) (first_for p r (rest most i)) (above_kept (rest most i) a) (ap (first_for p r) w))
  step_by most j l m (no ne) k =
      ap (λ (b : Bool). cond b (some j) (first_for q r (rest most j))) (other_rule s i h r j ne)
      ∙ else_by (is_rule_for r (p j)) j (first_for q r (rest most j)) (first_for p r (rest most j)) ne k

  cond_by : (b : Bool) (most j : ℕ) → ltb j n ≡ b → n ≤ j + suc most →
      (j < n → first_for q r (rest most j) ≡ rule_without s i r (first_for p r (rest most j))) →
      first_for q r (cond b (j ∷ rest most j) []) ≡ rule_without s i r (first_for p r (cond b (j ∷ rest most j) []))
  unfolding first_for
  cond_by true most j e m k = let l = ltb-true j n e in step_by most j l m (ℕ_discrete j i) (k l)
  cond_by false most j e m k = refl

  passed : (most j : ℕ) → n ≤ j + most → first_for q r (chain_from most n p j) ≡ rule_without s i r (first_for p r (chain_from most n p j))
  unfolding chain_from first_for
  passed zero j m = refl
  passed (suc most) j m =
      cond_by (ltb j n) most j refl m
      (λ l. passed most (onward_from n (p j).next_instruction j) (omega (arith, m, onward_ascends n (p j).next_instruction j l)))

  index_passed : (entry : ℕ) → rule_index_of (without_instruction s i) entry r ≡ rule_without s i r (rule_index_of s entry r)
  index_passed entry =
      (λ x. first_for q r (chain (count_same s i h x) q entry))
      ∙ ap (first_for q r) (same_chain n q p (next_same s i h) n entry)
      ∙ passed n entry (omega arith)

  from_passed : (e : ℤ) → rule_from (without_instruction s i) e r ≡ rule_without s i r (rule_from s e r)
  from_passed (negsuc m) = refl
  from_passed (pos e) = index_passed e

pub rules_without : RulesWithout
rules_without f i h l r = from_passed f.instructions i h r (left_entry_of (table_of f) l)
