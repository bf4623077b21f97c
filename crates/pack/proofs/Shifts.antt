-- Laws of a program that stands whole in another, a number of places on: so do its chains that stay inside, and its rules. Where there is no rule behind it in
-- the other, so do all of its rules.
-- Assumes nothing.
use mathlib.Core.Path.{◌≡◌, refl, sym, ap, ◌∙◌}
use mathlib.Core.Bool.{Bool, true, false, cond}
use mathlib.Core.List.Memᴰ
use mathlib.Core.List.{List, [], ◌∷◌, map, Memᴰ}
use mathlib.Core.Option
use mathlib.Core.Option.{Option, none, some}
use Prim.Native.Nat.{ℕ, zero, suc, ◌+◌, ◌<◌, ◌≤◌}
use native.Mathlib.Omega.{arith}
use lib.Dec.{ltb}
use borrow.Author.Tests.{ltb-true, ltb-false}
use Rattle.std.specs.declared.option.Option as rust
use Rattle.std.specs.Prelude.{None, Some}
use Rattle.lang.specs.declared.instruction.Instruction.{Instruction}
use Rattle.program_chain.specs.Chains.{Program, onward_from, chain_from, chain, is_rule_for, first_for, rule_index}
use Rattle.program_chain.proofs.Walks.{chain_step, chain_end}

-- no next on the chain from i leads past the last of n instructions
abbrev pub Inside : ℕ → Program → ℕ → Type 0
Inside n program i = (j k : ℕ) → Memᴰ j (chain n program i) → (program j).next_instruction ≡ Some k → j + 1 + k < n

module _ (n : ℕ) (program : Program) where
  -- every index of a chain is one of an instruction
  below_by : (i j : ℕ) (t : Bool) (is : List ℕ) → ltb i n ≡ t → (Memᴰ j is → j < n) → Memᴰ j (cond t (i ∷ is) []) → j < n
  below_by i j false is e r m = absurd (Memᴰ.not-nil m)
  below_by i j true is e r (Memᴰ.head q) = let l : i < n = ltb-true i n e in omega arith
  below_by i j true is e r (Memᴰ.tail m) = r m

  pub chain_below : (most i j : ℕ) → Memᴰ j (chain_from most n program i) → j < n
  unfolding chain_from
  chain_below zero i j m = absurd (Memᴰ.not-nil m)
  chain_below (suc most) i j m =
      below_by i j (ltb i n) _ refl (chain_below most (onward_from n (program i).next_instruction i) j) m

  -- what is left of a chain inside is inside
  inside_rest : (i k : ℕ) → i < n → (program i).next_instruction ≡ Some k → Inside n program i → Inside n program (i + 1 + k)
  inside_rest i k h e s j l m = s j l (rw (chain_step n program i h, e) (Memᴰ.tail m))

  inside_next : (i k : ℕ) → i < n → (program i).next_instruction ≡ Some k → Inside n program i → i + 1 + k < n
  inside_next i k h e s = s i k (rw (chain_step n program i h) (Memᴰ.head refl)) e

-- n instructions of a program stand among n', o places on
module _ (n n' o : ℕ) (program program' : Program) (room : n + o ≤ n') (same : (i : ℕ) → i < n → program' (i + o) ≡ program i) where
  abbrev moved : List ℕ → List ℕ
  moved is = map (λ (i : ℕ). i + o) is

  onward_moved : (i : ℕ) (x : rust.Option ℕ) → (program i).next_instruction ≡ x → i < n → Inside n program i →
      ((k : ℕ) → i + 1 + k < n → Inside n program (i + 1 + k) → chain n' program' (i + 1 + k + o) ≡ moved (chain n program (i + 1 + k))) →
      chain n' program' (onward_from n' x (i + o)) ≡ moved (chain n program (onward_from n x i))
  onward_moved i None e h s r = chain_end n' program' n' (omega arith) ∙ sym (ap moved (chain_end n program n (omega arith)))
  onward_moved i (Some k) e h s r =
      let q : i + o + 1 + k ≡ i + 1 + k + o = omega arith in
      ap (chain n' program') q ∙ r k (inside_next n program i k h e s) (inside_rest n program i k h e s)

  moved_by : (most i : ℕ) → n ≤ i + most → i < n → Inside n program i → chain n' program' (i + o) ≡ moved (chain n program i)
  moved_by zero i f h s = absurd (omega arith)
  moved_by (suc most) i f h s =
      chain_step n' program' (i + o) (omega arith)
      ∙ ap (λ (x : Instruction). (i + o) ∷ chain n' program' (onward_from n' x.next_instruction (i + o))) (same i h)
      ∙ ap (λ (is : List ℕ). (i + o) ∷ is)
      (onward_moved i (program i).next_instruction refl h s (λ k. moved_by most (i + 1 + k) (omega arith)))
      ∙ sym (ap moved (chain_step n program i h))

  -- a chain that stays inside is the same, each index o places on
  pub chain_moved : (i : ℕ) → i < n → Inside n program i → chain n' program' (i + o) ≡ moved (chain n program i)
  chain_moved i h s = moved_by n i (omega arith) h s

  either : (t : Bool) (i : ℕ) (x x' : Option ℕ) → x' ≡ Option.map (λ (j : ℕ). j + o) x →
      cond t (some (i + o)) x' ≡ Option.map (λ (j : ℕ). j + o) (cond t (some i) x)
  either true i x x' e = refl
  either false i x x' e = e

  first_moved : (right : ℕ) (is : List ℕ) → ((i : ℕ) → Memᴰ i is → i < n) →
      first_for program' right (moved is) ≡ Option.map (λ (j : ℕ). j + o) (first_for program right is)
  unfolding first_for
  first_moved right [] h = refl
  first_moved right (i ∷ is) h =
      ap (λ (x : Instruction). cond (is_rule_for right x) (some (i + o)) (first_for program' right (moved is))) (same i (h i (Memᴰ.head refl)))
      ∙ either (is_rule_for right (program i)) i _ _ (first_moved right is (λ j m. h j (Memᴰ.tail m)))

  -- and so is its rule of every right character
  pub rule_moved : (right i : ℕ) → i < n → Inside n program i →
      rule_index n' program' (i + o) right ≡ Option.map (λ (j : ℕ). j + o) (rule_index n program i right)
  rule_moved right i h s =
      ap (first_for program' right) (chain_moved i h s) ∙ first_moved right (chain n program i) (chain_below n program n i)

  -- from behind the n instructions on there is no rule: a chain that leads there has no more of them than one that ends
  module _ (beyond : (i right : ℕ) → n + o ≤ i → rule_index n' program' i right ≡ none) where
    past-moved : (right i : ℕ) → n ≤ i → rule_index n' program' (i + o) right ≡ Option.map (λ (j : ℕ). j + o) (rule_index n program i right)
    unfolding first_for
    past-moved right i h = beyond (i + o) right (omega arith) ∙ rw (chain_end n program i h)

    rest-moved : (right i : ℕ) (x : rust.Option ℕ) → i < n →
        ((k : ℕ) → rule_index n' program' (i + 1 + k + o) right ≡ Option.map (λ (j : ℕ). j + o) (rule_index n program (i + 1 + k) right)) →
        rule_index n' program' (onward_from n' x (i + o)) right ≡ Option.map (λ (j : ℕ). j + o) (rule_index n program (onward_from n x i) right)
    unfolding first_for
    rest-moved right i None h r = rw (chain_end n' program' n' (omega arith), chain_end n program n (omega arith))
    rest-moved right i (Some k) h r =
        let q : i + o + 1 + k ≡ i + 1 + k + o = omega arith in
        rw q (r k)

    turn_by : (right i : ℕ) (t : Bool) → ltb i n ≡ t →
        ((k : ℕ) → rule_index n' program' (i + 1 + k + o) right ≡ Option.map (λ (j : ℕ). j + o) (rule_index n program (i + 1 + k) right)) →
        rule_index n' program' (i + o) right ≡ Option.map (λ (j : ℕ). j + o) (rule_index n program i right)
    unfolding first_for
    turn_by right i true e r =
        let h = ltb-true i n e in
        ap (first_for program' right) (chain_step n' program' (i + o) (omega arith))
        ∙ ap
        (λ (x : Instruction). cond (is_rule_for right x) (some (i + o))
        (first_for program' right (chain n' program' (onward_from n' x.next_instruction (i + o)))))
        (same i h)
        ∙ either (is_rule_for right (program i)) i _ _ (rest-moved right i (program i).next_instruction h r)
        ∙ ap (λ (is : List ℕ). Option.map (λ (j : ℕ). j + o) (first_for program right is)) (sym (chain_step n program i h))
    turn_by right i false e r = past-moved right i (ltb-false i n e)

    every-by : (most right i : ℕ) → n ≤ i + most → rule_index n' program' (i + o) right ≡ Option.map (λ (j : ℕ). j + o) (rule_index n program i right)
    every-by zero right i f = past-moved right i (omega arith)
    every-by (suc most) right i f = turn_by right i (ltb i n) refl (λ k. every-by most right (i + 1 + k) (omega arith))

    -- every rule is the same, o places on
    pub rules_moved : (right i : ℕ) → rule_index n' program' (i + o) right ≡ Option.map (λ (j : ℕ). j + o) (rule_index n program i right)
    rules_moved right i = every-by n right i (omega arith)
