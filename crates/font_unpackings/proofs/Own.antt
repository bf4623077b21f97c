-- Laws of a font's own instructions: they stand whole among the packed ones, and behind them there is no rule, so that each chain from one of them has the
-- rules that it had. Assumes nothing.
use mathlib.Core.Path.{◌≡◌, refl, sym, ap, ◌∙◌}
use mathlib.Core.Bool.{Bool, true, false, cond}
use mathlib.Core.List.{List, [], ◌∷◌, Memᴰ}
use mathlib.Core.Option.{none, some, map}
use Prim.Native.Nat.{ℕ, ◌+◌, ◌-◌, ◌*◌, ◌%◌, ◌<◌, ◌≤◌}
use native.Mathlib.Omega.{arith}
use lib.IntN.{ℤ, pos}
use lib.Dec.{ltb}
use lib.ListN.{length, get_or, take, drop, length-drop}
use lib.Seq.{length-take-le, get_or-take, get_or-drop}
use lib.Signed.{non_neg}
use borrow.Author.Tests.{lt-ltb, ltb-true, ltb-false}
use Rattle.words.specs.Words.{word_of}
use Rattle.lang.specs.declared.instruction.Instruction.{Instruction}
use Rattle.lang.specs.Records.{count, field, next_of, operation_of, instruction_at, is_kind}
use Rattle.program_chain.specs.Chains.{Program, onward_from, chain, is_rule_for, first_for, rule_index_of}
use Rattle.program_chain.proofs.Walks.{onward_ascends, chain_step, chain_end, first_later}
use Rattle.program_chain.proofs.Rules.{redirect_passed_lem, redirect_kind}
use Rattle.pack.proofs.Shifts.{chain_below, rules_moved}
use Rattle.font_unpackings.specs.Unpackings.{own_end, own_start, own_count}
use Rattle.font_unpackings.proofs.Ends.{end_le, start_le}

-- an instruction by its four numbers
from_fields : ℤ → ℤ → ℤ → ℤ → Instruction
from_fields next right kind operand =
    record { next_instruction = next_of next; right_char = record { 0 = word_of right % 256 }; operation = operation_of (word_of kind) operand }

from_same : {a a' b b' c c' d d' : ℤ} → a ≡ a' → b ≡ b' → c ≡ c' → d ≡ d' → from_fields a b c d ≡ from_fields a' b' c' d'
from_same p q r s = rw (p, q, r, s)

-- the first index for a right character is one of the list
first_in : (program : Program) (right i : ℕ) (is : List ℕ) → first_for program right is ≡ some i → Memᴰ i is
unfolding first_for
first_in program right i [] h = absurd (let z : ◌≡◌ {A = ℕ} 0 1 = cc in omega arith)
first_in program right i (j ∷ is) h = go (is_rule_for right (program j)) (first_in program right i is) h
  where
    go : (t : Bool) → (first_for program right is ≡ some i → Memᴰ i is) → cond t (some j) (first_for program right is) ≡ some i → Memᴰ i (j ∷ is)
    go true k e = let m : i ≡ j = cc in Memᴰ.head m
    go false k e = Memᴰ.tail (k e)

-- the font's own instructions
abbrev pub own_program : List ℤ → ℤ → List ℤ
own_program s left = take (4 * own_count s left) (drop (4 * own_start s left) s)

module _ (s : List ℤ) (left : ℤ) where
  pub length_own : length (own_program s left) ≡ 4 * own_count s left
  length_own =
      length-take-le (4 * own_count s left) (drop (4 * own_start s left) s)
      (omega (arith, length-drop (4 * own_start s left) s, end_le s left, start_le s left))

  own_fits : count (own_program s left) + own_start s left ≤ count s
  own_fits = omega (arith, length_own, end_le s left, start_le s left)

  own_field : (e m : ℕ) → e < count (own_program s left) → m < 4 → field s (e + own_start s left) m ≡ field (own_program s left) e m
  own_field e m h l =
      let j : 4 * own_start s left + (4 * e + m) ≡ 4 * (e + own_start s left) + m = omega arith in
      rw (lt-ltb (e + own_start s left) (count s) (omega (arith, own_fits)), lt-ltb e (count (own_program s left)) h)
      (sym
      (get_or-take (4 * own_count s left) (drop (4 * own_start s left) s) (4 * e + m) (pos 0) (omega (arith, length_own))
      ∙ get_or-drop (4 * own_start s left) s (4 * e + m) (pos 0)
      ∙ ap (λ (n : ℕ). get_or s n (pos 0)) j))

  own_same : (e : ℕ) → e < count (own_program s left) → instruction_at s (e + own_start s left) ≡ instruction_at (own_program s left) e
  unfolding from_fields
  own_same e h = from_same (own_field e 0 h (omega arith)) (own_field e 1 h (omega arith)) (own_field e 2 h (omega arith)) (own_field e 3 h (omega arith))

  -- where a rule is found, the same instruction stands among the packed ones
  pub rule_same : (e right i : ℕ) → rule_index_of (own_program s left) e right ≡ some i →
      instruction_at s (i + own_start s left) ≡ instruction_at (own_program s left) i
  rule_same e right i h =
      let p = instruction_at (own_program s left) in
      let n = count (own_program s left) in
      own_same i (chain_below n p n e i (first_in p right i (chain n p e) h))

  -- ---- behind them stands at most the redirect that holds the left entry: it is passed over, and what it leads to is past the end

  module _ (held : non_neg left ≡ true → is_kind 3 s (count s - 1) ≡ true) where
    held_by : (i right : ℕ) → i < count s → i ≡ count s - 1 → is_kind 3 s i ≡ true → rule_index_of s i right ≡ none
    unfolding first_for
    held_by i right h e k =
        let p = instruction_at s in
        let on = onward_from (count s) (p i).next_instruction i in
        let l : count s ≤ on = omega (arith, e, onward_ascends (count s) (p i).next_instruction i h) in
        ap (first_for p right) (chain_step (count s) p i h)
        ∙ first_later p right i (chain (count s) p on) (redirect_passed_lem right (p i) (redirect_kind s i ∙ k))
        ∙ ap (first_for p right) (chain_end (count s) p on l)

    beyond_by : (i right : ℕ) → count (own_program s left) + own_start s left ≤ i → (t u : Bool) → ltb i (count s) ≡ t → non_neg left ≡ u →
        rule_index_of s i right ≡ none
    unfolding first_for
    beyond_by i right h false u e d = ap (first_for (instruction_at s) right) (chain_end (count s) (instruction_at s) i (ltb-false i (count s) e))
    beyond_by i right h true true e d =
        let l = ltb-true i (count s) e in
        let g : own_end s left ≡ count s - 1 = rw d in
        let q : i ≡ count s - 1 = omega (arith, l, g, length_own, start_le s left) in
        held_by i right l q (ap (is_kind 3 s) q ∙ held d)
    beyond_by i right h true false e d =
        let l = ltb-true i (count s) e in
        let g : own_end s left ≡ count s = rw d in
        absurd (omega (arith, l, g, length_own, start_le s left))

    -- so every chain has the rules that it had
    pub own_rules : (e right : ℕ) →
        rule_index_of s (e + own_start s left) right ≡ map (λ (i : ℕ). i + own_start s left) (rule_index_of (own_program s left) e right)
    own_rules e right =
        rules_moved (count (own_program s left)) (count s) (own_start s left) (instruction_at (own_program s left)) (instruction_at s) own_fits own_same
        (λ i r h. beyond_by i r h (ltb i (count s)) (non_neg left) refl refl) right e
