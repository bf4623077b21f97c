-- Laws of `isRuleFor`: a redirect is never a rule, another instruction is one for its own right character alone. Of a program that is lent as numbers the kind
-- tells whether an instruction is a redirect. Assumes nothing.
use mathlib.Core.Path.{◌≡◌, refl}
use mathlib.Core.Bool.{Bool, true, false, cond, not}
use Prim.Native.Nat.{ℕ, zero, suc}
use native.Mathlib.Omega.{arith}
use lib.Dec.{ltb, eqb}
use lib.IntN.{ℤ}
use mathlib.Core.List.{List}
use borrow.Author.Tests.{eq-eqb, ne_eqb, eqb-true, not-true}
use Rattle.words.specs.Words.{word_of}
use Rattle.lang.specs.declared.operation.Operation.{Operation}
use Rattle.lang.specs.declared.operation.Operation.TheVariants.{Kern, KernAtIndex, Ligature, EntrypointRedirect}
use Rattle.lang.specs.declared.instruction.Instruction.{Instruction}
use Rattle.lang.specs.Every.{both}
use Rattle.lang.specs.Operations.{is_standard, ligature, from_bytes}
use Rattle.lang.specs.Records.{field, operation_of, is_kind, instruction_at}
use Rattle.lang.proofs.Every.{both_left, both_right, both_false}
use Rattle.program_chain.specs.Chains.{is_redirect_op, is_rule_for, redirected}

-- ---- an instruction and a right character

module _ (right : ℕ) (x : Instruction) where
  pub redirect_passed_lem : is_redirect_op x.operation ≡ true → is_rule_for right x ≡ false
  redirect_passed_lem e = rw e

  pub other_passed : (x.right_char.0 ≡ right → ⊥) → is_rule_for right x ≡ false
  other_passed ne = rw (ne_eqb x.right_char.0 right ne) (both_false (not (is_redirect_op x.operation)))

  pub rule_taken : is_redirect_op x.operation ≡ false → x.right_char.0 ≡ right → is_rule_for right x ≡ true
  rule_taken e r = rw (e, eq-eqb x.right_char.0 right r)

  pub taken_plain : is_rule_for right x ≡ true → is_redirect_op x.operation ≡ false
  taken_plain e = not-true (is_redirect_op x.operation) (both_left (not (is_redirect_op x.operation)) (eqb x.right_char.0 right) e)

  pub taken_right : is_rule_for right x ≡ true → x.right_char.0 ≡ right
  taken_right e = eqb-true x.right_char.0 right (both_right (not (is_redirect_op x.operation)) (eqb x.right_char.0 right) e)

-- an operation that is no redirect acts as itself
pub plain_acts : (op : Operation) → is_redirect_op op ≡ false → redirected op ≡ op
plain_acts (Kern k) e = refl
plain_acts (KernAtIndex i) e = refl
plain_acts (Ligature c p t) e = refl
plain_acts (EntrypointRedirect t f) e = absurd (let z : ◌≡◌ {A = ℕ} 0 1 = cc in omega arith)

-- ---- of a program lent as numbers

-- two bytes are a ligature or a kern index
bytes_plain : (op c : ℕ) → is_redirect_op (from_bytes op c) ≡ false
unfolding from_bytes ligature
bytes_plain op c = go (ltb op 128) (is_standard op) refl refl
  where
    go : (b s : Bool) → ltb op 128 ≡ b → is_standard op ≡ s → is_redirect_op (from_bytes op c) ≡ false
    go true true e d = rw (e, d)
    go true false e d = rw (e, d)
    go false s e d = rw e

kind_redirect : (kind : ℕ) (z : ℤ) → is_redirect_op (operation_of kind z) ≡ eqb kind 3
kind_redirect zero z = refl
kind_redirect (suc zero) z = refl
kind_redirect (suc (suc zero)) z = bytes_plain _ _
kind_redirect (suc (suc (suc zero))) z = refl
kind_redirect (suc (suc (suc (suc k)))) z =
    rw (
      ne_eqb (suc (suc (suc (suc k)))) 1 (λ e. omega arith),
      ne_eqb (suc (suc (suc (suc k)))) 2 (λ e. omega arith),
      ne_eqb (suc (suc (suc (suc k)))) 3 (λ e. omega arith),
    )

-- an instruction is a redirect where its kind is 3
pub redirect_kind : (s : List ℤ) (i : ℕ) → is_redirect_op (instruction_at s i).operation ≡ is_kind 3 s i
redirect_kind s i = kind_redirect (word_of (field s i 2)) (field s i 3)
