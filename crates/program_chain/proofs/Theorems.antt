-- What passing over redirects means for the rule of a pair (specs/Purpose): `no-redirect`, `as-without` and `left_out`. Assumes nothing.
use mathlib.Core.Path.{◌≡◌, refl, ap, ◌∙◌}
use mathlib.Core.Bool.{Bool, true, false, cond}
use mathlib.Core.List.{List, [], ◌∷◌, Memᴰ}
use mathlib.Core.Option.{Option, none, some}
use Prim.Native.Nat.{ℕ}
use native.Mathlib.Omega.{arith}
use lib.Dec.{eqb}
use Rattle.program_chain.specs.Chains.{Program, chain, is_redirect_op, is_rule_for, first_for}
use Rattle.program_chain.specs.Purpose.{first_with, without_redirects, NoRedirect, AsWithout, LeftOut}
use Rattle.program_chain.proofs.Rules.{taken_plain, plain_acts}

-- ---- a rule is no redirect

module _ (program : Program) (right i : ℕ) where
  plain_by : (j : ℕ) (is : List ℕ) (t : Bool) → is_rule_for right (program j) ≡ t →
      (first_for program right is ≡ some i → is_redirect_op (program i).operation ≡ false) →
      cond t (some j) (first_for program right is) ≡ some i → is_redirect_op (program i).operation ≡ false
  plain_by j is true e k h = let m : j ≡ i = cc in rw (← m) (taken_plain right (program j) e)
  plain_by j is false e k h = k h

  first_plain : (is : List ℕ) → first_for program right is ≡ some i → is_redirect_op (program i).operation ≡ false
  unfolding first_for
  first_plain [] h = absurd (let z : ◌≡◌ {A = ℕ} 0 1 = cc in omega arith)
  first_plain (j ∷ is) h = plain_by j is (is_rule_for right (program j)) refl (first_plain is) h

pub no_redirect : NoRedirect
no_redirect n program entry right i h =
    let p = first_plain program right i (chain n program entry) h in
    (p, plain_acts (program i).operation p)

-- ---- a list without redirects

module _ (program : Program) (right : ℕ) where
  first_without : (is : List ℕ) → ((i : ℕ) → Memᴰ i is → is_redirect_op (program i).operation ≡ false) →
      first_for program right is ≡ first_with program right is
  unfolding first_for first_with
  first_without [] h = refl
  first_without (i ∷ is) h = rw (h i (Memᴰ.head refl), first_without is (λ j m. h j (Memᴰ.tail m)))

  -- ---- the redirects of a list left out

  out_by : (i : ℕ) (is : List ℕ) (t : Bool) → is_redirect_op (program i).operation ≡ t →
      first_for program right (without_redirects program is) ≡ first_for program right is →
      first_for program right (cond t (without_redirects program is) (i ∷ without_redirects program is)) ≡ first_for program right (i ∷ is)
  unfolding first_for
  out_by i is true e k = rw e k
  out_by i is false e k = rw k

  first_out : (is : List ℕ) → first_for program right (without_redirects program is) ≡ first_for program right is
  unfolding without_redirects
  first_out [] = refl
  first_out (i ∷ is) = out_by i is (is_redirect_op (program i).operation) refl (first_out is)

  with_by : (i : ℕ) (is : List ℕ) (t : Bool) → is_redirect_op (program i).operation ≡ t →
      first_with program right (without_redirects program is) ≡ first_for program right is →
      first_with program right (cond t (without_redirects program is) (i ∷ without_redirects program is)) ≡ first_for program right (i ∷ is)
  unfolding first_for first_with
  with_by i is true e k = rw e k
  with_by i is false e k = rw (e, k)

  with_out : (is : List ℕ) → first_with program right (without_redirects program is) ≡ first_for program right is
  unfolding without_redirects first_with first_for
  with_out [] = refl
  with_out (i ∷ is) = with_by i is (is_redirect_op (program i).operation) refl (with_out is)

pub as_without : AsWithout
as_without n program entry right h = first_without program right (chain n program entry) h

pub left_out : LeftOut
left_out n program entry right = (first_out program right (chain n program entry), with_out program right (chain n program entry))
