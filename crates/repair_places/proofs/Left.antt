-- What the passes of repair answer and leave where the repaired program and its passthrough are written to local lists.
-- Assumes nothing.
use mathlib.Core.Path.{◌≡◌, refl, sym, ap, ◌∙◌}
use mathlib.Core.List.{List, [], ◌∷◌}
use Prim.Native.Nat.{ℕ, zero, suc, ◌*◌, ◌/◌, ◌≤◌}
use native.Mathlib.Omega.{arith}
use lib.IntN.{ℤ, pos}
use lib.ListN.{length, replicate}
use lib.Seq.{sets, length-sets}
use borrow.Author.Tests.{eq-eqb}
use Rattle.lang.specs.Records.{count}
use Rattle.lang.specs.Checks.{or_else}
use Rattle.lang.specs.Answers.{Reply, reply_of}
use Rattle.lang.proofs.Refusals.{or_else_none}
use Rattle.repairs.specs.declared.Validated.{Validated}
use Rattle.repairs.specs.declared.Validated.TheVariants.{Fixed, Refused}
use Rattle.repairs.specs.Damaged.{Damaged, repaired_left, repaired_passthrough}
use Rattle.repairs.specs.Repaired.{repaired_instructions}
use Rattle.repairs.specs.Warnings.{warnings_of}
use Rattle.repairs.specs.Repairs.{damaged_refusal, repaired_pairs_refusal, validated_reply}
use Rattle.repairs.proofs.Pushing.{fours}
use Rattle.repair_loops.specs.WarnsLoops.{if_taken}
use Rattle.repair_passes.specs.Mending.{MendLists, mend_lists, lent_refusal, mend_refusal, mend_warnings, Mends}
use Rattle.repair_passes.proofs.Sizes.{size}
use Rattle.repair_passes.proofs.Laws.{refused_by, all_written}

-- ---- of plain values

-- what the passes answer where they refuse nothing
passed_by : (r : ℕ) (left left' : ℤ) (n m : ℕ) → validated_reply (Fixed left n) ≡ reply_of r (left' ∷ pos m ∷ []) → (r ≡ 0) × (left ≡ left') × (n ≡ m)
passed_by zero left left' n m e =
    let q : ◌≡◌ {A = List ℤ} (left ∷ pos n ∷ []) (left' ∷ pos m ∷ []) = ap (λ (x : Reply). x.values) e in
    (refl, cc, cc)
passed_by (suc r) left left' n m e =
    let l : ◌≡◌ {A = ℕ} 0 (suc r) = ap (λ (x : Reply). x.number) e in
    absurd (omega arith)

-- the second number does not count where the first is 0
first_alone : (k x : ℕ) → (k ≡ 0 → x ≡ 0) → or_else k x ≡ k
first_alone zero x f = f refl
first_alone (suc k) x f = refl

-- a list that is written over, or left, has the same length
kept_length : {A : Type 0} (l l' xs : List A) (k : ℕ) → l' ≡ if_taken k (sets l 0 xs) l → length l' ≡ length l
kept_length l l' xs zero e = ap length e ∙ length-sets l 0 xs
kept_length l l' xs (suc k) e = ap length e

-- ---- the local lists, and what the passes leave; the warnings go to a list of the host's

pub record Left (d : Damaged) (lent : List ℤ) (work : List ℕ) : Type 0 where
  pub program : List ℤ
  pub passed : List ℕ
  pub program_long : count d.instructions ≤ 32767 → length program ≡ 4 * count d.instructions
  pub passed_long : count d.instructions ≤ 32767 → length passed ≡ count d.instructions
  pub mended : Validated
  pub lists : MendLists
  pub mends : Mends d (mend_lists program passed lent work) mended lists

-- 1 to 4 or 12: the numbers of the passes
abbrev pub passes_refusal : Damaged → List ℕ → ℕ
passes_refusal d work = or_else (damaged_refusal d) (repaired_pairs_refusal d (length work))

-- what is known where they refuse nothing
pub record Passed (d : Damaged) (lent : List ℤ) (work : List ℕ) (l : Left d lent work) (left : ℤ) (n : ℕ) : Type 0 where
  pub none : passes_refusal d work ≡ 0
  pub entry : left ≡ repaired_left d
  pub counted : n ≡ length (warnings_of d) / 4
  pub all : 4 * n ≡ length (warnings_of d)
  pub instructions : l.lists.program ≡ repaired_instructions d
  pub passthrough : l.lists.through ≡ repaired_passthrough d
  pub warned : l.lists.warnings ≡ sets lent 0 (warnings_of d)

module _ (d : Damaged) (lent : List ℤ) (work : List ℕ) (l : Left d lent work) where
  abbrev lists : MendLists
  lists = mend_lists l.program l.passed lent work

  -- the local lists fit
  lent_is : lent_refusal d lists ≡ damaged_refusal d
  lent_is =
      first_alone (damaged_refusal d) _
      (λ e. let few = size d e in rw (eq-eqb _ _ (l.program_long few), eq-eqb _ _ (l.passed_long few)))

  number_is : mend_refusal d lists ≡ passes_refusal d work
  number_is = ap (λ (k : ℕ). or_else k (repaired_pairs_refusal d (length work))) lent_is

  -- the warnings are as many places as were lent
  pub warnings_long : length l.lists.warnings ≡ length lent
  warnings_long =
      kept_length lent l.lists.warnings (mend_warnings d lists) (lent_refusal d lists) l.mends.warned

  pub cleared : l.lists.work ≡ replicate (length work) 0
  cleared = l.mends.cleared

  -- refused by them
  pub refused : (k : ℕ) → l.mended ≡ Refused k → (k ≡ passes_refusal d work) × (k ≡ 0 → ⊥)
  refused k is =
      let x = refused_by (mend_refusal d lists) k _ _ (ap validated_reply (sym is) ∙ l.mends.answer) in
      (x.0 ∙ number_is, x.1)

  -- refused by none of them
  pub passed : (left : ℤ) (n : ℕ) → l.mended ≡ Fixed left n → Passed d lent work l left n
  passed left n is =
      let told = passed_by (mend_refusal d lists) left _ n _ (ap validated_reply (sym is) ∙ l.mends.answer) in
      let neither = or_else_none (lent_refusal d lists) _ told.0 in
      record {
        none = sym number_is ∙ told.0;
        entry = told.1;
        counted = told.2;
        all = omega (arith, told.2, fours d);
        instructions = l.mends.instructions ∙ ap (λ (k : ℕ). if_taken k (repaired_instructions d) l.program) neither.0;
        passthrough = l.mends.passthrough ∙ ap (λ (k : ℕ). if_taken k (repaired_passthrough d) l.passed) neither.0;
        warned =
            l.mends.warned
            ∙ ap (λ (k : ℕ). if_taken k (sets lent 0 (mend_warnings d lists)) lent) neither.0
            ∙ ap (λ (ws : List ℤ). sets lent 0 ws) (all_written d lists neither.1);
      }
