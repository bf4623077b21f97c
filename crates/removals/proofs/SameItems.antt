-- Two lists of items are the same exactly where both runs come to their end and the numbers are equal.
-- Assumes nothing.
use mathlib.Core.Path.{◌≡◌}
use mathlib.Core.Bool.{true}
use Prim.Native.Nat.{ℕ}
use lib.Dec.{eqb}
use borrow.Author.Tests.{eq-eqb, eqb-true}
use Rattle.lang.specs.Answers.{Reply}
use Rattle.lang.proofs.Every.{both_left, both_right}
use Rattle.repairs.specs.Committing.{same_numbers}
use Rattle.repairs.proofs.Committing.{same_when_equal}
use Rattle.removals.specs.Items.{same_items}

pub record Same (a b : Reply) : Type 0 where
  pub first : a.number ≡ 0
  pub second : b.number ≡ 0
  pub values : a.values ≡ b.values

pub same_holds : (a b : Reply) → same_items a b ≡ true → Same a b
same_holds a b e =
    let h = both_right (eqb a.number 0) _ e in
    record {
      first = eqb-true a.number 0 (both_left (eqb a.number 0) _ e);
      second = eqb-true b.number 0 (both_left (eqb b.number 0) _ h);
      values = (same_when_equal a.values b.values).0 (both_right (eqb b.number 0) _ h);
    }

pub same_is : (a b : Reply) → Same a b → same_items a b ≡ true
same_is a b h = rw (eq-eqb a.number 0 h.first, eq-eqb b.number 0 h.second, (same_when_equal a.values b.values).1 h.values)
