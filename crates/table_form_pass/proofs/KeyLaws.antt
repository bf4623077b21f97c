-- A pair's place in the order, by the least key that it may have. Assumes nothing.
use mathlib.Core.Path.{◌≡◌, refl}
use mathlib.Core.Bool.{true, false}
use mathlib.Core.List.{List}
use Prim.Native.Nat.{ℕ, zero, suc, ◌<◌, ◌≤◌}
use native.Mathlib.Omega.{arith}
use lib.IntN.{ℤ}
use borrow.Author.Tests.{lt-ltb, le-ltb}
use Rattle.captions.specs.Tables.{key_at}
use Rattle.captions.specs.Form.{comes_after}
use Rattle.table_form_pass.specs.Parts.{least_at}

module _ (pairs : List ℤ) where
  pub after_least : (k : ℕ) → least_at pairs k ≤ key_at pairs k → comes_after pairs k ≡ true
  after_least zero h = refl
  after_least (suc k) h = lt-ltb (key_at pairs k) (key_at pairs (suc k)) (omega arith)

  pub not_after : (k : ℕ) → key_at pairs k < least_at pairs k → comes_after pairs k ≡ false
  not_after zero h = absurd (omega arith)
  not_after (suc k) h = le-ltb (key_at pairs k) (key_at pairs (suc k)) (omega arith)
