-- `lang::operation::retains_unmoved` meets its contract: `retains` at an advance of 0, case by case. Assumes nothing.
use mathlib.Core.Path.{◌≡◌}
use Prim.Native.Nat.{suc, ◌-◌}
use native.Mathlib.Omega.{arith}
use borrow.Author.Rules.{rules}
use Rattle.lang.proofs.operation.retains_unmoved.Statement.{statement}
use Rattle.lang.proofs.operation.retains_unmoved.Tie as tie

returns : tie.Need-returns-then-right-eq0
returns c = search rules

returns-2 : tie.Need-returns-else-right-eq0
returns-2 c =
    let a = c.args in
    let l : a.left ≡ 0 = omega arith in
    let r : a.right ≡ suc (a.right - 1) = omega arith in
    rw (l, r)

returns-3 : tie.Need-returns-then-right-eq0-2
returns-3 c =
    let a = c.args in
    let l : a.left ≡ suc (a.left - 1) = omega arith in
    let r : a.right ≡ 0 = omega arith in
    rw (l, r)

returns-4 : tie.Need-returns-else-right-eq0-2
returns-4 c =
    let a = c.args in
    let l : a.left ≡ suc (a.left - 1) = omega arith in
    let r : a.right ≡ suc (a.right - 1) = omega arith in
    rw (l, r)

pub retains_unmoved_spec : {M : Type 1} → statement M
retains_unmoved_spec =
    tie.close
    (tie.spec
    returns
    returns-2
    returns-3
    returns-4)
