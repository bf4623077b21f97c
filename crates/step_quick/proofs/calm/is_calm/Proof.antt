-- `step_quick::calm::is_calm` meets its contract, by its tests.
-- Assumes nothing.
use Prim.Native.Nat.{◌≤◌}
use native.Mathlib.Omega.{arith}
use Rattle.step_quick.specs.Quick.{plain_code}
use Rattle.step_quick.proofs.Laws.{calm_pending, calm_code, calm_read, calm_given, calm_ops}
use borrow.Author.Rules.{rules}
use Rattle.step_quick.proofs.calm.is_calm.Statement.{statement}
use Rattle.step_quick.proofs.calm.is_calm.Tie as tie

few : (c : tie.Else-plain_code-gt255) → plain_code c.args.s.next_left ≤ 255
few c = omega (arith, c.if-plain_code-gt255.false, c.plain_code.ensures)

returns : tie.Need-returns-then-s-ne0
returns c = let a = c.args in calm_pending a.ops.now a.word.now a.s c.if-s-ne0.true

plain-code-requires : tie.Need-plain_code-requires
plain-code-requires c κs = search rules

returns-2 : tie.Need-returns-then-plain_code-gt255
returns-2 c =
    let a = c.args in
    calm_code a.ops.now a.word.now a.s c.if-s-ne0.false (omega (arith, c.if-plain_code-gt255.true, c.plain_code.ensures))

returns-3 : tie.Need-returns-then-word-s
returns-3 c =
    let a = c.args in
    calm_read a.ops.now a.word.now a.s c.if-s-ne0.false (few c.before.before) c.if-word-s.true

returns-4 : tie.Need-returns-then-s
returns-4 c =
    let a = c.args in
    calm_given a.ops.now a.word.now a.s c.if-s-ne0.false (few c.before.before.before.before) c.if-word-s.false c.if-s.true

ops-placed-requires : tie.Need-ops_placed-requires
ops-placed-requires c κs = search rules

returns-5 : tie.Need-returns
returns-5 c =
    let a = c.args in
    calm_ops a.ops.now a.word.now a.s c.if-s-ne0.false (few (c.before.before.before.before.before)) c.if-word-s.false c.if-s.false
    c.ops_placed.result c.ops_placed.ensures

pub is_calm_spec : {M : Type 1} → statement M
is_calm_spec =
    tie.close
    (tie.spec
    returns
    plain-code-requires
    returns-2
    returns-3
    returns-4
    ops-placed-requires
    returns-5)
