-- Proves what specs/Purpose states. Assumes nothing.
use mathlib.Core.Path.{◌≡◌, refl, sym, ap, ◌∙◌}
use mathlib.Core.Bool.{Bool, true, false, cond}
use mathlib.Core.List.{List}
use Prim.Native.Nat.{ℕ, suc, ◌+◌, ◌-◌, ◌<◌, ◌≤◌}
use native.Mathlib.Omega.{arith}
use lib.IntN.{ℤ}
use lib.Dec.{ltb, leb, eqb}
use lib.ListN.{length, get_or}
use borrow.Author.Tests.{lt-ltb, le-leb, eq-eqb}
use Rattle.captions.specs.declared.RunOptions.{RunOptions}
use Rattle.captions.specs.declared.State.{State}
use Rattle.captions.specs.Tables.{op_count, first_op, count_of, last_code, last_flag}
use Rattle.lang.proofs.Checks.{letter_low}
use Rattle.step_quick.proofs.Theorems.{quick_is, placed_few}
use Rattle.step_quick_pair.specs.Purpose.{PairKerns, PairMoves}
use Rattle.step_quick_pair.proofs.Laws.{pair_is}

pub pair_kerns : PairKerns
pair_kerns pairs ops boundary word options s k h e =
    let q = quick_is ops boundary word options s h in
    let d = q.calm in
    let p = pair_is pairs ops k e in
    let first = first_op pairs k in
    let one : count_of pairs k - 1 ≡ 1 = omega (arith, p.two) in
    rw (
      one,
      p.unflagged,
      le-leb (last_code pairs k) 255 p.code,
      letter_low (last_code pairs k) (omega (arith, p.code)),
      le-leb (suc s.read) (length word) (omega (arith, q.there)),
      le-leb (suc s.given) (suc s.read) (omega (arith, q.waits)),
      le-leb 0 (suc s.read) (omega arith),
      placed_few ops boundary word options s d,
      le-leb (suc first + 1) (op_count ops) (omega (arith, p.among)),
      d.override,
      d.taken,
      p.kern,
    )

pub pair_moves : PairMoves
pair_moves pairs ops boundary word options s k h e l y =
    let q = quick_is ops boundary word options s h in
    let d = q.calm in
    let p = pair_is pairs ops k e in
    let first = first_op pairs k in
    let none : count_of pairs k - 1 - 1 ≡ 0 = omega (arith, p.two) in
    rw (
      none,
      p.unflagged,
      lt-ltb (suc s.read) (length word) l,
      lt-ltb (suc s.given) (suc s.read) (omega (arith, q.waits)),
      y,
      le-leb (last_code pairs k) 255 p.code,
      letter_low (last_code pairs k) (omega (arith, p.code)),
      le-leb (suc s.read) (length word) (omega arith),
      le-leb (suc s.given) (suc s.read) (omega (arith, q.waits)),
      le-leb 0 (suc s.read) (omega arith),
      placed_few ops boundary word options s d,
      le-leb (suc (suc first) + 0) (op_count ops) (omega (arith, p.among)),
      d.override,
      d.taken,
    )
