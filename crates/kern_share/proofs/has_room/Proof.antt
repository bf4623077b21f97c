-- `kern_share::has_room` meets its contract, by its tests. Assumes nothing.
use native.Mathlib.Omega.{arith}
use Prim.Native.Nat.{◌+◌}
use borrow.Author.Tests.{le-leb, lt-leb}
use borrow.Author.Rules.{rules}
use Rattle.kern_share.proofs.has_room.Statement.{statement}
use Rattle.kern_share.proofs.has_room.Tie as tie

returns : tie.Need-returns-then-k-gt65536
returns c = let a = c.args in rw (lt-leb (a.k + a.n) 65536 (omega arith))

returns-2 : tie.Need-returns-then-k-n
returns-2 c = let a = c.args in rw (lt-leb (a.k + a.n) 65536 (omega arith))

add-result : tie.Need-overflow_add-result
add-result c = search rules

returns-3 : tie.Need-returns
returns-3 c = let a = c.args in rw (le-leb (a.k + a.n) 65536 (omega arith))

pub has_room_spec : {M : Type 1} → statement M
has_room_spec =
    tie.close
    (tie.spec
    returns
    returns-2
    add-result
    returns-3)
