-- `file_lengths::lengths_fit` meets its contract: its tests are those of the definition.
-- Assumes nothing.
use Prim.Native.Nat.{suc}
use native.Mathlib.Omega.{arith}
use borrow.Author.Tests.{le-leb, lt-leb}
use borrow.Author.Rules.{rules}
use Rattle.file_lengths.proofs.lengths_fit.Statement.{statement}
use Rattle.file_lengths.proofs.lengths_fit.Tie as tie

cast-if1 : tie.Need-overflow_cast-l
cast-if1 c = search rules

add-if1 : tie.Need-overflow_add-l
add-if1 c = search rules

cast-if1-2 : tie.Need-overflow_cast-l-2
cast-if1-2 c = search rules

returns : tie.Need-returns-then-l
returns c = let l = c.args.l in rw (lt-leb l.bc (suc l.ec) (omega (arith, c.if-l.true)))

returns-2 : tie.Need-returns-then-l-gt255
returns-2 c =
    let l = c.args.l in
    rw (le-leb l.bc (suc l.ec) (omega (arith, c.if-l.false)), lt-leb l.ec 255 c.if-l-gt255.true)

cast-result : tie.Need-overflow_cast-result
cast-result c = search rules

file-end-requires : tie.Need-file_end-requires
file-end-requires c κs = search rules

returns-3 : tie.Need-returns
returns-3 c =
    let l = c.args.l in
    rw (
      le-leb l.bc (suc l.ec) (omega (arith, c.if-l.false)),
      le-leb l.ec 255 (omega (arith, c.if-l-gt255.false)),
      c.file_end.ensures,
    )

pub lengths_fit_spec : {M : Type 1} → statement M
lengths_fit_spec =
    tie.close
    (tie.spec
    cast-if1
    add-if1
    cast-if1-2
    returns
    returns-2
    cast-result
    file-end-requires
    returns-3)
