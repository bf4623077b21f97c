-- `pl_reals::real_from` meets its contract.
-- Assumes nothing.
use mathlib.Core.Path.{◌≡◌}
use Prim.Native.Nat.{◌+◌, ◌*◌}
use lib.ListN.{drop}
use borrow.Author.Tests.{lt-ltb, le-ltb}
use Rattle.property_lists.specs.Reals.{real_decimals}
use Rattle.property_lists.specs.Values.{decimals_at}
use Rattle.pl_values.proofs.Scanning.{scanned_at, scanned_none}
use borrow.Author.Rules.{rules}
use native.Mathlib.Omega.{arith}
use Rattle.pl_reals.proofs.real_from.Statement.{statement}
use Rattle.pl_reals.proofs.real_from.Tie as tie

decimals-at-requires : tie.Need-decimals_at-decimals-requires
decimals-at-requires c κs = search rules

long-requires : tie.Need-long-requires
long-requires c κs = search rules

mul-m : tie.Need-overflow_mul-m
mul-m c = search rules

long-requires-2 : tie.Need-long-requires-2
long-requires-2 c κs = search rules

add-m : tie.Need-overflow_add-m
add-m c = search rules

cast-bits-of : tie.Need-overflow_cast-m
cast-bits-of c = search rules

bits-of-requires : tie.Need-bits_of-requires
bits-of-requires c κs = search rules

returns : tie.Need-returns-then-m-lt2147483648
returns c =
    let args = c.args in
    let d = c.decimals_at-decimals.ensures in
    let m : 1048576 * args.whole + real_decimals (decimals_at (drop args.at args.text.now)) ≡ 1048576 * c.long.result + c.long-2.result =
    rw (c.long.ensures, c.long-2.ensures, d.value_is) in
    let l = lt-ltb (1048576 * c.long.result + c.long-2.result) 2147483648 c.if-m-lt2147483648.true in
    scanned_at _ (rw (m, l) (rw (c.bits_of.ensures, d.rest))) (λ _. omega (arith, d.low)) d.high

returns-2 : tie.Need-returns
returns-2 c =
    let args = c.args in
    let d = c.decimals_at-decimals.ensures in
    let m : 1048576 * args.whole + real_decimals (decimals_at (drop args.at args.text.now)) ≡ 1048576 * c.long.result + c.long-2.result =
    rw (c.long.ensures, c.long-2.ensures, d.value_is) in
    scanned_none _ (rw (m, le-ltb (1048576 * c.long.result + c.long-2.result) 2147483648 c.if-m-lt2147483648.false))

pub real_from_spec : {M : Type 1} → statement M
real_from_spec =
    tie.close
    (tie.spec
    decimals-at-requires
    long-requires
    mul-m
    long-requires-2
    add-m
    cast-bits-of
    bits-of-requires
    returns
    returns-2)
