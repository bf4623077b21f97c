-- `text_fields::blanks::two` meets its contract. Assumes nothing.
use Prim.Native.Nat.{◌+◌, ◌<◌}
use native.Mathlib.Omega.{arith}
use borrow.Author.Rules.{rules}
use Rattle.text_fields.proofs.Leading.{two_are}
use Rattle.text_fields.proofs.blanks.two.Statement.{statement}
use Rattle.text_fields.proofs.blanks.two.Tie as tie

shared-slice-read-wide : tie.Need-bounds-text-at
shared-slice-read-wide c = search rules

wide-requires : tie.Need-wide-requires
wide-requires c κs = search rules

add_wide : tie.Need-overflow_add-at
add_wide c = search rules

shared-slice-read-wide-2 : tie.Need-bounds-text-at-2
shared-slice-read-wide-2 c = search rules

wide-requires-2 : tie.Need-wide-requires-2
wide-requires-2 c κs = search rules

-- each is a byte
first : (c : tie.After-wide-2) → c.wide.result < 256
first c = omega (arith, c.shared_slice_known-2-1.given c.args.at)

second : (c : tie.After-wide-2) → c.wide-2.result < 256
second c = omega (arith, c.shared_slice_known-3-1.given (c.args.at + 1))

mul-result : tie.Need-overflow_mul-result
mul-result c = omega (arith, second c)

add-result : tie.Need-overflow_add-result
add-result c = omega (arith, first c, second c)

returns : tie.Need-returns
returns c =
    let a = c.args in
    rw (c.wide.ensures, c.wide-2.ensures) (two_are a.text.now a.at (omega (arith, first c)) (omega (arith, second c)))

pub two_spec : {M : Type 1} → statement M
two_spec =
    tie.close
    (tie.spec
    shared-slice-read-wide
    wide-requires
    add_wide
    shared-slice-read-wide-2
    wide-requires-2
    mul-result
    add-result
    returns)
