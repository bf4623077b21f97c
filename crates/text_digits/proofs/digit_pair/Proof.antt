-- `text_digits::digit_pair` meets its contract: below 100, 103 of 1024 parts are a tenth.
-- Assumes nothing.
use mathlib.Core.Path.{◌≡◌}
use Prim.Native.Nat.{◌+◌, ◌-◌, ◌*◌, ◌/◌, ◌%◌}
use native.Mathlib.Omega.{arith}
use borrow.Author.Tests.{lt-ltb, le-ltb}
use borrow.Author.Rules.{rules}
use Rattle.text_digits.proofs.digit_pair.Statement.{statement}
use Rattle.text_digits.proofs.digit_pair.Tie as tie

returns : tie.Need-returns-then-n-gt99
returns c = rw (le-ltb c.args.n 100 (omega (arith, c.if-n-gt99.true)))

mul-tens : tie.Need-overflow_mul-tens
mul-tens c = search rules

mul-result : tie.Need-overflow_mul-result
mul-result c = search rules

add-result : tie.Need-overflow_add-result
add-result c = search rules

mul-result-2 : tie.Need-overflow_mul-result-2
mul-result-2 c = search rules

sub-result : tie.Need-overflow_sub-result
sub-result c = search rules

returns-2 : tie.Need-returns
returns-2 c =
    let n = c.args.n in
    let tens : n * 103 / 1024 ≡ n / 10 = omega (arith, c.if-n-gt99.false) in
    let both : 256 * n + 12336 - 2559 * (n / 10) ≡ 48 + n / 10 + 256 * (48 + n % 10) = omega (arith, c.if-n-gt99.false) in
    rw (lt-ltb n 100 (omega (arith, c.if-n-gt99.false)), tens, both)

pub digit_pair_spec : {M : Type 1} → statement M
digit_pair_spec =
    tie.close
    (tie.spec
    returns
    mul-tens
    mul-result
    add-result
    mul-result-2
    sub-result
    returns-2)
