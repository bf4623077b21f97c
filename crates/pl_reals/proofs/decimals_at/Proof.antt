-- `pl_reals::decimals_at` meets its contract.
-- Assumes nothing.
use mathlib.Core.Path.{◌≡◌, refl, sym}
use mathlib.Core.List.{[]}
use Prim.Native.Nat.{◌+◌}
use lib.ListN.{get_or, drop}
use lib.Seq.{slice}
use borrow.Author.Tests.{eq-eqb, ne_eqb}
use Rattle.property_lists.specs.Reals.{decimal_sum, real_decimals}
use Rattle.property_lists.specs.Values.{decimals_at}
use Rattle.pl_blanks.proofs.Places.{at_byte, at_end_lem}
use Rattle.pl_reals.proofs.RealLaws.{first_seven}
use borrow.Author.Rules.{rules}
use native.Mathlib.Omega.{arith}
use Rattle.pl_reals.proofs.decimals_at.Statement.{statement}
use Rattle.pl_reals.proofs.decimals_at.Tie as tie

-- no decimals come to nothing
none-sum : 0 ≡ real_decimals []
unfolding decimal_sum
none-sum = refl

shared-slice-read-if2 : tie.Need-bounds-text-at
shared-slice-read-if2 c = search rules

add-figures-end : tie.Need-overflow_add-at
add-figures-end c = search rules

figures-end-requires : tie.Need-figures_end-end-requires
figures-end-requires c κs = search rules

add-smaller : tie.Need-overflow_add-at-then-text-at-eq46
add-smaller c = search rules

sub-smaller : tie.Need-overflow_sub-end
sub-smaller c = search rules

smaller-requires : tie.Need-min-seven-requires
smaller-requires c κs = search rules

add-decimal-sum : tie.Need-overflow_add-at-then-text-at-eq46-2
add-decimal-sum c = search rules

add-decimal-sum-2 : tie.Need-overflow_add-at-then-text-at-eq46-3
add-decimal-sum-2 c = search rules

add-decimal-sum-3 : tie.Need-overflow_add-at-then-text-at-eq46-4
add-decimal-sum-3 c = search rules

decimal-sum-requires : tie.Need-decimal_sum-requires
decimal-sum-requires c κs = search rules

add-value : tie.Need-overflow_add-value
add-value c = search rules

returns : tie.Need-returns-then-text-at-eq46
returns c =
    let args = c.args in
    let t = args.text.now in
    let f = c.figures_end-end.ensures in
    let e : decimals_at (drop args.at t) ≡ slice (args.at + 1) c.figures_end-end.result t =
    rw (at_byte t args.at c.if-at-text.true, eq-eqb (get_or t args.at 0) 46 c.if-text-at-eq46.true) f.digits in
    let s = first_seven t (args.at + 1) c.figures_end-end.result c.min-seven.result f.low f.high c.min-seven.ensures in
    record {
      value_is = rw (c.decimal_sum.ensures.0, e, s);
      rest = rw (at_byte t args.at c.if-at-text.true, eq-eqb (get_or t args.at 0) 46 c.if-text-at-eq46.true) (sym f.rest);
      low = omega (arith, f.low);
      high = f.high;
    }

returns-2 : tie.Need-returns-else-text-at-eq46
returns-2 c =
    let args = c.args in
    let pre = c.requires in
    let t = args.text.now in
    let e = ne_eqb (get_or t args.at 0) 46 c.if-text-at-eq46.false in
    record {
      value_is = rw (at_byte t args.at c.if-at-text.true, e) none-sum;
      rest = rw (at_byte t args.at c.if-at-text.true, e);
      low = omega arith;
      high = pre;
    }

returns-3 : tie.Need-returns-else-at-text
returns-3 c =
    let args = c.args in
    let pre = c.requires in
    let t = args.text.now in
    record { value_is = rw (at_end_lem t args.at c.if-at-text.false) none-sum; rest = rw (at_end_lem t args.at c.if-at-text.false); low = omega arith; high = pre }

pub decimals_at_spec : {M : Type 1} → statement M
decimals_at_spec =
    tie.close
    (tie.spec
    shared-slice-read-if2
    add-figures-end
    figures-end-requires
    add-smaller
    sub-smaller
    smaller-requires
    add-decimal-sum
    add-decimal-sum-2
    add-decimal-sum-3
    decimal-sum-requires
    add-value
    returns
    returns-2
    returns-3)
