-- `phrase_put::put_decimal` meets its contract: the digits from the last one on, and then they are put.
-- Assumes nothing.
use mathlib.Core.Path.{refl}
use native.Mathlib.Omega.{arith}
use borrow.Author.Rules.{rules}
use Rattle.phrase_put.proofs.Decimals.{Spelling, spelling_none, first_left, spelling_more, written_long, puts_written}
use Rattle.phrase_put.proofs.put_decimal.Statement.{statement}
use Rattle.phrase_put.proofs.put_decimal.Tie as tie

abbrev invariant-loop : tie.invariant-loop-rest
invariant-loop out at n digits₀ first₀ rest₀ digits first rest = Spelling n digits first rest

abbrev decreases-loop : tie.decreases-loop-rest
decreases-loop out at n digits₀ first₀ rest₀ digits first rest = rest

loop-holds : tie.Need-loop-rest-init invariant-loop decreases-loop
loop-holds c = spelling_none c.args.n _ refl (omega arith)

cast-digits : tie.Need-overflow_cast-digits invariant-loop decreases-loop
cast-digits c = omega arith

add-digits : tie.Need-overflow_add-digits invariant-loop decreases-loop
add-digits c = omega arith

array-write-digits : tie.Need-bounds-digits-first invariant-loop decreases-loop
array-write-digits c = omega arith

sub-first : tie.Need-overflow_sub-first invariant-loop decreases-loop
sub-first c =
    first_left c.args.n c.loop-rest.digits c.loop-rest.first c.loop-rest.rest (omega arith) c.loop-rest.invariant

loop-less : tie.Need-loop-rest-smaller invariant-loop decreases-loop
loop-less c = omega arith

loop-again : tie.Need-loop-rest-preserved invariant-loop decreases-loop
loop-again c =
    spelling_more c.args.n c.loop-rest.digits c.loop-rest.first c.loop-rest.rest (omega arith) c.loop-rest.invariant

cast-digits-2 : tie.Need-overflow_cast-digits-2 invariant-loop decreases-loop
cast-digits-2 c = omega arith

add-digits-2 : tie.Need-overflow_add-digits-2 invariant-loop decreases-loop
add-digits-2 c = omega arith

array-write-digits-2 : tie.Need-bounds-digits-first-2 invariant-loop decreases-loop
array-write-digits-2 c = omega arith

sub-put-text : tie.Need-slice_bounds-put_text-count invariant-loop decreases-loop
sub-put-text c = omega arith

part-put-text-start : tie.Need-slice_bounds-put_text-start invariant-loop decreases-loop
part-put-text-start c = omega arith

part-put-text-end : tie.Need-slice_bounds-put_text-end invariant-loop decreases-loop
part-put-text-end c =
    omega (arith, written_long c.args.n c.loop-rest.digits c.loop-rest.first c.loop-rest.rest c.loop-rest.invariant)

put-text-requires : tie.Need-put_text-requires invariant-loop decreases-loop
put-text-requires c κs = tt

same_length : tie.Need-shape_of-out invariant-loop decreases-loop
same_length c = search rules

returns : tie.Need-returns invariant-loop decreases-loop
returns c =
    puts_written c.args.n c.loop-rest.digits c.loop-rest.first c.loop-rest.rest (omega arith) c.loop-rest.invariant c.put_text.ensures

pub put_decimal_spec : {M : Type 1} → statement M
put_decimal_spec =
    tie.close
    (tie.spec
    invariant-loop
    decreases-loop
    loop-holds
    cast-digits
    add-digits
    array-write-digits
    sub-first
    loop-less
    loop-again
    cast-digits-2
    add-digits-2
    array-write-digits-2
    sub-put-text
    part-put-text-start
    part-put-text-end
    put-text-requires
    same_length
    returns)
