-- `text_digits::put_top` meets its contract: one digit or two.
-- Assumes nothing.
use mathlib.Core.Path.{◌≡◌, sym, ap, ◌∙◌}
use mathlib.Core.List.{[], ◌∷◌}
use Prim.Native.Nat.{◌+◌, ◌-◌, ◌/◌, ◌%◌}
use native.Mathlib.Omega.{arith}
use lib.ListN.{length}
use lib.Seq.{sets}
use Rattle.text_digits.proofs.Decimal.{top_one, top_two}
use borrow.Author.Rules.{rules}
use Rattle.text_digits.proofs.put_top.Statement.{statement}
use Rattle.text_digits.proofs.put_top.Tie as tie

cast-out : tie.Need-overflow_cast-out
cast-out c = search rules

add-out : tie.Need-overflow_add-out
add-out c = search rules

sub_out : tie.Need-overflow_sub-out
sub_out c = search rules

slice-write-out : tie.Need-bounds-out-end
slice-write-out c = search rules

sub-result : tie.Need-overflow_sub-result
sub-result c = search rules

same_length : tie.Need-shape_of-out-then-n-lt10
same_length c = search rules

returns : tie.Need-returns-then-n-lt10
returns c =
    let e = top_one c.args.n c.if-n-lt10.true in
    (omega (arith, ap length e, c.requires), ap (sets c.args.out.now (c.args.end - 1)) (sym e))

sub-put-low : tie.Need-overflow_sub-end
sub-put-low c = search rules

put-low-requires : tie.Need-put_low-requires
put-low-requires c κs = search rules

sub-result-2 : tie.Need-overflow_sub-result-2
sub-result-2 c = search rules

same-length-2 : tie.Need-shape_of-out
same-length-2 c = search rules

returns-2 : tie.Need-returns
returns-2 c =
    let a = c.args in
    let e = top_two a.n c.if-n-lt10.false c.requires.0 in
    let tens : a.n / 10 % 10 ≡ a.n / 10 = omega (arith, c.requires.0) in (
      omega (arith, ap length e, c.requires),
      c.put_low.ensures.1 ∙ (λ t. sets a.out.now (a.end - 2) ((48 + tens t) ∷ (48 + a.n % 10) ∷ [])) ∙ ap (sets a.out.now (a.end - 2)) (sym e),
    )

pub put_top_spec : {M : Type 1} → statement M
put_top_spec =
    tie.close
    (tie.spec
    cast-out
    add-out
    sub_out
    slice-write-out
    sub-result
    same_length
    returns
    sub-put-low
    put-low-requires
    sub-result-2
    same-length-2
    returns-2)
