-- `file_words::put_half` meets its contract: two stores, or none where the place is past the end.
-- Assumes nothing.
use mathlib.Core.Path.{◌∙◌}
use Prim.Native.Nat.{suc, ◌/◌, ◌%◌}
use native.Mathlib.Numerals.{add-one}
use lib.Seq.{set_out}
use native.Mathlib.Omega.{arith}
use borrow.Author.Rules.{rules}
use Rattle.file_words.proofs.put_half.Statement.{statement}
use Rattle.file_words.proofs.put_half.Tie as tie

cast-put-u8 : tie.Need-overflow_cast-n
cast-put-u8 c = search rules

put-item-requires : tie.Need-put_item-requires
put-item-requires c κs = search rules

add-put-u8 : tie.Need-overflow_add-at
add-put-u8 c = search rules

cast-put-u8-2 : tie.Need-overflow_cast-n-then-at-out
cast-put-u8-2 c = search rules

put-item-requires-2 : tie.Need-put_item-requires-then-at-out
put-item-requires-2 c κs = search rules

same_length : tie.Need-shape_of-out
same_length c = search rules

returns : tie.Need-returns-then-at-out
returns c =
    c.put_item-then-at-out.ensures ∙ rw (c.put_item.ensures, add-one)

returns-2 : tie.Need-returns-else-at-out
returns-2 c =
    let a = c.args in
    rw (set_out a.out.now a.at (a.n / 256 % 256) c.if-at-out.false, set_out a.out.now (suc a.at) (a.n % 256) (omega (arith, c.if-at-out.false)))

pub put_half_spec : {M : Type 1} → statement M
put_half_spec =
    tie.close
    (tie.spec
    cast-put-u8
    put-item-requires
    add-put-u8
    cast-put-u8-2
    put-item-requires-2
    same_length
    returns
    returns-2)
