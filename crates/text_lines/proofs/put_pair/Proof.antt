-- `text_lines::put_pair` meets its contract: the letter, five fields, a line feed.
-- Assumes nothing.
use mathlib.Core.Path.{◌≡◌, sym, ◌∙◌}
use mathlib.Core.Bool.{true, false}
use Prim.Native.Nat.{◌+◌, ◌*◌, ◌^◌, ◌≤◌}
use native.Mathlib.Omega.{arith}
use lib.ListN.{length, set, length-set}
use Rattle.columns.specs.Replying.{pair_line}
use Rattle.text_justify.specs.InFields.{five_from}
use Rattle.text_justify.proofs.Fit.{fit_is, fits_where}
use Rattle.text_lines.specs.Writing.{line_bytes, lines_fit}
use Rattle.text_lines.proofs.Steps.{pair_puts}
use Rattle.text_lines.proofs.Taken.{pair_fits, where_taken, where_left}
use borrow.Author.Rules.{rules}
use Rattle.text_lines.proofs.put_pair.Statement.{statement}
use Rattle.text_lines.proofs.put_pair.Tie as tie

-- the line is taken; it is not
fitting : (c : tie.Else-not-lines_fit) → let a = c.args in lines_fit 5 a.k 1 a.at (length a.out.now) ≡ true
fitting c = sym c.lines_fit.ensures ∙ c.if-not-lines_fit.false

missing : (c : tie.Then-not-lines_fit) → let a = c.args in lines_fit 5 a.k 1 a.at (length a.out.now) ≡ false
missing c = sym c.lines_fit.ensures ∙ c.if-not-lines_fit.true

room : (c : tie.Else-not-lines_fit) → let a = c.args in (a.at + 62 ≤ length a.out.now) × (a.k ≤ 2 ^ 60)
room c = let a = c.args in pair_fits a.k a.at (length a.out.now) (fitting c)

lines-fit-requires : tie.Need-lines_fit-requires
lines-fit-requires c κs = search rules

returns : tie.Need-returns-then-not-lines_fit
returns c =
    let a = c.args in
    where_left (lines_fit 5 a.k 1 a.at (length a.out.now)) (line_bytes (pair_line a.pairs.now a.k)) a.out.now a.at (missing c)

slice-write-out : tie.Need-bounds-out-at
slice-write-out c = omega (arith, room c)

mul-put-pair-fields : tie.Need-overflow_mul-k
mul-put-pair-fields c = omega (arith, room c)

add-put-pair-fields : tie.Need-overflow_add-at
add-put-pair-fields c = omega (arith, room c.before, c.well_formed)

put-pair-fields-requires : tie.Need-put_pair_fields-requires
put-pair-fields-requires c κs = search rules

add-out : tie.Need-overflow_add-out
add-out c = omega (arith, room (c.before.before.before.before), c.well_formed)

slice-write-out-2 : tie.Need-bounds-out-at-2
slice-write-out-2 c =
    let a = c.args in
    omega (arith, room (c.before.before.before.before), c.put_pair_fields.auto.out, length-set a.out.now a.at 80)

add-result : tie.Need-overflow_add-result
add-result c = omega (arith, room (c.before.before.before.before), c.well_formed)

same_length : tie.Need-shape_of-out
same_length c =
    let a = c.args in
    length-set c.put_pair_fields.new.out (a.at + 61) 10 ∙ c.put_pair_fields.auto.out ∙ length-set a.out.now a.at 80

returns-2 : tie.Need-returns
returns-2 c =
    let a = c.args in
    let l = set a.out.now a.at 80 in
    let fits = fit_is 9223372036854775808 (6 * a.k) 5 (a.at + 1) (length l) (omega arith) (omega (arith, (room (c.before.before.before.before)).1))
    (omega (arith, (room (c.before.before.before.before)).0, length-set a.out.now a.at 80)) in
    where_taken (lines_fit 5 a.k 1 a.at (length a.out.now)) (fitting (c.before.before.before.before))
    (pair_puts a.pairs.now a.k a.out.now c.put_pair_fields.new.out a.at
    (fits_where l (a.at + 1) (five_from a.pairs.now (6 * a.k)) fits c.put_pair_fields.ensures))

pub put_pair_spec : {M : Type 1} → statement M
put_pair_spec =
    tie.close
    (tie.spec
    lines-fit-requires
    returns
    slice-write-out
    mul-put-pair-fields
    add-put-pair-fields
    put-pair-fields-requires
    add-out
    slice-write-out-2
    add-result
    same_length
    returns-2)
