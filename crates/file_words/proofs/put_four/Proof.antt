-- `file_words::put_four` meets its contract: two halves are stored, or as much of them as there is room for.
-- Assumes nothing.
use mathlib.Core.Path.{sym}
use Prim.Native.Nat.{◌+◌, ◌%◌}
use Rattle.files.specs.Sections.{byte_of, half_bytes}
use Rattle.file_words.specs.Fours.{four_bytes}
use Rattle.file_words.proofs.Bytes.{halves_put, sets_past}
use native.Mathlib.Omega.{arith}
use borrow.Author.Rules.{rules}
use Rattle.file_words.proofs.put_four.Statement.{statement}
use Rattle.file_words.proofs.put_four.Tie as tie

put-half-requires : tie.Need-put_half-requires
put-half-requires c κs = search rules

add-if2 : tie.Need-overflow_add-at
add-if2 c = search rules

add-put-half : tie.Need-overflow_add-at-then-at-out-2
add-put-half c = search rules

put-half-requires-2 : tie.Need-put_half-requires-then-at-out-2
put-half-requires-2 c κs = search rules

same_length : tie.Need-shape_of-out-then-at-out-2
same_length c = search rules

returns : tie.Need-returns-then-at-out-2
returns c =
    let a = c.args in
    halves_put a.out.now c.put_half.new.out c.put_half-then-at-out-2.new.out a.at a.w c.put_half.ensures c.put_half-then-at-out-2.ensures

same-length-2 : tie.Need-shape_of-out-else-at-out-2
same-length-2 c = search rules

returns-2 : tie.Need-returns-else-at-out-2
returns-2 c =
    let a = c.args in
    let d = c.put_half.new.out in
    halves_put a.out.now d d a.at a.w c.put_half.ensures
    (sym (sets_past (half_bytes (a.w % 65536)) d (a.at + 2) (omega (arith, c.if-at-out-2.false))))

returns-3 : tie.Need-returns-else-at-out
returns-3 c =
    let a = c.args in sym (sets_past (four_bytes (byte_of a.w)) a.out.now a.at c.if-at-out.false)

pub put_four_spec : {M : Type 1} → statement M
put_four_spec =
    tie.close
    (tie.spec
    put-half-requires
    add-if2
    add-put-half
    put-half-requires-2
    same_length
    returns
    same-length-2
    returns-2
    returns-3)
