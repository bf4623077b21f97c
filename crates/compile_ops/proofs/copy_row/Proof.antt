-- `compile_ops::copy_row` meets its contract: a copy from where the row says that its ops stand.
-- Assumes nothing.
use native.Mathlib.Omega.{arith}
use Rattle.compiling.proofs.OpTables.{copies_apart, copied_row}
use borrow.Author.Rules.{rules}
use Rattle.compile_ops.proofs.copy_row.Statement.{statement}
use Rattle.compile_ops.proofs.copy_row.Tie as tie

get-requires : tie.Need-get-requires
get-requires c κs = search rules

cast-from : tie.Need-overflow_cast-from
cast-from c = search rules

mul-from : tie.Need-overflow_mul-from
mul-from c = search rules

get-requires-2 : tie.Need-get-requires-2
get-requires-2 c κs = search rules

cast-count : tie.Need-overflow_cast-count
cast-count c = search rules

mul-count : tie.Need-overflow_mul-count
mul-count c = search rules

copy-numbers-requires : tie.Need-copy_numbers-requires
copy-numbers-requires c κs =
    let x = c.get.ensures in
    let y = c.get-2.ensures in
    (omega (arith, c.requires.there, x, y), omega (arith, c.requires.room, y), copies_apart c.args.work.now c.args.p c.args.k x y c.requires.apart)

add-result : tie.Need-overflow_add-result
add-result c = search rules

same_length : tie.Need-shape_of-ops
same_length c = search rules

returns : tie.Need-returns
returns c =
    let a = c.args in
    copied_row a.work.now a.k a.p c.get.result c.get-2.result a.ops.now c.copy_numbers.new.ops c.get.ensures c.get-2.ensures
    c.copy_numbers.ensures

pub copy_row_spec : {M : Type 1} → statement M
copy_row_spec =
    tie.close
    (tie.spec
    get-requires
    cast-from
    mul-from
    get-requires-2
    cast-count
    mul-count
    copy-numbers-requires
    add-result
    same_length
    returns)
