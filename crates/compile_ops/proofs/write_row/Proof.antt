-- `compile_ops::write_row` meets its contract: the first part, and after it the second, whose first character becomes a ligature. What is written does not
-- touch the rows that are copied from.
-- Assumes nothing.
use mathlib.Core.Path.{refl}
use Rattle.compiling.specs.OpSteps.{first_part, second_part}
use Rattle.compiling.proofs.OpLaws.{last_of}
use Rattle.compiling.proofs.OpTables.{first_fits, first_done, second_fits, second_done, raise_fits, row_done}
use borrow.Author.Rules.{rules}
use Rattle.compile_ops.proofs.write_row.Statement.{statement}
use Rattle.compile_ops.proofs.write_row.Tie as tie

get-requires : tie.Need-get-requires
get-requires c κs = search rules

cast-from : tie.Need-overflow_cast-from
cast-from c = search rules

mul-from : tie.Need-overflow_mul-from
mul-from c = search rules

write-first-requires : tie.Need-write_first-next-requires
write-first-requires c κs =
    let a = c.args in (
      c.requires.ready.encoded,
      c.requires.row,
      first_fits a.n a.work.now a.k a.ops.now c.requires c.get.result (first_part a.n a.work.now a.k)
          c.get.ensures refl,
    )

write-second-requires : tie.Need-write_second-end-requires
write-second-requires c κs =
    let a = c.args in
    let done = first_done a.n a.work.now a.k a.ops.now c.requires c.get.result (first_part a.n a.work.now a.k)
    c.write_first-next.new.ops c.write_first-next.result c.get.ensures refl c.write_first-next.ensures in (
      c.requires.ready.encoded,
      c.requires.row,
      last_of a.n c.requires.finished a.work.now c.requires.ready.encoded c.requires.ready.settled a.k c.requires.row c.requires.status,
      second_fits a.n a.work.now a.k a.ops.now c.requires c.write_first-next.new.ops c.write_first-next.result done
          (second_part a.n a.work.now a.k) refl,
    )

raise-first-requires : tie.Need-raise_first-requires
raise-first-requires c κs =
    let a = c.args in
    let done = first_done a.n a.work.now a.k a.ops.now c.requires c.get.result (first_part a.n a.work.now a.k)
    c.write_first-next.new.ops c.write_first-next.result c.get.ensures refl c.write_first-next.ensures in
    let more = second_done a.n a.work.now a.k a.ops.now c.requires c.write_first-next.new.ops c.write_first-next.result done
    (second_part a.n a.work.now a.k) c.write_second-end.new.ops c.write_second-end.result refl c.write_second-end.ensures in
    raise_fits a.n a.work.now a.k a.ops.now c.requires c.write_first-next.new.ops c.write_first-next.result done c.write_second-end.new.ops
    c.write_second-end.result more

same_length : tie.Need-shape_of-ops
same_length c = search rules

returns : tie.Need-returns
returns c =
    let a = c.args in
    let done = first_done a.n a.work.now a.k a.ops.now c.requires c.get.result (first_part a.n a.work.now a.k)
    c.write_first-next.new.ops c.write_first-next.result c.get.ensures refl c.write_first-next.ensures in
    let more = second_done a.n a.work.now a.k a.ops.now c.requires c.write_first-next.new.ops c.write_first-next.result done
    (second_part a.n a.work.now a.k) c.write_second-end.new.ops c.write_second-end.result refl c.write_second-end.ensures in
    row_done a.n a.work.now a.k a.ops.now c.requires c.write_first-next.new.ops c.write_first-next.result done c.write_second-end.new.ops
    c.write_second-end.result more c.raise_first.new.ops c.raise_first.ensures

pub write_row_spec : {M : Type 1} → statement M
write_row_spec =
    tie.close
    (tie.spec
    get-requires
    cast-from
    mul-from
    write-first-requires
    write-second-requires
    raise-first-requires
    same_length
    returns)
