-- `repair_places::write_repaired` meets its contract: proofs/Copying, by the number.
-- Assumes nothing.
use Rattle.repair_places.proofs.Copying.{not_written, written}
use borrow.Author.Rules.{rules}
use Rattle.repair_places.proofs.write_repaired.Statement.{statement}
use Rattle.repair_places.proofs.write_repaired.Tie as tie

zero-i32-requires : tie.Need-zero_all-requires
zero-i32-requires c κs = search rules

zero-u8-requires : tie.Need-zero_all-requires-2
zero-u8-requires c κs = search rules

same_length : tie.Need-shape_of-fixed-then-number-ne0
same_length c = search rules

same-length-2 : tie.Need-shape_of-through-then-number-ne0
same-length-2 c = search rules

returns : tie.Need-returns-then-number-ne0
returns c =
    let a = c.args in
    not_written a.number a.program.now a.passed.now a.fixed.now a.through.now c.zero_all.ensures c.zero_all-2.ensures c.if-number-ne0.true

copy-numbers-requires : tie.Need-copy_numbers-requires
copy-numbers-requires c κs = search rules

copy-bytes-requires : tie.Need-copy_bytes-requires
copy-bytes-requires c κs = search rules

same-length-3 : tie.Need-shape_of-fixed
same-length-3 c = search rules

same-length-4 : tie.Need-shape_of-through
same-length-4 c = search rules

returns-2 : tie.Need-returns
returns-2 c =
    let a = c.args in
    written a.number a.program.now a.passed.now a.fixed.now a.through.now c.zero_all.ensures c.zero_all-2.ensures c.if-number-ne0.false
    c.copy_numbers.ensures c.copy_bytes.ensures

pub write_repaired_spec : {M : Type 1} → statement M
write_repaired_spec =
    tie.close
    (tie.spec
    zero-i32-requires
    zero-u8-requires
    same_length
    same-length-2
    returns
    copy-numbers-requires
    copy-bytes-requires
    same-length-3
    same-length-4
    returns-2)
