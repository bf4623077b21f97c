-- `c_chip_write::put_zeros` meets its contract: zeros in the part up to place 82.
-- Assumes nothing.
use Rattle.c_chip_write.proofs.Laws.{zeros_put}
use borrow.Author.Rules.{rules}
use Rattle.c_chip_write.proofs.put_zeros.Statement.{statement}
use Rattle.c_chip_write.proofs.put_zeros.Tie as tie

mul-zero-u64 : tie.Need-offset_bounds-list-from
mul-zero-u64 c = search rules

sub-zero-u64 : tie.Need-slice_bounds-zero_all-count
sub-zero-u64 c = search rules

part-zero-u64-start : tie.Need-slice_bounds-zero_all-start
part-zero-u64-start c = search rules

part-zero-u64-end : tie.Need-slice_bounds-zero_all-end
part-zero-u64-end c = search rules

zero-all-requires : tie.Need-zero_all-requires
zero-all-requires c κs = search rules

same_length : tie.Need-shape_of-list
same_length c = search rules

returns : tie.Need-returns
returns c =
    zeros_put c.args.list.now c.zero_all.new.s c.args.from c.requires.0 c.requires.1 c.zero_all.ensures

pub put_zeros_spec : {M : Type 1} → statement M
put_zeros_spec =
    tie.close
    (tie.spec
    mul-zero-u64
    sub-zero-u64
    part-zero-u64-start
    part-zero-u64-end
    zero-all-requires
    same_length
    returns)
