-- `c_chip_read::letters_stand` meets its contract: no more than 64, and each a byte.
-- Assumes nothing.
use mathlib.Core.Path.{◌∙◌}
use lib.ListN.{get_or}
use borrow.Author.Tests.{le-leb, lt-leb}
use Rattle.c_chip_read.proofs.Laws.{letters_tested}
use borrow.Author.Rules.{rules}
use Rattle.c_chip_read.proofs.letters_stand.Statement.{statement}
use Rattle.c_chip_read.proofs.letters_stand.Tie as tie

shared-slice-read-n : tie.Need-bounds-list-1
shared-slice-read-n c = search rules

returns : tie.Need-returns-then-n-gt64
returns c = let s = c.args.list.now in rw (lt-leb (get_or s 1 0) 64 c.if-n-gt64.true)

add-end : tie.Need-overflow_add-end
add-end c = search rules

sub-are-bytes : tie.Need-slice_bounds-are_bytes-count
sub-are-bytes c = search rules

part-are-bytes-start : tie.Need-slice_bounds-are_bytes-start
part-are-bytes-start c = search rules

part-are-bytes-end : tie.Need-slice_bounds-are_bytes-end
part-are-bytes-end c = search rules

are-bytes-requires : tie.Need-are_bytes-requires
are-bytes-requires c κs = search rules

returns-2 : tie.Need-returns
returns-2 c =
    let s = c.args.list.now in
    rw (le-leb (get_or s 1 0) 64 c.if-n-gt64.false) (c.are_bytes.ensures ∙ letters_tested s c.requires c.if-n-gt64.false)

pub letters_stand_spec : {M : Type 1} → statement M
letters_stand_spec =
    tie.close
    (tie.spec
    shared-slice-read-n
    returns
    add-end
    sub-are-bytes
    part-are-bytes-start
    part-are-bytes-end
    are-bytes-requires
    returns-2)
