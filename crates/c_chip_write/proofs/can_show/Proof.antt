-- `c_chip_write::can_show` meets its contract: the first test that fails, or the last.
-- Assumes nothing.
use lib.ListN.{length, get_or}
use borrow.Author.Tests.{le-leb, lt-leb}
use borrow.Author.Rules.{rules}
use Rattle.c_chip_write.proofs.can_show.Statement.{statement}
use Rattle.c_chip_write.proofs.can_show.Tie as tie

returns : tie.Need-returns-then-list-lt91
returns c = let s = c.args.list.now in rw (lt-leb 91 (length s) c.if-list-lt91.true)

shared-slice-read-if2 : tie.Need-bounds-list-1
shared-slice-read-if2 c = search rules

returns-2 : tie.Need-returns-then-list-gt64
returns-2 c =
    let s = c.args.list.now in rw (le-leb 91 (length s) c.if-list-lt91.false, lt-leb (get_or s 1 0) 64 c.if-list-gt64.true)

shared-slice-read-caller : tie.Need-bounds-list-90
shared-slice-read-caller c = search rules

returns-3 : tie.Need-returns-then-caller-gt7
returns-3 c =
    let s = c.args.list.now in
    rw (le-leb 91 (length s) c.if-list-lt91.false, le-leb (get_or s 1 0) 64 c.if-list-gt64.false, lt-leb (get_or s 90 0) 7 c.if-caller-gt7.true)

add-result : tie.Need-overflow_add-result
add-result c = search rules

mul-result : tie.Need-offset_bounds-list-caller
mul-result c = search rules

shared-slice-read-result : tie.Need-bounds-list-caller
shared-slice-read-result c = search rules

returns-4 : tie.Need-returns
returns-4 c =
    let s = c.args.list.now in
    rw (le-leb 91 (length s) c.if-list-lt91.false, le-leb (get_or s 1 0) 64 c.if-list-gt64.false, le-leb (get_or s 90 0) 7 c.if-caller-gt7.false)

pub can_show_spec : {M : Type 1} → statement M
can_show_spec =
    tie.close
    (tie.spec
    returns
    shared-slice-read-if2
    returns-2
    shared-slice-read-caller
    returns-3
    add-result
    mul-result
    shared-slice-read-result
    returns-4)
