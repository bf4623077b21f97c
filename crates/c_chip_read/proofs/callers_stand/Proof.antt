-- `c_chip_read::callers_stand` meets its contract: the caller, and then each count.
-- Assumes nothing.
use mathlib.Core.Path.{◌∙◌}
use lib.ListN.{get_or}
use borrow.Author.Tests.{le-leb, lt-leb}
use Rattle.c_chip_read.proofs.Laws.{counts_tested}
use borrow.Author.Rules.{rules}
use Rattle.c_chip_read.proofs.callers_stand.Statement.{statement}
use Rattle.c_chip_read.proofs.callers_stand.Tie as tie

shared-slice-read-if1 : tie.Need-bounds-list-90
shared-slice-read-if1 c = search rules

returns : tie.Need-returns-then-list-gt7
returns c = let s = c.args.list.now in rw (lt-leb (get_or s 90 0) 7 c.if-list-gt7.true)

sub-are-words : tie.Need-slice_bounds-are_words-count
sub-are-words c = search rules

part-are-words-start : tie.Need-slice_bounds-are_words-start
part-are-words-start c = search rules

part-are-words-end : tie.Need-slice_bounds-are_words-end
part-are-words-end c = search rules

are-words-requires : tie.Need-are_words-requires
are-words-requires c κs = search rules

returns-2 : tie.Need-returns
returns-2 c =
    let s = c.args.list.now in
    rw (le-leb (get_or s 90 0) 7 c.if-list-gt7.false) (c.are_words.ensures ∙ counts_tested s c.requires)

pub callers_stand_spec : {M : Type 1} → statement M
callers_stand_spec =
    tie.close
    (tie.spec
    shared-slice-read-if1
    returns
    sub-are-words
    part-are-words-start
    part-are-words-end
    are-words-requires
    returns-2)
