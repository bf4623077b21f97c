-- `pl_write_refusals::shows_all` meets its contract: the tests in the order of the definition.
-- Assumes nothing.
use borrow.Author.Tests.{not-true, not-false}
use Rattle.pl_write_refusals.proofs.Shown.{both_not, both_rest, left_passed}
use borrow.Author.Rules.{rules}
use Rattle.pl_write_refusals.proofs.shows_all.Statement.{statement}
use Rattle.pl_write_refusals.proofs.shows_all.Tie as tie

instructions-shown-requires : tie.Need-instructions_shown-requires
instructions-shown-requires c κs = search rules

returns : tie.Need-returns-then-not-instructions_shown
returns c =
    both_not _ c.instructions_shown.ensures (c.if-not-instructions_shown.true)

kerns-shown-requires : tie.Need-kerns_shown-requires
kerns-shown-requires c κs = search rules

returns-2 : tie.Need-returns-then-not-kerns_shown
returns-2 c =
    both_rest c.instructions_shown.ensures (c.if-not-instructions_shown.false) (both_not _ c.kerns_shown.ensures (c.if-not-kerns_shown.true))

entries-shown-requires : tie.Need-entries_shown-requires
entries-shown-requires c κs = search rules

returns-3 : tie.Need-returns-then-not-entries_shown
returns-3 c =
    both_rest c.instructions_shown.ensures (c.if-not-instructions_shown.false) (both_rest c.kerns_shown.ensures (c.if-not-kerns_shown.false)
    (both_not _ c.entries_shown.ensures (c.if-not-entries_shown.true)))

word-of-requires : tie.Need-word_of-requires
word-of-requires c κs = search rules

is-left-shown-requires : tie.Need-is_left_shown-requires
is-left-shown-requires c κs = search rules

returns-4 : tie.Need-returns
returns-4 c =
    both_rest c.instructions_shown.ensures (c.if-not-instructions_shown.false) (both_rest c.kerns_shown.ensures (c.if-not-kerns_shown.false)
    (both_rest c.entries_shown.ensures (c.if-not-entries_shown.false) (left_passed _ c.ranges.left_entry c.word_of.ensures
    c.is_left_shown.ensures)))

pub shows_all_spec : {M : Type 1} → statement M
shows_all_spec =
    tie.close
    (tie.spec
    instructions-shown-requires
    returns
    kerns-shown-requires
    returns-2
    entries-shown-requires
    returns-3
    word-of-requires
    is-left-shown-requires
    returns-4)
