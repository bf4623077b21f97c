-- `chip_begin::may_begin` meets its contract: the first test that fails, or the last.
-- Assumes nothing.
use borrow.Author.Rules.{rules}
use Rattle.chip_begin.proofs.may_begin.Statement.{statement}
use Rattle.chip_begin.proofs.may_begin.Tie as tie

returns : tie.Need-returns-then-chip
returns c = search rules

is-ready-requires : tie.Need-is_ready-requires
is-ready-requires c κs = search rules

returns-2 : tie.Need-returns-then-is_ready
returns-2 c = rw (c.if-chip.false, ← c.is_ready.ensures, c.if-is_ready.true)

count-of-requires : tie.Need-count_of-requires
count-of-requires c κs = search rules

returns-3 : tie.Need-returns
returns-3 c = rw (c.if-chip.false, ← c.is_ready.ensures, c.if-is_ready.false, ← c.count_of.ensures)

pub may_begin_spec : {M : Type 1} → statement M
may_begin_spec =
    tie.close
    (tie.spec
    returns
    is-ready-requires
    returns-2
    count-of-requires
    returns-3)
