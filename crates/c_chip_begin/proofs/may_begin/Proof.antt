-- `c_chip_begin::may_begin` meets its contract: the first test that fails, or the last.
-- Assumes nothing.
use mathlib.Core.Path.{sym, ◌∙◌}
use Rattle.c_chip_begin.proofs.Laws.{open_waits, ready_waits, above_begins, counted_begins}
use borrow.Author.Rules.{rules}
use Rattle.c_chip_begin.proofs.may_begin.Statement.{statement}
use Rattle.c_chip_begin.proofs.may_begin.Tie as tie

shared-slice-read-flag-of : tie.Need-bounds-list-0
shared-slice-read-flag-of c = search rules

flag-of-requires : tie.Need-flag_of-requires
flag-of-requires c κs = search rules

returns : tie.Need-returns-then-flag_of
returns c =
    let a = c.args in
    open_waits a.list.now a.caller (sym c.flag_of.ensures ∙ c.if-flag_of.true)

shared-slice-read-flag-of-2 : tie.Need-bounds-list-2
shared-slice-read-flag-of-2 c = search rules

flag-of-requires-2 : tie.Need-flag_of-requires-2
flag-of-requires-2 c κs = search rules

returns-2 : tie.Need-returns-then-flag_of-2
returns-2 c =
    let a = c.args in
    ready_waits a.list.now a.caller (sym c.flag_of.ensures ∙ c.if-flag_of.false) (sym c.flag_of-2.ensures ∙ c.if-flag_of-2.true)

returns-3 : tie.Need-returns-then-caller-gt7
returns-3 c =
    above_begins c.args.list.now c.args.caller c.requires (sym c.flag_of.ensures ∙ c.if-flag_of.false) (sym c.flag_of-2.ensures ∙ c.if-flag_of-2.false)
    c.if-caller-gt7.true

add-result : tie.Need-overflow_add-result
add-result c = search rules

mul-result : tie.Need-offset_bounds-list-caller
mul-result c = search rules

shared-slice-read-result : tie.Need-bounds-list-caller
shared-slice-read-result c = search rules

returns-4 : tie.Need-returns
returns-4 c =
    let a = c.args in
    counted_begins a.list.now a.caller (sym c.flag_of.ensures ∙ c.if-flag_of.false) (sym c.flag_of-2.ensures ∙ c.if-flag_of-2.false) c.if-caller-gt7.false

pub may_begin_spec : {M : Type 1} → statement M
may_begin_spec =
    tie.close
    (tie.spec
    shared-slice-read-flag-of
    flag-of-requires
    returns
    shared-slice-read-flag-of-2
    flag-of-requires-2
    returns-2
    returns-3
    add-result
    mul-result
    shared-slice-read-result
    returns-4)
