-- `c_chip_read::open_stands` meets its contract: no word is open, or none that can be, or by its caller's count.
-- Assumes nothing.
use mathlib.Core.Path.{sym, ◌∙◌}
use borrow.Author.Tests.{not-true, not-false}
use Rattle.c_chip_read.proofs.Laws.{closed_stands, ready_stands, count_stands}
use borrow.Author.Rules.{rules}
use Rattle.c_chip_read.proofs.open_stands.Statement.{statement}
use Rattle.c_chip_read.proofs.open_stands.Tie as tie

shared-slice-read-flag-of : tie.Need-bounds-list-0
shared-slice-read-flag-of c = search rules

flag-of-requires : tie.Need-flag_of-requires
flag-of-requires c κs = search rules

returns : tie.Need-returns-then-not-flag_of
returns c =
    closed_stands c.args.list.now (sym c.flag_of.ensures ∙ c.if-not-flag_of.true)

shared-slice-read-flag-of-2 : tie.Need-bounds-list-2
shared-slice-read-flag-of-2 c = search rules

flag-of-requires-2 : tie.Need-flag_of-requires-2
flag-of-requires-2 c κs = search rules

returns-2 : tie.Need-returns-then-flag_of
returns-2 c =
    ready_stands c.args.list.now (sym c.flag_of.ensures ∙ c.if-not-flag_of.false)
    (sym c.flag_of-2.ensures ∙ c.if-flag_of.true)

shared-slice-read-caller : tie.Need-bounds-list-90
shared-slice-read-caller c = search rules

add-result : tie.Need-overflow_add-result
add-result c = search rules

mul-result : tie.Need-offset_bounds-list-caller
mul-result c = search rules

shared-slice-read-result : tie.Need-bounds-list-caller
shared-slice-read-result c = search rules

returns-3 : tie.Need-returns
returns-3 c =
    count_stands c.args.list.now (sym c.flag_of.ensures ∙ c.if-not-flag_of.false) (sym c.flag_of-2.ensures ∙ c.if-flag_of.false) c.requires.1

pub open_stands_spec : {M : Type 1} → statement M
open_stands_spec =
    tie.close
    (tie.spec
    shared-slice-read-flag-of
    flag-of-requires
    returns
    shared-slice-read-flag-of-2
    flag-of-requires-2
    returns-2
    shared-slice-read-caller
    add-result
    mul-result
    shared-slice-read-result
    returns-3)
