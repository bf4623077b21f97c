-- `text_scan::lines::entry_line` meets its contract. Assumes nothing.
use Prim.Native.Nat.{◌+◌}
use lib.ListN.{drop}
use borrow.Author.Tests.{not-true, not-false}
use Rattle.text_scan.specs.Standing.{past_entry}
use Rattle.text_scan.proofs.Telling.{takes_none, takes_some}
use borrow.Author.Rules.{rules}
use Rattle.text_scan.proofs.lines.entry_line.Statement.{statement}
use Rattle.text_scan.proofs.lines.entry_line.Tie as tie

add-read-numbers : tie.Need-overflow_add-p
add-read-numbers c = search rules

read-numbers-requires : tie.Need-read_numbers-requires
read-numbers-requires c κs = search rules

returns : tie.Need-returns-then-not-read_numbers
returns c =
    let a = c.args in
    takes_none (drop (a.p.at + 1) a.text.now) 2 5040 a.p.entries (past_entry a.p) a.entries.now c.read_numbers.new.list c.read_numbers-arg-1.given.0.1
    c.requires.1 c.read_numbers.result c.read_numbers.ensures (c.if-not-read_numbers.true)

add-q : tie.Need-overflow_add-q
add-q c = search rules

add-q-2 : tie.Need-overflow_add-q-2
add-q-2 c = search rules

returns-2 : tie.Need-returns
returns-2 c =
    let a = c.args in
    takes_some (drop (a.p.at + 1) a.text.now) 2 5040 a.p.entries (past_entry a.p) a.entries.now c.read_numbers.new.list c.read_numbers-arg-1.given.0.1
    c.requires.1 c.read_numbers.result c.read_numbers.ensures (c.if-not-read_numbers.false)

pub entry_line_spec : {M : Type 1} → statement M
entry_line_spec =
    tie.close
    (tie.spec
    add-read-numbers
    read-numbers-requires
    returns
    add-q
    add-q-2
    returns-2)
