-- `text_scan::lines::next_line` meets its contract, by the letter. Assumes nothing.
use mathlib.Core.Path.{refl}
use lib.ListN.{get_or}
use Rattle.text_scan.proofs.Letters.{instructions_fit, kerns_fit, entries_fit, instruction_goes, kern_goes_lem, entry_goes, boundary_goes, left_goes_lem}
use Rattle.text_scan.proofs.Letters.{other_goes}
use borrow.Author.Rules.{rules}
use Rattle.text_scan.proofs.lines.next_line.Statement.{statement}
use Rattle.text_scan.proofs.lines.next_line.Tie as tie

shared-slice-read-letter : tie.Need-bounds-text-at
shared-slice-read-letter c = search rules

instruction-line-requires : tie.Need-instruction_line-requires
instruction-line-requires c κs =
    let a = c.args in
    (c.requires.0.0, instructions_fit a.text.now a.p a.instructions.now a.kerns.now a.entries.now c.requires.1 c.requires.0.0)

returns : tie.Need-returns-then-letter-eq73
returns c =
    let a = c.args in
    instruction_goes a.text.now a.p a.instructions.now a.kerns.now a.entries.now c.requires.1 c.requires.0.0 c.instruction_line.result
    c.instruction_line.new.instructions c.if-letter-eq73.true c.instruction_line.ensures

kern-line-requires : tie.Need-kern_line-requires
kern-line-requires c κs =
    let a = c.args in
    (c.requires.0.0, kerns_fit a.text.now a.p a.instructions.now a.kerns.now a.entries.now c.requires.1 c.requires.0.0)

returns-2 : tie.Need-returns-then-letter-eq75
returns-2 c =
    let a = c.args in
    kern_goes_lem a.text.now a.p a.instructions.now a.kerns.now a.entries.now c.requires.1 c.requires.0.0 c.kern_line.result
    c.kern_line.new.kerns c.if-letter-eq75.true c.kern_line.ensures

entry-line-requires : tie.Need-entry_line-requires
entry-line-requires c κs =
    let a = c.args in
    (c.requires.0.0, entries_fit a.text.now a.p a.instructions.now a.kerns.now a.entries.now c.requires.1 c.requires.0.0)

returns-3 : tie.Need-returns-then-letter-eq69
returns-3 c =
    let a = c.args in
    entry_goes a.text.now a.p a.instructions.now a.kerns.now a.entries.now c.requires.1 c.requires.0.0 c.entry_line.result
    c.entry_line.new.entries c.if-letter-eq69.true c.entry_line.ensures

boundary-line-requires : tie.Need-boundary_line-requires
boundary-line-requires c κs = c.requires.0.0

returns-4 : tie.Need-returns-then-letter-eq82
returns-4 c =
    let a = c.args in
    boundary_goes a.text.now a.p a.instructions.now a.kerns.now a.entries.now c.requires.1 c.requires.0.0 c.boundary_line.result
    c.if-letter-eq82.true c.boundary_line.ensures

left-line-requires : tie.Need-left_line-requires
left-line-requires c κs = c.requires.0.0

returns-5 : tie.Need-returns-then-letter-eq76
returns-5 c =
    let a = c.args in
    left_goes_lem a.text.now a.p a.instructions.now a.kerns.now a.entries.now c.requires.1 c.requires.0.0 c.left_line.result c.if-letter-eq76.true
    c.left_line.ensures

returns-6 : tie.Need-returns
returns-6 c =
    let a = c.args in
    other_goes a.text.now a.p a.instructions.now a.kerns.now a.entries.now c.requires.1 c.requires.0.0 (get_or a.text.now a.p.at 0) refl
    c.if-letter-eq73.false c.if-letter-eq75.false c.if-letter-eq69.false c.if-letter-eq82.false c.if-letter-eq76.false c.requires.0.1

pub next_line_spec : {M : Type 1} → statement M
next_line_spec =
    tie.close
    (tie.spec
    shared-slice-read-letter
    instruction-line-requires
    returns
    kern-line-requires
    returns-2
    entry-line-requires
    returns-3
    boundary-line-requires
    returns-4
    left-line-requires
    returns-5
    returns-6)
