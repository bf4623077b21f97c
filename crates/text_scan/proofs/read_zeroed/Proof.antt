-- `text_scan::read_zeroed` meets its contract. Assumes nothing.
use mathlib.Core.Path.{refl}
use Rattle.std.specs.Prelude as rust
use Rattle.text_scan.proofs.Ending.{reads_none}
use Rattle.text_scan.proofs.Clearing.{too_long, starts}
use borrow.Author.Rules.{rules}
use Rattle.text_scan.proofs.read_zeroed.Statement.{statement}
use Rattle.text_scan.proofs.read_zeroed.Tie as tie

returns : tie.Need-returns-then-text-gt65536
returns c =
    let a = c.args in
    reads_none a.text.now a.instructions.now a.kerns.now a.entries.now a.word.now rust.None (too_long a.text.now c.if-text-gt65536.true)
    refl

first-line-requires : tie.Need-first_line-requires
first-line-requires c κs = search rules

enum-known-first : tie.Need-enum_known-first
enum-known-first c = search rules

enum_told : tie.Need-enum_told-1
enum_told c = search rules

returns-2 : tie.Need-returns-in_default
returns-2 c =
    let a = c.args in
    reads_none a.text.now a.instructions.now a.kerns.now a.entries.now a.word.now rust.None
    (c.first_line.ensures.stuck c.in_default.is) refl

read-lines-requires : tie.Need-read_lines-requires
read-lines-requires c κs =
    let a = c.args in (
      (c.if-text-gt65536.false, c.requires.no_word),
      starts a.text.now c.in-At.first a.instructions.now a.kerns.now a.entries.now a.word.now c.requires
          (c.first_line.ensures.on c.in-At.first c.in-At.is),
    )

returns-3 : tie.Need-returns
returns-3 c = search rules

pub read_zeroed_spec : {M : Type 1} → statement M
read_zeroed_spec =
    tie.close
    (tie.spec
    returns
    first-line-requires
    enum-known-first
    enum_told
    returns-2
    read-lines-requires
    returns-3)
