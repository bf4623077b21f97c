-- `repair_passes::handed_on` meets its contract: by what the search for loops answered.
-- Assumes nothing.
use mathlib.Core.Path.{sym, ap}
use Rattle.words.proofs.Bits.{number_word}
use Rattle.repair_passes.specs.Mending.{handed_on}
use borrow.Author.Rules.{rules}
use Rattle.repair_passes.proofs.handed_on.Statement.{statement}
use Rattle.repair_passes.proofs.handed_on.Tie as tie

enum-known-written : tie.Need-enum_known-written
enum-known-written c = search rules

enum-known-written-2 : tie.Need-enum_known-written-in-Count-1
enum-known-written-2 c = search rules

returns : tie.Need-returns-in-Refused
returns c = let a = c.args in ap (handed_on a.left) (sym c.in-Refused.is)

returns-2 : tie.Need-returns-in-Count
returns-2 c =
    rw (number_word c.args.left c.ranges.left) (ap (handed_on c.args.left) (sym c.in-Count.is))

pub handed_on_spec : {M : Type 1} → statement M
handed_on_spec =
    tie.close
    (tie.spec
    enum-known-written
    enum-known-written-2
    returns
    returns-2)
