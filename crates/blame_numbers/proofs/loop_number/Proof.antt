-- `blame_numbers::loop_number` meets its contract, arm by arm.
-- Assumes nothing.
use borrow.Author.Tests.{ne_eqb}
use borrow.Author.Rules.{rules}
use Rattle.blame_numbers.proofs.loop_number.Statement.{statement}
use Rattle.blame_numbers.proofs.loop_number.Tie as tie

enum_told : tie.Need-enum_told-1
enum_told c = search rules

enum-known-compiled : tie.Need-enum_known-compiled
enum-known-compiled c = search rules

returns : tie.Need-returns-in-Tables
returns c = rw c.in-Tables.is

returns-2 : tie.Need-returns-then-n-eq15
returns-2 c = rw (c.in-Refused.is, c.if-n-eq15.true)

returns-3 : tie.Need-returns-else-n-eq15
returns-3 c = rw (c.in-Refused.is, ne_eqb c.in-Refused.n 15 c.if-n-eq15.false)

pub loop_number_spec : {M : Type 1} → statement M
loop_number_spec =
    tie.close
    (tie.spec
    enum_told
    enum-known-compiled
    returns
    returns-2
    returns-3)
