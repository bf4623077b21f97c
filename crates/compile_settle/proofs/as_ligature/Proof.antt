-- `compile_settle::as_ligature` meets its contract, by the arm that is taken.
-- Assumes nothing.
use borrow.Author.Rules.{rules}
use Rattle.compile_settle.proofs.as_ligature.Statement.{statement}
use Rattle.compile_settle.proofs.as_ligature.Tie as tie

enum-known-last : tie.Need-enum_known-last
enum-known-last c = search rules

enum-known-last-2 : tie.Need-enum_known-last-in-Waits-1
enum-known-last-2 c = search rules

returns : tie.Need-returns-in-Known
returns c = rw c.in-Known.is

returns-2 : tie.Need-returns-in-Waits
returns-2 c = rw c.in-Waits.is

pub as_ligature_spec : {M : Type 1} → statement M
as_ligature_spec =
    tie.close
    (tie.spec
    enum-known-last
    enum-known-last-2
    returns
    returns-2)
