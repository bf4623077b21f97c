-- `index::index_at` meets its contract: past the end `get_or` is its default.
-- Assumes nothing.
use mathlib.Core.Path.{sym}
use lib.ListN.{get_or-eq_default}
use borrow.Author.Rules.{rules}
use Rattle.index.proofs.index_at.Statement.{statement}
use Rattle.index.proofs.index_at.Tie as tie

mul-result : tie.Need-offset_bounds-index-i
mul-result c = search rules

shared-slice-read-result : tie.Need-bounds-index-i
shared-slice-read-result c = search rules

returns : tie.Need-returns-then-i-index
returns c = search rules

returns-2 : tie.Need-returns-else-i-index
returns-2 c = let a = c.args in sym (get_or-eq_default a.index.now 0 {n = a.i} c.if-i-index.false)

pub index_at_spec : {M : Type 1} → statement M
index_at_spec =
    tie.close
    (tie.spec
    mul-result
    shared-slice-read-result
    returns
    returns-2)
