-- `compile_settle::open_row` meets its contract: one store after the other.
-- Assumes nothing.
use mathlib.Core.Path.{◌∙◌, ap}
use mathlib.Core.List.{List}
use Prim.Native.Nat.{ℕ, ◌+◌, ◌*◌}
use lib.ListN.{set}
use borrow.Author.Rules.{rules}
use Rattle.compile_settle.proofs.open_row.Statement.{statement}
use Rattle.compile_settle.proofs.open_row.Tie as tie

put-requires : tie.Need-put-requires
put-requires c κs = search rules

cast-put : tie.Need-overflow_cast-j
cast-put c = search rules

put-requires-2 : tie.Need-put-requires-2
put-requires-2 c κs = search rules

same_length : tie.Need-shape_of-work
same_length c = search rules

returns : tie.Need-returns
returns c =
    let a = c.args in
    c.put-2.ensures ∙ ap (λ (l : List ℕ). set l (16 * a.h + 8) a.j) c.put.ensures

pub open_row_spec : {M : Type 1} → statement M
open_row_spec =
    tie.close
    (tie.spec
    put-requires
    cast-put
    put-requires-2
    same_length
    returns)
