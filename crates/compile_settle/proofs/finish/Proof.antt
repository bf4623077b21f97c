-- `compile_settle::finish` meets its contract: one store after the other.
-- Assumes nothing.
use mathlib.Core.Path.{◌∙◌, ap}
use mathlib.Core.List.{List}
use Prim.Native.Nat.{ℕ, ◌+◌, ◌*◌}
use lib.ListN.{set}
use borrow.Author.Rules.{rules}
use Rattle.compile_settle.proofs.finish.Statement.{statement}
use Rattle.compile_settle.proofs.finish.Tie as tie

put-requires : tie.Need-put-requires
put-requires c κs = search rules

put-requires-2 : tie.Need-put-requires-2
put-requires-2 c κs = search rules

put-requires-3 : tie.Need-put-requires-3
put-requires-3 c κs = search rules

cast-put : tie.Need-overflow_cast-m
cast-put c = search rules

put-requires-4 : tie.Need-put-requires-4
put-requires-4 c κs = search rules

cast-put-2 : tie.Need-overflow_cast-k
cast-put-2 c = search rules

put-requires-5 : tie.Need-put-requires-5
put-requires-5 c κs = search rules

same_length : tie.Need-shape_of-work
same_length c = search rules

returns : tie.Need-returns
returns c =
    let a = c.args in
    c.put-5.ensures
    ∙ ap (λ (l : List ℕ). set l (16 * a.m + 10) a.k) (c.put-4.ensures
    ∙ ap (λ (l : List ℕ). set l (16 * a.k + 11) a.m) (c.put-3.ensures
    ∙ ap (λ (l : List ℕ). set l (16 * a.k + 7) a.flag) (c.put-2.ensures
    ∙ ap (λ (l : List ℕ). set l (16 * a.k + 6) a.code) c.put.ensures)))

pub finish_spec : {M : Type 1} → statement M
finish_spec =
    tie.close
    (tie.spec
    put-requires
    put-requires-2
    put-requires-3
    cast-put
    put-requires-4
    cast-put-2
    put-requires-5
    same_length
    returns)
