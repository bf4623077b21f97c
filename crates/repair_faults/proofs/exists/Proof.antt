-- `repair_faults::exists` meets its contract: the bit of a word that was read.
-- Assumes nothing.
use mathlib.Core.Path.{ap}
use Prim.Native.Nat.{ℕ, ◌/◌, ◌%◌, ◌^◌}
use lib.Dec.{eqb}
use borrow.Author.Rules.{rules}
use Rattle.repair_faults.proofs.exists.Statement.{statement}
use Rattle.repair_faults.proofs.exists.Tie as tie

cast-u64-at : tie.Need-overflow_cast-c
cast-u64-at c = search rules

item-at-requires : tie.Need-item_at-word-requires
item-at-requires c κs = search rules

cast-result : tie.Need-overflow_cast-result
cast-result c = search rules

shr-result : tie.Need-overflow_shr-result
shr-result c = search rules

returns : tie.Need-returns
returns c = let a = c.args in ap (λ (w : ℕ). eqb (w / 2 ^ (a.c % 64) % 2) 1) c.item_at-word.ensures

pub exists_spec : {M : Type 1} → statement M
exists_spec =
    tie.close
    (tie.spec
    cast-u64-at
    item-at-requires
    cast-result
    shr-result
    returns)
