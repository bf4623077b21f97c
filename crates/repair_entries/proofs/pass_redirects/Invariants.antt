use Rattle.std.proofs.Common.{◌≡◌, ℕ, List}
use lib.Seq.{sets}
use Rattle.repairs.specs.Damaged.{Damaged}
use Rattle.repair_entries.specs.Entering.{PassesFrom, passthrough_upto}
use Rattle.repair_entries.proofs.pass_redirects.Given as goal

-- the redirects by which the entries passed unpack are passed over
abbrev pub invariant-loop-k : goal.invariant-loop-k
invariant-loop-k l =
    (d : Damaged) (t : List ℕ) → PassesFrom d t l.instructions l.entries l.fn.through → l.through ≡ sets t 0 (passthrough_upto d l.k)
