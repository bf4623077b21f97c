use Rattle.std.proofs.Common.{◌≡◌, ℕ, true, get_or}
use lib.IntN.{pos}
use Rattle.lang.specs.Every.{every}
use Rattle.repairs.specs.Committing.{same_number}
use Rattle.repair_commit_refusals.proofs.starts_with.Given as goal

-- the numbers passed are those at the front of what was found
abbrev pub invariant-loop-i : goal.invariant-loop-i
invariant-loop-i l = every l.i (λ (k : ℕ). same_number (get_or l.handed k (pos 0)) (get_or l.found k (pos 0))) ≡ true
