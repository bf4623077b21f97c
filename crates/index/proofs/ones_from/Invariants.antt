use Rattle.std.proofs.Common.{◌≡◌, ◌*◌, ◌≤◌}
use Rattle.index.specs.Index.{ones_from}
use Rattle.index.proofs.ones_from.Given as goal

-- the ones of the numbers passed, at most 64 each
abbrev pub invariant-loop-v : goal.invariant-loop-v
invariant-loop-v l = (l.n ≡ ones_from l.index l.at l.v) × (l.n ≤ 64 * l.v)
