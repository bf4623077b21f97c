use Rattle.std.proofs.Common.{◌≡◌, ◌*◌, ◌≤◌, length}
use Rattle.file_fonts.specs.Meant.{unpacked_below}
use Rattle.file_unpacking.proofs.count_leading.Given as goal

-- the entries passed have twice as many numbers, unpacked, as are counted
abbrev pub invariant-loop-i : goal.invariant-loop-i
invariant-loop-i l = (l.n ≤ l.i) × (length (unpacked_below l.instructions l.packed l.i) ≡ 2 * l.n)
