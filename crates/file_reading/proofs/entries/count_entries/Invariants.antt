use Rattle.std.proofs.Common.{◌≡◌, ℕ, ◌*◌, ◌≤◌, length}
use Rattle.files.specs.Reading.{entries_from}
use Rattle.file_reading.proofs.entries.count_entries.Given as goal

-- the characters passed have twice as many numbers as are counted
abbrev pub invariant-loop-i : goal.invariant-loop-i
invariant-loop-i l = (l.count ≤ l.i) × ((c : ℕ) → length (entries_from l.file c l.w l.i) ≡ 2 * l.count)
