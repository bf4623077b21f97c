use Rattle.std.proofs.Common.{◌≡◌, length}
use Rattle.words.specs.Lists.{Appending}
use Rattle.files.specs.Reading.{entries_from}
use Rattle.file_reading.proofs.entries.write_entries.Given as goal

-- the entries of the characters passed stand in front, and the rest is as it came
abbrev pub invariant-loop-i : goal.invariant-loop-i
invariant-loop-i l =
    (l.at ≡ length (entries_from l.file l.c l.w l.i)) × Appending (entries_from l.file l.c l.w l.i) l.initial.out l.out
