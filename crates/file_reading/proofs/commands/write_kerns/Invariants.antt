use Rattle.std.proofs.Common.{◌+◌}
use Rattle.words.specs.Lists.{Filling}
use Rattle.files.specs.Commands.{kern_number}
use Rattle.file_reading.proofs.commands.write_kerns.Given as goal

-- the first i kerns are written
abbrev pub invariant-loop-i : goal.invariant-loop-i
invariant-loop-i l = Filling (λ i. kern_number l.file (l.w + i)) l.initial.out l.out l.i
