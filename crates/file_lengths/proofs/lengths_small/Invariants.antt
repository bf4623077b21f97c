use Rattle.std.proofs.Common.{◌≡◌, true, leb}
use Rattle.lang.specs.Every.{every}
use Rattle.files.specs.Lengths.{file_half}
use Rattle.file_lengths.proofs.lengths_small.Given as goal

-- the lengths passed are at most 32,767
abbrev pub invariant-loop-i : goal.invariant-loop-i
invariant-loop-i l = every l.i (λ i. leb (file_half l.file i) 32767) ≡ true
