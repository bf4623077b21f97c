use Rattle.std.proofs.Common.{◌≡◌, ◌+◌, true, eqb}
use Rattle.lang.specs.Every.{every}
use Rattle.files.specs.Lengths.{file_byte}
use Rattle.file_font.proofs.zeros_from.Given as goal

-- the bytes passed are 0
abbrev pub invariant-loop-i : goal.invariant-loop-i
invariant-loop-i l = every l.i (λ i. eqb (file_byte l.bytes (l.from + i)) 0) ≡ true
