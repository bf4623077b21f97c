use Rattle.std.proofs.Common.{◌≡◌, leb, get_or}
use Rattle.lang.specs.Every.{every}
use Rattle.c_chip_read.proofs.are_bytes.Given as goal

-- the numbers passed, or-ed together, are a byte exactly when each of them is
abbrev pub invariant-loop-code : goal.invariant-loop-code
invariant-loop-code l = leb l.all 255 ≡ every l.code-index (λ i. leb (get_or l.codes i 0) 255)
