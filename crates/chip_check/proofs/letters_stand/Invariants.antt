use Rattle.std.proofs.Common.{◌≡◌, leb, get_or}
use Rattle.lang.specs.Every.{every}
use Rattle.chip_check.proofs.letters_stand.Given as goal

-- the letters passed, or-ed together, are a byte exactly when each of them is
abbrev pub invariant-loop-letter : goal.invariant-loop-letter
invariant-loop-letter l = leb l.all 255 ≡ every l.letter-index (λ i. leb (get_or l.word i 0) 255)
