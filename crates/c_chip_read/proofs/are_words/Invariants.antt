use Rattle.std.proofs.Common.{◌≡◌, get_or}
use Rattle.lang.specs.Every.{every}
use Rattle.c_chips.specs.ChipLists.{is_word}
use Rattle.c_chip_read.proofs.are_words.Given as goal

-- the numbers passed, or-ed together, are of 32 bits exactly when each of them is
abbrev pub invariant-loop-code : goal.invariant-loop-code
invariant-loop-code l = is_word l.all ≡ every l.code-index (λ i. is_word (get_or l.codes i 0))
