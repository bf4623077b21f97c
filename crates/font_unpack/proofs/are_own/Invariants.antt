use Rattle.std.proofs.Common.{◌≡◌, true, leb, ltb}
use Rattle.words.specs.Words.{word_of}
use Rattle.lang.specs.Every.{both, every}
use Rattle.lang.specs.Checks.{entry_at}
use Rattle.font_unpack.proofs.are_own.Given as goal

-- every entry passed leads there
abbrev pub invariant-loop-i : goal.invariant-loop-i
invariant-loop-i l =
    every l.i (λ i. both (leb l.start (word_of (entry_at l.entries i))) (ltb (word_of (entry_at l.entries i)) l.end)) ≡ true
