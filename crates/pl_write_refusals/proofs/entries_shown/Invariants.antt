use mathlib.Core.Path.{◌≡◌}
use mathlib.Core.Bool.{true}
use lib.Dec.{ltb}
use Rattle.lang.specs.Checks.{entry_at}
use Rattle.lang.specs.Every.{every}
use Rattle.words.specs.Words.{word_of}
use Rattle.pl_write_refusals.proofs.entries_shown.Given as goal

-- every entry passed is an instruction
abbrev pub invariant-loop-i : goal.invariant-loop-i
invariant-loop-i l = every l.i (λ k. ltb (word_of (entry_at l.entries k)) l.n) ≡ true
