use Rattle.std.proofs.Common.{◌≡◌, true, get_or}
use Rattle.lang.specs.Every.{every}
use Rattle.lang.specs.Checks.{is_letter}
use Rattle.caption_run.proofs.begin.each_refusal.Given as goal

-- each letter passed is one
abbrev pub invariant-loop-letter : goal.invariant-loop-letter
invariant-loop-letter l = every l.letter-index (λ j. is_letter (get_or l.word j 0)) ≡ true
