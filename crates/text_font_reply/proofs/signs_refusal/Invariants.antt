use mathlib.Core.Path.{◌≡◌}
use mathlib.Core.Bool.{true}
use lib.Dec.{ltb}
use lib.ListN.{get_or}
use Rattle.lang.specs.Every.{every}
use Rattle.text_font_reply.proofs.signs_refusal.Given as goal

-- no letter passed is below 0
abbrev pub invariant-loop-letter : goal.invariant-loop-letter
invariant-loop-letter l = every l.letter-index (λ j. ltb (get_or l.word j 0) 2147483648) ≡ true
