use mathlib.Core.Path.{◌≡◌}
use mathlib.Core.Bool.{true}
use lib.IntN.{pos}
use lib.ListN.{get_or}
use Rattle.lang.specs.Every.{every}
use Rattle.property_lists.specs.Displays.{has_text}
use Rattle.pl_write_refusals.proofs.kerns_shown.Given as goal

-- every kern passed has a text
abbrev pub invariant-loop-i : goal.invariant-loop-i
invariant-loop-i l = every l.i (λ k. has_text (get_or l.kerns k (pos 0))) ≡ true
