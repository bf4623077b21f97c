use Rattle.std.proofs.Common.{◌≡◌, ◌+◌, true, not}
use Rattle.lang.specs.Every.{every}
use Rattle.lang.specs.Records.{is_kind}
use Rattle.font_unpack.proofs.are_plain.Given as goal

-- no instruction passed is a redirect
abbrev pub invariant-loop-i : goal.invariant-loop-i
invariant-loop-i l = every l.i (λ i. not (is_kind 3 l.instructions (l.start + i))) ≡ true
