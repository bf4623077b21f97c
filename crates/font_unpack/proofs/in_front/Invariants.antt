use Rattle.std.proofs.Common.{◌≡◌, true}
use Rattle.lang.specs.Every.{every}
use Rattle.lang.specs.Records.{is_kind}
use Rattle.font_unpack.proofs.in_front.Given as goal

-- every instruction passed is a redirect
abbrev pub invariant-loop-i : goal.invariant-loop-i
invariant-loop-i l = every l.i (is_kind 3 l.instructions) ≡ true
