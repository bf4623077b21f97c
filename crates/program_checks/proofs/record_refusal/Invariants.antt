use Rattle.std.proofs.Common.{◌≡◌, true}
use Rattle.lang.specs.Every.{every}
use Rattle.lang.specs.Records.{is_instruction}
use Rattle.program_checks.proofs.record_refusal.Given as goal

-- every record passed is an instruction
abbrev pub invariant-loop-i : goal.invariant-loop-i
invariant-loop-i l = every l.i (is_instruction l.instructions) ≡ true
