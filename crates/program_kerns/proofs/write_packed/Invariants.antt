use Rattle.std.proofs.Common.{pos}
use Rattle.words.specs.Lists.{Filling}
use Rattle.lang.specs.Records.{is_kind}
use Rattle.program_kerns.specs.Kerns.{changed, kern_at}
use Rattle.program_kerns.proofs.write_packed.Given as goal

-- the first j numbers are those of the packed program, and the rest is as it came
abbrev pub invariant-loop-j : goal.invariant-loop-j
invariant-loop-j l = Filling (changed l.instructions (is_kind 1 l.instructions) (pos 0) (kern_at l.instructions l.kerns)) l.fn.out l.out l.j
