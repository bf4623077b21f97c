use Rattle.std.proofs.Common.{pos}
use Rattle.words.specs.Lists.{Filling}
use Rattle.lang.specs.Records.{field, is_kind}
use Rattle.program_kerns.specs.Kerns.{changed, kern_place}
use Rattle.program_kerns.proofs.write_unpacked.Given as goal

-- the first j numbers are those of the unpacked program, and the rest is as it came
abbrev pub invariant-loop-j : goal.invariant-loop-j
invariant-loop-j l =
    Filling (changed l.instructions (is_kind 0 l.instructions) (pos 1) (λ i. pos (kern_place (field l.instructions i 3) l.kerns))) l.fn.out l.out l.j
