use Rattle.std.proofs.Common.{◌+◌, ◌*◌, get_or, pos}
use Rattle.words.specs.Lists.{Filling}
use Rattle.font_unpack.proofs.put_own.Given as goal

-- the first j numbers of the output are those of the part
abbrev pub invariant-loop-j : goal.invariant-loop-j
invariant-loop-j l = Filling (λ j. get_or l.instructions (4 * l.front + j) (pos 0)) l.initial.out l.out l.j
