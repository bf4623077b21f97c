use Rattle.compiling.proofs.EncodeLaws.{Encoding}
use Rattle.compile_prepare.proofs.encode.encode.Given as goal

-- numbers 3 and 4 of the rows passed say their rules, `scaled` is whether each of their kerns has a scaled value, and nothing else has changed
abbrev pub invariant-loop-k : goal.invariant-loop-k
invariant-loop-k l = Encoding l.instructions l.kerns l.design_size l.n l.fn.work l.work l.k l.scaled
