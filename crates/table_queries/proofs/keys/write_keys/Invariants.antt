use Rattle.std.proofs.Common.{◌/◌, ◌%◌}
use Rattle.words.specs.Lists.{Filling}
use Rattle.captions.specs.Tables.{number}
use Rattle.table_queries.proofs.keys.write_keys.Given as goal

-- the first j numbers are lefts and rights, and the rest is as it came
abbrev pub invariant-loop-j : goal.invariant-loop-j
invariant-loop-j l = Filling (λ j. number l.pairs (j / 2) (j % 2)) l.initial.out l.out l.j
