use Rattle.text_fields.specs.Steps.{Blank}
use Rattle.text_fields.proofs.blanks.blanks_end.Given as goal

-- only blanks were passed
abbrev pub invariant-loop-i : goal.invariant-loop-i
invariant-loop-i l = Blank l.text l.from l.i
