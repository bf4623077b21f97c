use Rattle.text_fields.proofs.Decimals.{Counting}
use Rattle.text_fields.proofs.numbers.digits.Given as goal

-- n is the value of the digits passed, of which there are at most 12
abbrev pub invariant-loop-i : goal.invariant-loop-i
invariant-loop-i l = Counting l.text l.from l.end l.n l.i
