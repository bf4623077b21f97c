use Prim.Native.Nat.{◌-◌}
use Rattle.real_text.proofs.Fractions.{DigitTurn}
use Rattle.real_text.proofs.fraction.put_digits.Given as goal

-- a digit at each turn
abbrev pub invariant-loop : goal.invariant-loop
invariant-loop l = DigitTurn l.fn.out l.at l.count l.d l.out l.next (l.count - l.counter) l.unit l.rest
