use Rattle.real_text.proofs.Fractions.{Trying}
use Rattle.real_text.proofs.fraction.places_of.Given as goal

-- none before was read back
abbrev pub invariant-loop-count : goal.invariant-loop-count
invariant-loop-count l = Trying l.f l.count l.power
