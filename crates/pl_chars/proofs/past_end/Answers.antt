use mathlib.Core.Path.{sym, ap}
use native.Mathlib.Omega.{arith}
use Rattle.property_lists.specs.Chars.{then_by, past_byte}
use Rattle.pl_blanks.proofs.Places.{passed_from, known_at}
use Rattle.pl_chars.proofs.past_end.Goals as goal

pub returns : goal.returns
returns c =
    let k = known_at c.past_blanks.ensures c.in_ok-i.was in
    passed_from c.past_byte.result c.past_byte.ensures (sym (ap (λ o. then_by o (past_byte 41)) k.0)) (λ h. (omega (arith, k.1 h), k.2))
