-- `pl_reals::real_value` meets its contract.
-- Assumes nothing.
use mathlib.Core.Path.{sym, ap}
use Rattle.property_lists.specs.Chars.{then_by}
use Rattle.property_lists.specs.Values.{typed_real}
use Rattle.pl_blanks.proofs.Places.{known_at, known_none}
use Rattle.pl_values.proofs.Scanning.{scanned_none, scanned_from}
use borrow.Author.Rules.{rules}
use native.Mathlib.Omega.{arith}
use Rattle.pl_reals.proofs.real_value.Statement.{statement}
use Rattle.pl_reals.proofs.real_value.Tie as tie

past-blanks-requires : tie.Need-past_blanks-requires
past-blanks-requires c κs = search rules

enum-known-i : tie.Need-enum_known-i
enum-known-i c = search rules

enum_told : tie.Need-enum_told-1
enum_told c = search rules

returns : tie.Need-returns-in_default
returns c =
    scanned_none _ (ap (λ o. then_by o typed_real) (known_none c.past_blanks.ensures c.in_default.is))

typed-real-requires : tie.Need-typed_real-requires
typed-real-requires c κs =
    (known_at c.past_blanks.ensures c.in-Some.is).2

returns-2 : tie.Need-returns
returns-2 c =
    let k = known_at c.past_blanks.ensures c.in-Some.is in
    scanned_from c.typed_real.result c.typed_real.ensures (sym (ap (λ o. then_by o typed_real) k.0)) (λ h. (omega (arith, k.1 h), k.2))

pub real_value_spec : {M : Type 1} → statement M
real_value_spec =
    tie.close
    (tie.spec
    past-blanks-requires
    enum-known-i
    enum_told
    returns
    typed-real-requires
    returns-2)
