-- `pl_steps::kinds::label` meets its contract.
-- Assumes nothing.
use mathlib.Core.Path.{sym}
use Rattle.property_lists.specs.declared.Property.TheVariants as property
use Rattle.property_lists.specs.declared.ValueRead.TheVariants as value
use Rattle.pl_blanks.proofs.Places.{known_at, known_none}
use Rattle.pl_steps.proofs.ReadLaws.{property_none, property_from_lem}
use borrow.Author.Rules.{rules}
use native.Mathlib.Omega.{arith}
use Rattle.pl_steps.proofs.kinds.label.Statement.{statement}
use Rattle.pl_steps.proofs.kinds.label.Tie as tie

past-blanks-requires : tie.Need-past_blanks-requires
past-blanks-requires c κs = search rules

enum-known-i : tie.Need-enum_known-i
enum-known-i c = search rules

enum_told : tie.Need-enum_told-1
enum_told c = search rules

returns : tie.Need-returns-in_default
returns c =
    property_none _ (rw (known_none c.past_blanks.ensures c.in_default.is))

label-from-requires : tie.Need-label_from-requires
label-from-requires c κs =
    (known_at c.past_blanks.ensures c.in-Some.is).2

returns-2 : tie.Need-returns
returns-2 c =
    let k = known_at c.past_blanks.ensures c.in-Some.is in
    property_from_lem c.label_from.result c.label_from.ensures (sym (rw k.0)) (λ h. (λ p. omega (arith, k.1 h), k.2))

pub label_spec : {M : Type 1} → statement M
label_spec =
    tie.close
    (tie.spec
    past-blanks-requires
    enum-known-i
    enum_told
    returns
    label-from-requires
    returns-2)
