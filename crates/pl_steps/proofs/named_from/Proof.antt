-- `pl_steps::named_from` meets its contract.
-- Assumes nothing.
use mathlib.Core.Path.{sym}
use Rattle.property_lists.specs.declared.Property.TheVariants as property
use Rattle.property_lists.specs.declared.ValueRead.TheVariants as value
use Rattle.pl_values.proofs.Scanning.{value_at, value_none}
use Rattle.pl_steps.proofs.ReadLaws.{property_none, property_from_lem}
use borrow.Author.Rules.{rules}
use native.Mathlib.Omega.{arith}
use Rattle.pl_steps.proofs.named_from.Statement.{statement}
use Rattle.pl_steps.proofs.named_from.Tie as tie

name-at-requires : tie.Need-name_at-requires
name-at-requires c κs = search rules

enum-known-code : tie.Need-enum_known-code
enum-known-code c = search rules

enum_told : tie.Need-enum_told-1
enum_told c = search rules

returns : tie.Need-returns-in_default
returns c =
    property_none _ (rw (value_none c.name_at.ensures c.in_default.is))

by-code-requires : tie.Need-by_code-requires
by-code-requires c κs =
    (value_at c.name_at.ensures c.in-Value.is).2

returns-2 : tie.Need-returns
returns-2 c =
    let k = value_at c.name_at.ensures c.in-Value.is in
    property_from_lem c.by_code.result c.by_code.ensures (sym (rw k.0)) (λ h. (λ p. omega (arith, k.1 h), k.2))

pub named_from_spec : {M : Type 1} → statement M
named_from_spec =
    tie.close
    (tie.spec
    name-at-requires
    enum-known-code
    enum_told
    returns
    by-code-requires
    returns-2)
