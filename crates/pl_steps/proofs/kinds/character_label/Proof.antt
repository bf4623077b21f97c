-- `pl_steps::kinds::character_label` meets its contract.
-- Assumes nothing.
use mathlib.Core.Path.{sym}
use Rattle.property_lists.specs.declared.Property.TheVariants as property
use Rattle.property_lists.specs.declared.ValueRead.TheVariants as value
use Rattle.pl_values.proofs.Scanning.{value_at, value_none}
use Rattle.pl_steps.proofs.ReadLaws.{property_none, property_from_lem}
use borrow.Author.Rules.{rules}
use native.Mathlib.Omega.{arith}
use Rattle.pl_steps.proofs.kinds.character_label.Statement.{statement}
use Rattle.pl_steps.proofs.kinds.character_label.Tie as tie

byte-value-requires : tie.Need-byte_value-requires
byte-value-requires c κs = search rules

enum-known-v : tie.Need-enum_known-v
enum-known-v c = search rules

enum_told : tie.Need-enum_told-1
enum_told c = search rules

returns : tie.Need-returns-in_default
returns c =
    property_none _ (rw (value_none c.byte_value.ensures c.in_default.is))

closed-by-requires : tie.Need-closed_by-requires
closed-by-requires c κs = search rules

returns-2 : tie.Need-returns
returns-2 c =
    let k = value_at c.byte_value.ensures c.in-Value.is in
    property_from_lem c.closed_by.result c.closed_by.ensures (sym (rw k.0)) (λ h. (λ p. omega (arith, k.1 h), k.2))

pub character_label_spec : {M : Type 1} → statement M
character_label_spec =
    tie.close
    (tie.spec
    byte-value-requires
    enum-known-v
    enum_told
    returns
    closed-by-requires
    returns-2)
