-- `pl_steps::kinds::kern_from` meets its contract.
-- Assumes nothing.
use mathlib.Core.Path.{sym}
use Rattle.property_lists.specs.declared.Property.TheVariants as property
use Rattle.property_lists.specs.declared.ValueRead.TheVariants as value
use Rattle.pl_values.proofs.Scanning.{value_at, value_none}
use Rattle.pl_steps.proofs.ReadLaws.{property_none, property_from_lem}
use borrow.Author.Rules.{rules}
use native.Mathlib.Omega.{arith}
use Rattle.pl_steps.proofs.kinds.kern_from.Statement.{statement}
use Rattle.pl_steps.proofs.kinds.kern_from.Tie as tie

byte-value-requires : tie.Need-byte_value-requires
byte-value-requires c κs = search rules

enum-known-right : tie.Need-enum_known-right
enum-known-right c = search rules

enum_told : tie.Need-enum_told-1
enum_told c = search rules

returns : tie.Need-returns-in_default
returns c =
    property_none _ (rw (value_none c.byte_value.ensures c.in_default.is))

real-value-requires : tie.Need-real_value-requires
real-value-requires c κs = search rules

enum-known-bits : tie.Need-enum_known-bits
enum-known-bits c = search rules

enum-told-2 : tie.Need-enum_told-in_default-real_value
enum-told-2 c = search rules

returns-2 : tie.Need-returns-in_default-real_value
returns-2 c =
    let k = value_at c.byte_value.ensures c.in-Value.is in
    property_none _ (rw (k.0, value_none c.real_value.ensures c.in_default-real_value.is))

closed-by-requires : tie.Need-closed_by-requires
closed-by-requires c κs = search rules

returns-3 : tie.Need-returns
returns-3 c =
    let k = value_at c.byte_value.ensures c.in-Value.is in
    let l = value_at c.real_value.ensures c.in-Value-real_value.is in
    property_from_lem c.closed_by.result c.closed_by.ensures (sym (rw (k.0, l.0))) (λ h. (λ p. omega (arith, k.1 h, l.1 k.2), l.2))

pub kern_from_spec : {M : Type 1} → statement M
kern_from_spec =
    tie.close
    (tie.spec
    byte-value-requires
    enum-known-right
    enum_told
    returns
    real-value-requires
    enum-known-bits
    enum-told-2
    returns-2
    closed-by-requires
    returns-3)
