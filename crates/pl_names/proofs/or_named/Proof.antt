-- `pl_names::or_named` meets its contract.
-- Assumes nothing.
use Rattle.property_lists.specs.declared.Property.TheVariants as property
use Rattle.property_lists.specs.declared.ValueRead.TheVariants as value
use Rattle.pl_blanks.proofs.Places.{known_at, known_none}
use Rattle.pl_values.proofs.Scanning.{scanned_at, scanned_none}
use borrow.Author.Rules.{rules}
use native.Mathlib.Omega.{arith}
use Rattle.pl_names.proofs.or_named.Statement.{statement}
use Rattle.pl_names.proofs.or_named.Tie as tie

enum_told : tie.Need-enum_told-1
enum_told c = search rules

enum-told-2 : tie.Need-enum_told-in-Refused
enum-told-2 c = search rules

past-name-requires : tie.Need-past_name-requires
past-name-requires c κs = search rules

enum-known-n : tie.Need-enum_known-n
enum-known-n c = search rules

enum-told-3 : tie.Need-enum_told-in-None
enum-told-3 c = search rules

returns : tie.Need-returns-in-Value
returns c = search rules

returns-2 : tie.Need-returns-in-Some
returns-2 c =
    let pre = c.requires in
    let k = known_at c.past_name.ensures c.in-Some.is in
    scanned_at _ (rw (c.in-Refused.is, k.0)) (λ h. omega (arith, k.1 h, pre.0)) k.2

returns-3 : tie.Need-returns-in-None
returns-3 c =
    scanned_none _ (rw (c.in-Refused.is, known_none c.past_name.ensures c.in-None.is))

pub or_named_spec : {M : Type 1} → statement M
or_named_spec =
    tie.close
    (tie.spec
    enum_told
    enum-told-2
    past-name-requires
    enum-known-n
    enum-told-3
    returns
    returns-2
    returns-3)
