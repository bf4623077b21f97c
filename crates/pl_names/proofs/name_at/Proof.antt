-- `pl_names::name_at` meets its contract.
-- Assumes nothing.
use Rattle.property_lists.specs.declared.Property.TheVariants as property
use Rattle.property_lists.specs.declared.ValueRead.TheVariants as value
use Rattle.property_lists.specs.Properties.{first_named}
use Rattle.pl_values.proofs.Scanning.{scanned_from}
use borrow.Author.Rules.{rules}
use native.Mathlib.Omega.{arith}
use Rattle.pl_names.proofs.name_at.Statement.{statement}
use Rattle.pl_names.proofs.name_at.Tie as tie

common-name-requires : tie.Need-common_name-h-requires
common-name-requires c κs = search rules

or-named-requires : tie.Need-or_named-i-requires
or-named-requires c κs = search rules

or-named-requires-2 : tie.Need-or_named-j-requires
or-named-requires-2 c κs = search rules

or-named-requires-3 : tie.Need-or_named-k-requires
or-named-requires-3 c κs = search rules

or-named-requires-4 : tie.Need-or_named-l-requires
or-named-requires-4 c κs = search rules

or-named-requires-5 : tie.Need-or_named-m-requires
or-named-requires-5 c κs = search rules

or-named-requires-6 : tie.Need-or_named-n-requires
or-named-requires-6 c κs = search rules

or-named-requires-7 : tie.Need-or_named-requires
or-named-requires-7 c κs = search rules

returns : tie.Need-returns
unfolding first_named
returns c =
    scanned_from c.or_named.result c.or_named.ensures (rw (
      c.or_named-n.ensures.is,
      c.or_named-m.ensures.is,
      c.or_named-l.ensures.is,
      c.or_named-k.ensures.is,
      c.or_named-j.ensures.is,
      c.or_named-i.ensures.is,
      c.common_name-h.ensures.is,
    )) (λ h. (omega arith, h))

pub name_at_spec : {M : Type 1} → statement M
name_at_spec =
    tie.close
    (tie.spec
    common-name-requires
    or-named-requires
    or-named-requires-2
    or-named-requires-3
    or-named-requires-4
    or-named-requires-5
    or-named-requires-6
    or-named-requires-7
    returns)
