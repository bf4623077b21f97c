-- `pl_names::common_name` meets its contract.
-- Assumes nothing.
use Rattle.property_lists.specs.declared.Property.TheVariants as property
use Rattle.property_lists.specs.declared.ValueRead.TheVariants as value
use Rattle.property_lists.specs.Properties.{first_named}
use Rattle.pl_values.proofs.Scanning.{scanned_from}
use borrow.Author.Rules.{rules}
use native.Mathlib.Omega.{arith}
use Rattle.pl_names.proofs.common_name.Statement.{statement}
use Rattle.pl_names.proofs.common_name.Tie as tie

or-named-requires : tie.Need-or_named-a-requires
or-named-requires c κs = search rules

or-named-requires-2 : tie.Need-or_named-b-requires
or-named-requires-2 c κs = search rules

or-named-requires-3 : tie.Need-or_named-c-requires
or-named-requires-3 c κs = search rules

or-named-requires-4 : tie.Need-or_named-d-requires
or-named-requires-4 c κs = search rules

or-named-requires-5 : tie.Need-or_named-e-requires
or-named-requires-5 c κs = search rules

or-named-requires-6 : tie.Need-or_named-f-requires
or-named-requires-6 c κs = search rules

or-named-requires-7 : tie.Need-or_named-g-requires
or-named-requires-7 c κs = search rules

or-named-requires-8 : tie.Need-or_named-requires
or-named-requires-8 c κs = search rules

returns : tie.Need-returns
unfolding first_named
returns c =
    scanned_from c.or_named.result c.or_named.ensures (rw (
      c.or_named-g.ensures.is,
      c.or_named-f.ensures.is,
      c.or_named-e.ensures.is,
      c.or_named-d.ensures.is,
      c.or_named-c.ensures.is,
      c.or_named-b.ensures.is,
      c.or_named-a.ensures.is,
    )) (λ h. (omega arith, h))

pub common_name_spec : {M : Type 1} → statement M
common_name_spec =
    tie.close
    (tie.spec
    or-named-requires
    or-named-requires-2
    or-named-requires-3
    or-named-requires-4
    or-named-requires-5
    or-named-requires-6
    or-named-requires-7
    or-named-requires-8
    returns)
