-- `file_packing::sizes_of` meets its contract: the sizes where there are both, whatever else is answered.
-- Assumes nothing.
use Rattle.file_packing.proofs.Packing.{sized_uncounted, sized_unpacked, sized}
use borrow.Author.Rules.{rules}
use Rattle.file_packing.proofs.sizes_of.Statement.{statement}
use Rattle.file_packing.proofs.sizes_of.Tie as tie

enum-known-shared : tie.Need-enum_known-shared
enum-known-shared c = search rules

enum-known-shared-2 : tie.Need-enum_known-shared-in-Count-1
enum-known-shared-2 c = search rules

enum-known-packed : tie.Need-enum_known-packed
enum-known-packed c = search rules

enum-known-packed-2 : tie.Need-enum_known-packed-in-Count
enum-known-packed-2 c = search rules

returns : tie.Need-returns-in-Refused
returns c = sized_uncounted c.args.packed c.in-Refused.is

returns-2 : tie.Need-returns-in-Refused-packed
returns-2 c = sized_unpacked c.args.shared c.in-Refused-packed.is

returns-3 : tie.Need-returns-in-Sizes
returns-3 c = sized c.in-Count.is c.in-Sizes.is

pub sizes_of_spec : {M : Type 1} → statement M
sizes_of_spec =
    tie.close
    (tie.spec
    enum-known-shared
    enum-known-shared-2
    enum-known-packed
    enum-known-packed-2
    returns
    returns-2
    returns-3)
