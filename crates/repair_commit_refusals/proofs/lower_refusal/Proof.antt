-- `repair_commit_refusals::lower_refusal` meets its contract: by what the passes answered.
-- Assumes nothing.
use mathlib.Core.Path.{sym, ap, ◌∙◌}
use Rattle.repairs.specs.declared.Validated.{Validated}
use Rattle.repair_commit_refusals.specs.Numbers.{lower_refusal}
use borrow.Author.Rules.{rules}
use Rattle.repair_commit_refusals.proofs.lower_refusal.Statement.{statement}
use Rattle.repair_commit_refusals.proofs.lower_refusal.Tie as tie

enum-known-mended : tie.Need-enum_known-mended
enum-known-mended c = search rules

enum_told : tie.Need-enum_told-1
enum_told c = search rules

fits-refusal-requires : tie.Need-fits_refusal-requires
fits-refusal-requires c κs = search rules

returns : tie.Need-returns-in-Refused
returns c = search rules

returns-2 : tie.Need-returns-in-Fixed
returns-2 c =
    let a = c.args in
    c.fits_refusal.ensures
    ∙ ap (λ (v : Validated). lower_refusal v a.numbers a.bytes a.handed a.fixed a.through a.found) (sym c.in-Fixed.is)

pub lower_refusal_spec : {M : Type 1} → statement M
lower_refusal_spec =
    tie.close
    (tie.spec
    enum-known-mended
    enum_told
    fits-refusal-requires
    returns
    returns-2)
