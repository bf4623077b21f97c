-- `repair_commit::finished` meets its contract: by what the passes answered, and by the number.
-- Assumes nothing.
use mathlib.Core.Path.{sym, ap, ◌∙◌}
use Rattle.words.proofs.Bits.{number_word}
use Rattle.repairs.specs.declared.Validated.{Validated}
use Rattle.repairs.specs.declared.Committed.TheVariants.{Fixed}
use Rattle.repair_commit.specs.Finishing.{committed_as}
use Rattle.repair_commit.proofs.Committing.{finished_refused, finished_taken}
use borrow.Author.Rules.{rules}
use Rattle.repair_commit.proofs.finished.Statement.{statement}
use Rattle.repair_commit.proofs.finished.Tie as tie

enum-known-mended : tie.Need-enum_known-mended
enum-known-mended c = search rules

enum-known-mended-2 : tie.Need-enum_known-mended-in-Fixed-1
enum-known-mended-2 c = search rules

returns : tie.Need-returns-in-Refused
returns c = ap (λ (v : Validated). committed_as v c.args.number) (sym c.in-Refused.is)

returns-2 : tie.Need-returns-then-number-ne0
returns-2 c =
    let number = c.args.number in
    finished_refused c.in-Fixed.left c.in-Fixed.field-1 number c.if-number-ne0.true
    ∙ ap (λ (v : Validated). committed_as v number) (sym c.in-Fixed.is)

returns-3 : tie.Need-returns-else-number-ne0
returns-3 c =
    let number = c.args.number in
    let left = c.in-Fixed.left in
    ap Fixed (number_word left (record { sfits = c.in-Fixed.known_told-in-Fixed-1-own.given.0.1 }))
    ∙ finished_taken left c.in-Fixed.field-1 number c.if-number-ne0.false ∙ ap (λ (v : Validated). committed_as v number) (sym c.in-Fixed.is)

pub finished_spec : {M : Type 1} → statement M
finished_spec =
    tie.close
    (tie.spec
    enum-known-mended
    enum-known-mended-2
    returns
    returns-2
    returns-3)
