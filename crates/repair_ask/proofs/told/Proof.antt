-- `repair_ask::told` meets its contract: by what the passes answered, and by the room.
-- Assumes nothing.
use mathlib.Core.Path.{sym, ap, ◌∙◌}
use Rattle.repairs.specs.declared.Validated.{Validated}
use Rattle.repair_ask.specs.Told.{told}
use Rattle.repair_ask.proofs.Asking.{told_count, told_short}
use borrow.Author.Rules.{rules}
use Rattle.repair_ask.proofs.told.Statement.{statement}
use Rattle.repair_ask.proofs.told.Tie as tie

enum-known-mended : tie.Need-enum_known-mended
enum-known-mended c = search rules

enum-known-mended-2 : tie.Need-enum_known-mended-in-Fixed-1
enum-known-mended-2 c = search rules

returns : tie.Need-returns-in-Refused
returns c = ap (λ (v : Validated). told v c.args.room) (sym c.in-Refused.is)

returns-2 : tie.Need-returns-then-count-room
returns-2 c =
    let room = c.args.room in
    told_count c.in-Fixed.field-0 _ room c.if-count-room.true ∙ ap (λ (v : Validated). told v room) (sym c.in-Fixed.is)

returns-3 : tie.Need-returns-else-count-room
returns-3 c =
    let room = c.args.room in
    told_short c.in-Fixed.field-0 _ room c.if-count-room.false ∙ ap (λ (v : Validated). told v room) (sym c.in-Fixed.is)

pub told_spec : {M : Type 1} → statement M
told_spec =
    tie.close
    (tie.spec
    enum-known-mended
    enum-known-mended-2
    returns
    returns-2
    returns-3)
