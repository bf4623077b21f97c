-- `reach::skip_of` meets its contract: no skip where the instruction is not marked, else the adjusted skip.
-- Assumes nothing.
use mathlib.Core.Path.{sym, ◌∙◌}
use borrow.Author.Rules.{rules}
use Rattle.reach.proofs.Numbers.{skip_bare, skip_marked}
use Rattle.reach.proofs.skip_of.Statement.{statement}
use Rattle.reach.proofs.skip_of.Tie as tie

item-at-requires : tie.Need-item_at-requires
item-at-requires c κs = search rules

returns : tie.Need-returns-then-item_at-eq0
returns c =
    let a = c.args in
    skip_bare a.instructions.now a.marks.now a.i (sym c.item_at.ensures ∙ c.if-item_at-eq0.true)

instruction-at-requires : tie.Need-instruction_at-instruction-requires
instruction-at-requires c κs = search rules

adjusted-skip-requires : tie.Need-adjusted_skip-requires
adjusted-skip-requires c κs = search rules

returns-2 : tie.Need-returns
returns-2 c =
    skip_marked c.args.instructions.now c.args.marks.now c.args.i c.adjusted_skip.result c.instruction_at-instruction.result
    (λ e. c.if-item_at-eq0.false (c.item_at.ensures ∙ e))
    c.requires.0
    c.instruction_at-instruction.ensures
    c.adjusted_skip.ensures

pub skip_of_spec : {M : Type 1} → statement M
skip_of_spec =
    tie.close
    (tie.spec
    item-at-requires
    returns
    instruction-at-requires
    adjusted-skip-requires
    returns-2)
