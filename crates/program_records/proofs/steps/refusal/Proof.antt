-- `program_records::steps::refusal` meets its contract: 15 is asked where nothing before it is refused.
-- Assumes nothing.
use mathlib.Core.Path.{sym}
use native.Mathlib.Omega.{arith}
use borrow.Author.Rules.{rules}
use Rattle.lang.specs.Answers.{room_refusal}
use Rattle.lang.proofs.Refusals.{first_refusal, later_refusal_lem, room_is, room_short}
use Rattle.program_records.proofs.RecordTurns.{early_passed}
use Rattle.program_records.proofs.steps.refusal.Statement.{statement}
use Rattle.program_records.proofs.steps.refusal.Tie as tie

early-refusal-requires : tie.Need-early_refusal-early-requires
early-refusal-requires c κs = search rules

returns : tie.Need-returns-then-early-ne0
returns c =
    first_refusal (room_refusal c.args.count c.args.room)
    (early_passed c.args.n c.args.entry c.early_refusal-early.result c.ranges.entry c.early_refusal-early.ensures) c.if-early-ne0.true

returns-2 : tie.Need-returns-then-room-count
returns-2 c =
    later_refusal_lem (early_passed c.args.n c.args.entry c.early_refusal-early.result c.ranges.entry c.early_refusal-early.ensures) c.if-early-ne0.false
    (sym (room_short c.args.count c.args.room (omega arith)))

returns-3 : tie.Need-returns
returns-3 c =
    later_refusal_lem (early_passed c.args.n c.args.entry c.early_refusal-early.result c.ranges.entry c.early_refusal-early.ensures) c.if-early-ne0.false
    (sym (room_is c.args.count c.args.room (omega arith)))

pub refusal_spec : {M : Type 1} → statement M
refusal_spec =
    tie.close
    (tie.spec
    early-refusal-requires
    returns
    returns-2
    returns-3)
