-- A search that goes on leaves the rule where it was, and one that stops has found it.
use Rattle.std.proofs.Common.{◌≡◌, true, false, length, refl, sym, ap, ◌∙◌}
use Rattle.lang.specs.declared.instruction.Instruction.{Instruction}
use Rattle.program_records.specs.RecordChains.{record_at}
use Rattle.program_records.specs.WalkSteps.{searches_on, onward_of}
use Rattle.program_records.proofs.RecordTurns.{search_later, search_stops}
use Rattle.program_records.proofs.rule_index.Goals as goal

pub loop-at-preserved : goal.loop-at-preserved
loop-at-preserved c =
    let xs = c.args.instructions.now in
    let n = length xs in
    let on : searches_on n (record_at xs c.loop-at.at) c.loop-at.at c.args.right ≡ true =
    ap (λ (x : Instruction). searches_on n x c.loop-at.at c.args.right) (sym c.record_at.ensures) ∙ sym c.searches_on.ensures ∙ c.loop-at-test.true in (
      refl,
      rw (c.onward-at.ensures, c.next_instruction.ensures)
          (search_later n (record_at xs) c.args.right c.args.entry c.loop-at.at on c.loop-at.invariant.1),
    )

pub returns : goal.returns
returns c =
    let xs = c.args.instructions.now in
    let n = length xs in
    let off : searches_on n (record_at xs c.loop-at.at) c.loop-at.at c.args.right ≡ false =
    ap (λ (x : Instruction). searches_on n x c.loop-at.at c.args.right) (sym c.record_at.ensures) ∙ sym c.searches_on.ensures ∙ c.loop-at-test.false in
    c.rule_at.ensures ∙ search_stops n (record_at xs) c.args.right c.args.entry c.loop-at.at off c.loop-at.invariant.1
