-- Each turn writes one more index, and the walk that is over meets the contract.
use Rattle.std.proofs.Common.{◌≡◌, ℕ, ℤ, length, refl, sym, ap, ◌∙◌, subst, to_z, of_z, w32}
use Rattle.words.proofs.Bits.{number_word}
use Rattle.program_records.specs.RecordChains.{record_at, WalksRecords}
use Rattle.program_records.proofs.RecordTurns.{walked_small, walked_more, walked_nearer, walked_ends}
use Rattle.program_records.proofs.instructions_for_entrypoint.Goals as goal

pub put-walk-requires : goal.put-walk-requires
put-walk-requires c =
    let xs = c.args.instructions.now in
    rw c.next_instruction.ensures
    (walked_small (length xs) (record_at xs) (to_z w32 (of_z w32 c.args.entry)) c.args.out.now c.loop-walk.out c.loop-walk.walk
    c.loop-walk.invariant.1 c.loop-walk-test.true)

pub loop-walk-preserved : goal.loop-walk-preserved
loop-walk-preserved c =
    let xs = c.args.instructions.now in (
      refl,
      rw (c.put-walk.ensures.0, c.put-walk.ensures.1, c.next_instruction.ensures)
          (walked_more (length xs) (record_at xs) (to_z w32 (of_z w32 c.args.entry)) c.args.out.now c.loop-walk.out c.loop-walk.walk
          c.loop-walk.invariant.1 c.loop-walk-test.true),
    )

pub returns : goal.returns
returns c =
    let xs = c.args.instructions.now in
    subst (λ (z : ℤ). WalksRecords xs z c.args.out.now c.finish.result c.finish.new.out) (number_word c.args.entry c.ranges.entry)
    (walked_ends xs (to_z w32 (of_z w32 c.args.entry)) c.args.out.now c.loop-walk.out c.loop-walk.walk c.loop-walk.invariant.1
    c.loop-walk-test.false c.finish.result c.finish.new.out c.finish.ensures)
