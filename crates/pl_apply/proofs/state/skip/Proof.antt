-- `pl_apply::state::skip` meets its contract.
-- Assumes nothing.
use mathlib.Core.Path.{ap}
use lib.IntN.{ℤ}
use Prim.Native.Nat.{ℕ}
use borrow.Author.Tests.{lt-leb, le-leb}
use Rattle.property_lists.specs.ListReading.{may_end, ended_at, next_set}
use Rattle.pl_apply.proofs.Laws.{held_back, small_number, both_no, skips}
use borrow.Author.Rules.{rules}
use native.Mathlib.Omega.{arith}
use Rattle.pl_apply.proofs.state.skip.Statement.{statement}
use Rattle.pl_apply.proofs.state.skip.Tie as tie

returns : tie.Need-returns-then-n-gt127
returns c =
    let args = c.args in
    held_back (both_no (may_end args.s) (lt-leb args.n 127 c.if-n-gt127.true))

add-at-least : tie.Need-overflow_add-s
add-at-least c = search rules

at-least-requires : tie.Need-at_least-requires
at-least-requires c κs = search rules

end-step-requires : tie.Need-end_step-requires
end-step-requires c κs = search rules

same_length : tie.Need-shape_of-instructions
same_length c = search rules

returns-2 : tie.Need-returns
returns-2 c =
    let End-step = c.end_step in
    let args = c.args in
    let l = small_number args.n (omega (arith, c.if-n-gt127.false)) in
    skips (le-leb args.n 127 c.if-n-gt127.false) End-step.ensures (ap (λ (k : ℕ). ended_at k args.s) c.at_least.ensures)
    (ap (λ (z : ℤ). next_set args.s.steps z args.instructions.now) l)

pub skip_spec : {M : Type 1} → statement M
skip_spec =
    tie.close
    (tie.spec
    returns
    add-at-least
    at-least-requires
    end-step-requires
    same_length
    returns-2)
