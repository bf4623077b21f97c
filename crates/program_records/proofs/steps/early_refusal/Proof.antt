-- `program_records::steps::early_refusal` meets its contract: over 32,767 records it is 1, else the refusal of the entry.
-- Assumes nothing.
use mathlib.Core.Path.{◌≡◌, ◌∙◌}
use Prim.Native.Nat.{ℕ, ◌<◌, ◌≤◌}
use lib.IntN.{ℤ}
use mir.Syntax.{w32}
use mir.Val.{of_z, to_z, SFits}
use mir.ValLaws.{to_z-of_z}
use borrow.Author.Rules.{rules}
use borrow.Author.Tests.{le-leb, lt-leb}
use Rattle.lang.specs.Checks.{range_refusal}
use Rattle.program_records.specs.WalkSteps.{early_refusal}
use Rattle.program_records.proofs.steps.early_refusal.Statement.{statement}
use Rattle.program_records.proofs.steps.early_refusal.Tie as tie

many : (n : ℕ) (entry : ℤ) → 32767 < n → 1 ≡ early_refusal n entry
many n entry h = rw (lt-leb n 32767 h)

few : (n : ℕ) (entry : ℤ) (r : ℕ) → n ≤ 32767 → SFits w32 entry → r ≡ range_refusal 65535 (to_z w32 (of_z w32 entry)) → r ≡ early_refusal n entry
few n entry r h f e = e ∙ rw (to_z-of_z w32 entry f, le-leb n 32767 h)

returns : tie.Need-returns-then-n-gt32767
returns c = many c.args.n c.args.entry c.if-n-gt32767.true

range-refusal-requires : tie.Need-range_refusal-requires
range-refusal-requires c κs = search rules

returns-2 : tie.Need-returns
returns-2 c =
    few c.args.n c.args.entry c.range_refusal.result c.if-n-gt32767.false c.ranges.entry c.range_refusal.ensures

pub early_refusal_spec : {M : Type 1} → statement M
early_refusal_spec =
    tie.close
    (tie.spec
    returns
    range-refusal-requires
    returns-2)
