-- `reach::reach_refusal` meets its contract: the refusals are asked in the order of the definition.
-- Assumes nothing.
use mathlib.Core.Path.{◌≡◌, ap, ◌∙◌}
use Prim.Native.Nat.{ℕ}
use borrow.Author.Rules.{rules}
use lib.IntN.{ℤ}
use Rattle.words.proofs.Bits.{number_word}
use Rattle.lang.specs.Checks.{program_refusal, entries_refusal, absent_refusal, or_else}
use Rattle.lang.proofs.Refusals.{first_refusal, later_refusal_lem}
use Rattle.reach.proofs.reach_refusal.Statement.{statement}
use Rattle.reach.proofs.reach_refusal.Tie as tie

-- what is known after each test that passed: the answer is that of the rest
after_program : (c : tie.Else-program-ne0) (x n : ℕ) → x ≡ n → x ≡ or_else (program_refusal c.args.instructions.now) n
after_program c x n e = later_refusal_lem c.program_refusal-program.ensures c.if-program-ne0.false e

after_entries : (c : tie.Else-entered-ne0) (x n : ℕ) → x ≡ n →
    x ≡ or_else (program_refusal c.args.instructions.now)
    (or_else (entries_refusal 65535 c.args.entries.now) n)
after_entries c x n e = after_program c.before.before x _ (later_refusal_lem c.entries_refusal-entered.ensures c.if-entered-ne0.false e)

left-refusal : (c : tie.After-absent_refusal-left) →
    c.absent_refusal-left.result ≡ absent_refusal 65535 c.args.left_entry
left-refusal c =
    c.absent_refusal-left.ensures
    ∙ ap (λ (z : ℤ). absent_refusal 65535 z)
    (number_word c.args.left_entry
    c.ranges.left_entry)

after_left : (c : tie.Else-left-ne0) (x n : ℕ) → x ≡ n →
    x ≡ or_else (program_refusal c.args.instructions.now)
    (or_else (entries_refusal 65535 c.args.entries.now) (or_else (absent_refusal 65535 c.args.left_entry) n))
after_left c x n e = after_entries c.before.before x _ (later_refusal_lem (left-refusal c.before) c.if-left-ne0.false e)

program-refusal-requires : tie.Need-program_refusal-program-requires
program-refusal-requires c κs = search rules

returns : tie.Need-returns-then-program-ne0
returns c = first_refusal _ c.program_refusal-program.ensures c.if-program-ne0.true

entries-refusal-requires : tie.Need-entries_refusal-entered-requires
entries-refusal-requires c κs = search rules

returns-2 : tie.Need-returns-then-entered-ne0
returns-2 c = after_program c.before.before _ _ (first_refusal _ c.entries_refusal-entered.ensures c.if-entered-ne0.true)

absent-refusal-requires : tie.Need-absent_refusal-left-requires
absent-refusal-requires c κs = search rules

returns-3 : tie.Need-returns-then-left-ne0
returns-3 c = after_entries c.before.before _ _ (first_refusal _ (left-refusal c.before) c.if-left-ne0.true)

passthrough-refusal-requires : tie.Need-passthrough_refusal-through-requires
passthrough-refusal-requires c κs = search rules

returns-4 : tie.Need-returns-then-through-ne0
returns-4 c = after_left c.before.before _ _ (first_refusal _ c.passthrough_refusal-through.ensures c.if-through-ne0.true)

mul-room-refusal : tie.Need-overflow_mul-instructions
mul-room-refusal c = search rules

room-refusal-requires : tie.Need-room_refusal-requires
room-refusal-requires c κs = search rules

returns-5 : tie.Need-returns
returns-5 c =
    after_left c.before.before.before _ _
    (later_refusal_lem c.passthrough_refusal-through.ensures c.if-through-ne0.false c.room_refusal.ensures)

pub reach_refusal_spec : {M : Type 1} → statement M
reach_refusal_spec =
    tie.close
    (tie.spec
    program-refusal-requires
    returns
    entries-refusal-requires
    returns-2
    absent-refusal-requires
    returns-3
    passthrough-refusal-requires
    returns-4
    mul-room-refusal
    room-refusal-requires
    returns-5)
