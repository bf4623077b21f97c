-- `program_chain::next_instruction` meets its contract: past the last instruction the walk ends, below 2 ^ 31 the word of next is the number skipped,
-- and from there on it is negative.
-- Assumes nothing.
use mathlib.Core.Path.{ap}
use Prim.Native.Nat.{◌%◌}
use native.Mathlib.Omega.{arith}
use borrow.Author.Tests.{le-ltb}
use Rattle.std.specs.Prelude.{None, Some}
use Rattle.words.proofs.Bits.{read_pos, read_neg}
use Rattle.lang.specs.Records.{count, next_of, instruction_at}
use Rattle.program_chain.proofs.Walks.{step_to}
use borrow.Author.Rules.{rules}
use Rattle.program_chain.proofs.next_instruction.Statement.{statement}
use Rattle.program_chain.proofs.next_instruction.Tie as tie

returns : tie.Need-returns-then-n-at
returns c = rw (le-ltb c.args.at (count c.args.instructions.now) (omega arith))

field-at-requires : tie.Need-field_at-word-requires
field-at-requires c κs = search rules

add-t8 : tie.Need-overflow_add-result
add-t8 c = search rules

cast-t10 : tie.Need-overflow_cast-result
cast-t10 c = search rules

add-t11 : tie.Need-overflow_add-result-then-word-lt2147483648
add-t11 c = search rules

returns-2 : tie.Need-returns-then-word-lt2147483648
returns-2 c =
    let a = c.args in
    step_to (count a.instructions.now) (instruction_at a.instructions.now) a.at (Some (c.field_at-word.result % 256))
    c.if-n-at.false (ap next_of (read_pos c.field_at-word.ensures c.if-word-lt2147483648.true))

returns-3 : tie.Need-returns-else-word-lt2147483648
returns-3 c =
    let a = c.args in
    step_to (count a.instructions.now) (instruction_at a.instructions.now) a.at None c.if-n-at.false
    (ap next_of (read_neg c.field_at-word.ensures c.if-word-lt2147483648.false))

pub next_instruction_spec : {M : Type 1} → statement M
next_instruction_spec =
    tie.close
    (tie.spec
    returns
    field-at-requires
    add-t8
    cast-t10
    add-t11
    returns-2
    returns-3)
