-- `program_records::steps::step` meets its contract: past the last record the walk ends, else it goes on where the record says.
-- Assumes nothing.
use native.Mathlib.Omega.{arith}
use borrow.Author.Tests.{le-ltb}
use Rattle.std.specs.Prelude.{None, Some}
use Rattle.program_chain.proofs.Walks.{step_to}
use borrow.Author.Rules.{rules}
use Rattle.program_records.proofs.steps.step.Statement.{statement}
use Rattle.program_records.proofs.steps.step.Tie as tie

returns : tie.Need-returns-then-n-at
returns c = rw (le-ltb c.args.at c.args.n (omega arith))

enum_told : tie.Need-enum_told-1
enum_told c = search rules

enum-known-next : tie.Need-enum_known-next
enum-known-next c = search rules

add-t8 : tie.Need-overflow_add-result
add-t8 c = search rules

cast-t9 : tie.Need-overflow_cast-result
cast-t9 c = search rules

add-t10 : tie.Need-overflow_add-result-in-Some
add-t10 c = search rules

returns-2 : tie.Need-returns-in-None
returns-2 c =
    let a = c.args in
    step_to a.n (λ _. a.x) a.at None c.if-n-at.false c.in-None.is

returns-3 : tie.Need-returns-in-Some
returns-3 c =
    let a = c.args in
    step_to a.n (λ _. a.x) a.at (Some _) c.if-n-at.false c.in-Some.is

pub step_spec : {M : Type 1} → statement M
step_spec =
    tie.close
    (tie.spec
    returns
    enum_told
    enum-known-next
    add-t8
    cast-t9
    add-t10
    returns-2
    returns-3)
