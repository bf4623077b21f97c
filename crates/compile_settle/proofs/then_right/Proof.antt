-- `compile_settle::then_right` meets its contract: a last that is known is a character, and is looked up as a left.
-- Assumes nothing.
use native.Mathlib.Omega.{arith}
use Rattle.compiling.proofs.Known.{known_code, second_known, second_waits}
use borrow.Author.Rules.{rules}
use Rattle.compile_settle.proofs.then_right.Statement.{statement}
use Rattle.compile_settle.proofs.then_right.Tie as tie

enum-known-first : tie.Need-enum_known-first
enum-known-first c = search rules

add-last-of : tie.Need-overflow_add-code
add-last-of c =
    omega (arith, known_code c.args.first c.in-Known.code c.in-Known.field-1 c.in-Known.is c.requires.1)

last-of-requires : tie.Need-last_of-requires
last-of-requires c κs =
    (c.requires.0, omega (arith, known_code c.args.first c.in-Known.code c.in-Known.field-1 c.in-Known.is c.requires.1), c.requires.2)

enum-known-first-2 : tie.Need-enum_known-first-in-Waits-1
enum-known-first-2 c = search rules

returns : tie.Need-returns-in-Known
returns c =
    second_known c.args.n c.args.work.now c.args.right c.args.first c.last_of.result c.in-Known.code c.in-Known.field-1 c.in-Known.is c.last_of.ensures

returns-2 : tie.Need-returns-in-Waits
returns-2 c =
    second_waits c.args.n c.args.work.now c.args.right c.args.first c.in-Waits.j c.in-Waits.is

pub then_right_spec : {M : Type 1} → statement M
then_right_spec =
    tie.close
    (tie.spec
    enum-known-first
    add-last-of
    last-of-requires
    enum-known-first-2
    returns
    returns-2)
