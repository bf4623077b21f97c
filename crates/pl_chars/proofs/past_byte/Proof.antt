-- `pl_chars::past_byte` meets its contract.
-- Assumes nothing.
use Rattle.pl_blanks.proofs.Places.{passed_at, passed_none}
use Rattle.pl_chars.proofs.CharLaws.{byte_there, byte_other, byte_end}
use borrow.Author.Rules.{rules}
use native.Mathlib.Omega.{arith}
use Rattle.pl_chars.proofs.past_byte.Statement.{statement}
use Rattle.pl_chars.proofs.past_byte.Tie as tie

shared-slice-read-if2 : tie.Need-bounds-text-at
shared-slice-read-if2 c = search rules

add-t9 : tie.Need-overflow_add-result
add-t9 c = search rules

returns : tie.Need-returns-then-text-at
returns c =
    let a = c.args in
    passed_at _ (byte_there a.text.now a.at a.a c.if-at-text.true c.if-text-at.true) (λ _. omega arith) (omega (arith, c.if-at-text.true))

returns-2 : tie.Need-returns-else-text-at
returns-2 c =
    let a = c.args in
    passed_none _ (byte_other a.text.now a.at a.a c.if-at-text.true c.if-text-at.false)

returns-3 : tie.Need-returns-else-at-text
returns-3 c = let a = c.args in passed_none _ (byte_end a.text.now a.at a.a c.if-at-text.false)

pub past_byte_spec : {M : Type 1} → statement M
past_byte_spec =
    tie.close
    (tie.spec
    shared-slice-read-if2
    add-t9
    returns
    returns-2
    returns-3)
