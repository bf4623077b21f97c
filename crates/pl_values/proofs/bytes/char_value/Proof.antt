-- `pl_values::bytes::char_value` meets its contract.
-- Assumes nothing.
use mathlib.Core.Path.{sym, ◌∙◌}
use Rattle.pl_values.proofs.Scanning.{scanned_at, scanned_none}
use Rattle.pl_values.proofs.ByteLaws.{char_there, char_other, char_end}
use borrow.Author.Rules.{rules}
use native.Mathlib.Omega.{arith}
use Rattle.pl_values.proofs.bytes.char_value.Statement.{statement}
use Rattle.pl_values.proofs.bytes.char_value.Tie as tie

shared-slice-read-b : tie.Need-bounds-text-at
shared-slice-read-b c = search rules

is-visible-requires : tie.Need-is_visible-requires
is-visible-requires c κs = search rules

wide-requires : tie.Need-wide-requires
wide-requires c κs = search rules

add-t10 : tie.Need-overflow_add-result
add-t10 c = search rules

returns : tie.Need-returns-then-is_visible
returns c =
    let args = c.args in
    let t = args.text.now in
    scanned_at _ (char_there t args.at c.if-at-text.true (sym c.is_visible.ensures ∙ c.if-is_visible.true) ∙ rw c.wide.ensures) (λ _. omega arith) (omega (arith, c.if-at-text.true))

returns-2 : tie.Need-returns-else-is_visible
returns-2 c =
    let args = c.args in
    let t = args.text.now in
    scanned_none _ (char_other t args.at c.if-at-text.true (sym c.is_visible.ensures ∙ c.if-is_visible.false))

returns-3 : tie.Need-returns-else-at-text
returns-3 c =
    let args = c.args in
    scanned_none _ (char_end args.text.now args.at c.if-at-text.false)

pub char_value_spec : {M : Type 1} → statement M
char_value_spec =
    tie.close
    (tie.spec
    shared-slice-read-b
    is-visible-requires
    wide-requires
    add-t10
    returns
    returns-2
    returns-3)
