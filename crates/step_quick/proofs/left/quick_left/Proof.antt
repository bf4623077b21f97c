-- `step_quick::left::quick_left` meets its contract, by whether the state is quick.
-- Assumes nothing.
use mathlib.Core.Path.{◌≡◌, sym, ap, ◌∙◌}
use mathlib.Core.Bool.{true}
use native.Mathlib.Numerals.{add-one}
use native.Mathlib.Omega.{arith}
use lib.IntN.{ℤ}
use borrow.Author.Tests.{not-true, not-false}
use Rattle.words.proofs.Bits.{number_word}
use Rattle.step_quick.specs.Quick.{is_quick}
use Rattle.step_quick.proofs.Theorems.{quick_is}
use borrow.Author.Rules.{rules}
use Rattle.step_quick.proofs.left.quick_left.Statement.{statement}
use Rattle.step_quick.proofs.left.quick_left.Tie as tie

tested : (c : tie.After-is_quick) → let a = c.args in
    c.is_quick.result ≡ is_quick a.ops.now a.boundary a.word.now a.options a.s
tested c =
    let a = c.args in
    c.is_quick.ensures ∙ ap (λ (z : ℤ). is_quick a.ops.now z a.word.now a.options a.s) (number_word a.boundary c.ranges.boundary)

quick : (c : tie.Else-not-is_quick) → let a = c.args in is_quick a.ops.now a.boundary a.word.now a.options a.s ≡ true
quick c = sym (tested c.before) ∙ c.if-not-is_quick.false

is-quick-requires : tie.Need-is_quick-requires
is-quick-requires c κs = search rules

returns : tie.Need-returns-then-not-is_quick
returns c = rw (sym (tested c.before) ∙ c.if-not-is_quick.true)

plain-code-requires : tie.Need-plain_code-requires
plain-code-requires c κs = search rules

add-result : tie.Need-overflow_add-result
add-result c =
    let a = c.args in
    omega (arith, c.plain_code.ensures, (quick_is a.ops.now a.boundary a.word.now a.options a.s (quick c.before)).calm.code)

returns-2 : tie.Need-returns
returns-2 c = rw (quick c.before, add-one c.plain_code.result, c.plain_code.ensures)

pub quick_left_spec : {M : Type 1} → statement M
quick_left_spec =
    tie.close
    (tie.spec
    is-quick-requires
    returns
    plain-code-requires
    add-result
    returns-2)
