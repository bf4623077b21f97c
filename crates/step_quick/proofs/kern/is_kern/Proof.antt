-- `step_quick::kern::is_kern` meets its contract, by its tests.
-- Assumes nothing.
use mathlib.Core.Path.{◌≡◌, sym, ap, ◌∙◌}
use mathlib.Core.Bool.{true}
use Prim.Native.Nat.{◌<◌}
use native.Mathlib.Omega.{arith}
use lib.IntN.{ℤ}
use borrow.Author.Tests.{not-true, not-false, eq-eqb, ne_eqb}
use Rattle.words.proofs.Bits.{number_word}
use Rattle.lang.proofs.Records.{word_passed}
use Rattle.captions.specs.Tables.{op_count, op_kind}
use Rattle.step_quick.specs.Quick.{is_plain}
use Rattle.step_quick.proofs.Theorems.{calm_is, placed_among}
use borrow.Author.Rules.{rules}
use Rattle.step_quick.proofs.kern.is_kern.Statement.{statement}
use Rattle.step_quick.proofs.kern.is_kern.Tie as tie

tested : (c : tie.After-is_plain) → let a = c.args in
    c.is_plain.result ≡ is_plain a.ops.now a.boundary a.word.now a.options a.s
tested c =
    let a = c.args in
    c.is_plain.ensures ∙ ap (λ (z : ℤ). is_plain a.ops.now z a.word.now a.options a.s) (number_word a.boundary c.ranges.boundary)

plain : (c : tie.Else-not-is_plain) → let a = c.args in
    is_plain a.ops.now a.boundary a.word.now a.options a.s ≡ true
plain c = sym (tested c.before) ∙ c.if-not-is_plain.false

there : (c : tie.Else-not-is_plain) → let a = c.args in a.s.op < op_count a.ops.now
there c =
    let a = c.args in
    omega (
      arith,
      c.if-s-ne1.false,
      placed_among a.ops.now a.boundary a.word.now a.options a.s
          (calm_is a.ops.now a.boundary a.word.now a.options a.s (plain c)),
    )

returns : tie.Need-returns-then-s-ne1
returns c = rw (ne_eqb c.args.s.ops 1 c.if-s-ne1.true)

is-plain-requires : tie.Need-is_plain-requires
is-plain-requires c κs = search rules

returns-2 : tie.Need-returns-then-not-is_plain
returns-2 c =
    rw (
      eq-eqb c.args.s.ops 1 c.if-s-ne1.false,
      sym (tested c.before) ∙ c.if-not-is_plain.true,
    )

mul-kind : tie.Need-overflow_mul-kind
mul-kind c = omega (arith, there c)

mul-kind-2 : tie.Need-offset_bounds-ops-op
mul-kind-2 c = omega (arith, there c)

shared-slice-copy-out-kind : tie.Need-bounds-ops-op
shared-slice-copy-out-kind c = omega (arith, there c)

word-of-requires : tie.Need-word_of-requires
word-of-requires c κs = search rules

returns-3 : tie.Need-returns
returns-3 c =
    let a = c.args in
    let w = word_passed {x = op_kind a.ops.now a.s.op} (record { sfits = c.kind-1.given }) c.word_of.ensures in
    rw (eq-eqb a.s.ops 1 c.if-s-ne1.false, plain c.before.before, w.is)

pub is_kern_spec : {M : Type 1} → statement M
is_kern_spec =
    tie.close
    (tie.spec
    returns
    is-plain-requires
    returns-2
    mul-kind
    mul-kind-2
    shared-slice-copy-out-kind
    word-of-requires
    returns-3)
