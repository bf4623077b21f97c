-- `step_quick_op::quick_step` meets its contract, by whether there is a letter and an entry.
-- Assumes nothing.
use mathlib.Core.Path.{◌≡◌, sym, ◌∙◌}
use mathlib.Core.Bool.{true}
use native.Mathlib.Omega.{arith}
use borrow.Author.Tests.{not-true, not-false, lt-ltb, le-ltb}
use Rattle.captions.specs.Tables.{pair_count}
use Rattle.step_quick.specs.Quick.{has_letter}
use Rattle.step_quick.proofs.Laws.{letter_there}
use borrow.Author.Rules.{rules}
use Rattle.step_quick_op.proofs.quick_step.Statement.{statement}
use Rattle.step_quick_op.proofs.quick_step.Tie as tie

has : (c : tie.Else-not-has_letter) → has_letter c.args.word.now c.args.s ≡ true
has c = sym c.has_letter.ensures ∙ c.if-not-has_letter.false

has-letter-requires : tie.Need-has_letter-requires
has-letter-requires c κs = search rules

returns : tie.Need-returns-then-not-has_letter
returns c = rw (sym c.has_letter.ensures ∙ c.if-not-has_letter.true)

given-plain-requires : tie.Need-given_plain-requires
given-plain-requires c κs = has c.before

returns-2 : tie.Need-returns-then-pairs-k
returns-2 c =
    let a = c.args in
    rw (has c.before.before, le-ltb a.k (pair_count a.pairs.now) c.if-pairs-k.true) c.given_plain.ensures

given-first-requires : tie.Need-given_first-requires
given-first-requires c κs =
    let a = c.args in
    let l = letter_there a.word.now a.s (has c.before) in
    (c.if-pairs-k.false, omega (arith, l.0), l.1)

returns-3 : tie.Need-returns
returns-3 c =
    let a = c.args in
    rw (has c.before.before, lt-ltb a.k (pair_count a.pairs.now) c.if-pairs-k.false) c.given_first.ensures

pub quick_step_spec : {M : Type 1} → statement M
quick_step_spec =
    tie.close
    (tie.spec
    has-letter-requires
    returns
    given-plain-requires
    returns-2
    given-first-requires
    returns-3)
