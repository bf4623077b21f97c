-- `step_quick::left::is_quick` meets its contract, by its tests.
-- Assumes nothing.
use mathlib.Core.Path.{◌≡◌, sym, ap, ◌∙◌}
use mathlib.Core.Bool.{true}
use native.Mathlib.Omega.{arith}
use lib.IntN.{ℤ}
use borrow.Author.Tests.{not-true, not-false, eq-eqb, ne_eqb, lt-leb, le-leb}
use Rattle.words.proofs.Bits.{number_word}
use Rattle.step_quick.specs.Quick.{next_letter, has_letter, is_plain}
use Rattle.step_quick.proofs.Laws.{letter_there}
use borrow.Author.Rules.{rules}
use Rattle.step_quick.proofs.left.is_quick.Statement.{statement}
use Rattle.step_quick.proofs.left.is_quick.Tie as tie

has : (c : tie.Else-not-has_letter) → has_letter c.args.word.now c.args.s ≡ true
has c = sym c.has_letter.ensures ∙ c.if-not-has_letter.false

returns : tie.Need-returns-then-s-ne0
returns c = rw (ne_eqb c.args.s.ops 0 c.if-s-ne0.true)

has-letter-requires : tie.Need-has_letter-requires
has-letter-requires c κs = search rules

returns-2 : tie.Need-returns-then-not-has_letter
returns-2 c =
    rw (
      eq-eqb c.args.s.ops 0 c.if-s-ne0.false,
      sym c.has_letter.ensures ∙ c.if-not-has_letter.true,
    )

mul-if3 : tie.Need-offset_bounds-word-read
mul-if3 c = let a = c.args in omega (arith, (letter_there a.word.now a.s (has c)).0)

shared-slice-read-if3 : tie.Need-bounds-word-read
shared-slice-read-if3 c = let a = c.args in (letter_there a.word.now a.s (has c.before)).0

returns-3 : tie.Need-returns-then-word-read-gt255
returns-3 c =
    let a = c.args in
    rw (
      eq-eqb a.s.ops 0 c.if-s-ne0.false,
      has c.before.before,
      lt-leb (next_letter a.word.now a.s) 255 c.if-word-read-gt255.true,
    )

is-plain-requires : tie.Need-is_plain-requires
is-plain-requires c κs = search rules

returns-4 : tie.Need-returns
returns-4 c =
    let a = c.args in
    rw (
      eq-eqb a.s.ops 0 c.if-s-ne0.false,
      has c.before.before.before,
      le-leb (next_letter a.word.now a.s) 255 c.if-word-read-gt255.false,
    )
    (c.is_plain.ensures ∙ ap (λ (z : ℤ). is_plain a.ops.now z a.word.now a.options a.s) (number_word a.boundary c.ranges.boundary))

pub is_quick_spec : {M : Type 1} → statement M
is_quick_spec =
    tie.close
    (tie.spec
    returns
    has-letter-requires
    returns-2
    mul-if3
    shared-slice-read-if3
    returns-3
    is-plain-requires
    returns-4)
