-- `step_quick::calm::is_plain` meets its contract: both tests hold.
-- Assumes nothing.
use mathlib.Core.Path.{sym, ap, ◌∙◌}
use lib.IntN.{ℤ}
use borrow.Author.Tests.{not-true, not-false}
use Rattle.words.proofs.Bits.{number_word}
use Rattle.step_quick.specs.Quick.{is_taken}
use borrow.Author.Rules.{rules}
use Rattle.step_quick.proofs.calm.is_plain.Statement.{statement}
use Rattle.step_quick.proofs.calm.is_plain.Tie as tie

is-calm-requires : tie.Need-is_calm-requires
is-calm-requires c κs = search rules

returns : tie.Need-returns-then-not-is_calm
returns c = rw (sym c.is_calm.ensures ∙ c.if-not-is_calm.true)

is-taken-requires : tie.Need-is_taken-requires
is-taken-requires c κs = search rules

returns-2 : tie.Need-returns
returns-2 c =
    rw (sym c.is_calm.ensures ∙ c.if-not-is_calm.false)
    (c.is_taken.ensures
    ∙ ap (λ (z : ℤ). is_taken z c.args.word.now c.args.options) (number_word c.args.boundary c.ranges.boundary))

pub is_plain_spec : {M : Type 1} → statement M
is_plain_spec =
    tie.close
    (tie.spec
    is-calm-requires
    returns
    is-taken-requires
    returns-2)
