-- `font_unpack::left_stands` meets its contract.
-- Assumes nothing.
use mathlib.Core.Path.{◌≡◌, sym, ap, ◌∙◌}
use mathlib.Core.Bool.{Bool}
use borrow.Author.Rules.{rules}
use Rattle.lang.specs.Every.{both}
use Rattle.lang.specs.Records.{is_kind}
use Rattle.font_unpackings.specs.Unpackings.{left_stands}
use Rattle.words.specs.Words.{number_of}
use Rattle.font_unpack.proofs.Standing.{left_absent, left_present}
use Rattle.font_unpack.proofs.left_stands.Statement.{statement}
use Rattle.font_unpack.proofs.left_stands.Tie as tie

-- by the test of the left entry, and of the instruction behind
present : (c : tie.After-is_own) → let a = c.args in
    left_stands a.instructions.now (number_of a.left) ≡ both c.is_own.result (is_kind 3 a.instructions.now a.end)
present c =
    let a = c.args in
    left_present a.instructions.now a.left a.start a.end c.if-left-ge2147483648.false c.requires.0 c.requires.1
    ∙ ap (λ (t : Bool). both t (is_kind 3 a.instructions.now a.end)) (sym c.is_own.ensures)

returns : tie.Need-returns-then-left-ge2147483648
returns c = let a = c.args in sym (left_absent a.instructions.now a.left c.if-left-ge2147483648.true)

is-own-requires : tie.Need-is_own-requires
is-own-requires c κs = search rules

returns-2 : tie.Need-returns-then-not-is_own
returns-2 c = sym (present c.before ∙ rw (c.if-not-is_own.true))

is-redirect-requires : tie.Need-is_redirect-requires
is-redirect-requires c κs = search rules

returns-3 : tie.Need-returns
returns-3 c = c.is_redirect.ensures ∙ sym (present c.before.before ∙ rw (c.if-not-is_own.false))

pub left_stands_spec : {M : Type 1} → statement M
left_stands_spec =
    tie.close
    (tie.spec
    returns
    is-own-requires
    returns-2
    is-redirect-requires
    returns-3)
