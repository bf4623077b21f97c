-- `font_unpack::stands_packed` meets its contract: all three tests pass.
-- Assumes nothing.
use mathlib.Core.Path.{sym, ◌∙◌}
use native.Mathlib.Omega.{arith}
use borrow.Author.Rules.{rules}
use Rattle.words.specs.Words.{number_of}
use Rattle.font_unpackings.proofs.Ends.{start_le}
use Rattle.font_unpack.proofs.Standing.{packed_not, packed_lost, packed_last}
use Rattle.font_unpack.proofs.stands_packed.Statement.{statement}
use Rattle.font_unpack.proofs.stands_packed.Tie as tie

are-plain-requires : tie.Need-are_plain-requires
are-plain-requires c κs = omega (arith, c.requires.0, c.requires.1, start_le c.args.instructions.now (number_of c.args.left))

returns : tie.Need-returns-then-not-are_plain
returns c =
    let a = c.args in
    sym (packed_not a.instructions.now a.entries.now (number_of a.left) a.start a.end c.requires.0 c.requires.1
    (sym c.are_plain.ensures ∙ c.if-not-are_plain.true))

are-own-requires : tie.Need-are_own-requires
are-own-requires c κs = search rules

returns-2 : tie.Need-returns-then-not-are_own
returns-2 c =
    let a = c.args in
    sym (packed_lost a.instructions.now a.entries.now (number_of a.left) a.start a.end c.requires.0 c.requires.1
    (sym c.are_own.ensures ∙ c.if-not-are_own.true))

left-stands-requires : tie.Need-left_stands-requires
left-stands-requires c κs = search rules

returns-3 : tie.Need-returns
returns-3 c =
    let a = c.args in
    c.left_stands.ensures
    ∙ sym (packed_last a.instructions.now a.entries.now (number_of a.left) a.start a.end c.requires.0 c.requires.1
    (sym c.are_plain.ensures ∙ c.if-not-are_plain.false) (sym c.are_own.ensures ∙ c.if-not-are_own.false))

pub stands_packed_spec : {M : Type 1} → statement M
stands_packed_spec =
    tie.close
    (tie.spec
    are-plain-requires
    returns
    are-own-requires
    returns-2
    left-stands-requires
    returns-3)
