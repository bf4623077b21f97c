-- `c_font_waits::is_held` meets its contract, by the count of ops.
-- Assumes nothing.
use Rattle.c_font_waits.proofs.Waiting.{some_op, no_op}
use borrow.Author.Rules.{rules}
use Rattle.c_font_waits.proofs.is_held.Statement.{statement}
use Rattle.c_font_waits.proofs.is_held.Tie as tie

returns : tie.Need-returns-then-s-ne0
returns c = let a = c.args in some_op a.pairs.now a.word.now a.s c.if-s-ne0.true

has-pair-requires : tie.Need-has_pair-requires
has-pair-requires c κs = search rules

returns-2 : tie.Need-returns
returns-2 c =
    let a = c.args in
    no_op a.pairs.now a.word.now a.s c.if-s-ne0.false c.has_pair.ensures

pub is_held_spec : {M : Type 1} → statement M
is_held_spec =
    tie.close
    (tie.spec
    returns
    has-pair-requires
    returns-2)
