-- `font_unpack::moved_number` meets its contract.
-- Assumes nothing.
use mathlib.Core.Path.{◌∙◌}
use native.Mathlib.Omega.{arith}
use borrow.Author.Rules.{rules}
use Rattle.font_unpack.proofs.Written.{moved_char, moved_entry}
use Rattle.font_unpack.proofs.moved_number.Statement.{statement}
use Rattle.font_unpack.proofs.moved_number.Tie as tie

word-at-requires : tie.Need-word_at-word-requires
word-at-requires c κs = search rules

moved-back-requires : tie.Need-moved_back-requires
moved-back-requires c κs = search rules

returns : tie.Need-returns-then-j-eq0
returns c = let a = c.args in moved_char a.entries.now a.front a.j c.word_at-word.ensures c.if-j-eq0.true

returns-2 : tie.Need-returns-else-j-eq0
returns-2 c =
    let a = c.args in
    c.moved_back.ensures
    ∙ moved_entry a.entries.now a.front a.j c.word_at-word.ensures c.if-j-eq0.false (omega (arith, c.word_at-word.ensures.is, c.requires))

pub moved_number_spec : {M : Type 1} → statement M
moved_number_spec =
    tie.close
    (tie.spec
    word-at-requires
    moved-back-requires
    returns
    returns-2)
