-- `file_chars::entry_word` meets its contract, by whether the place is in the table.
-- Assumes nothing.
use mathlib.Core.Path.{sym, ◌∙◌}
use lib.IntN.{pos, negsuc}
use lib.ListN.{get_or-eq_default}
use Rattle.words.proofs.Bits.{number_is}
use Rattle.file_chars.proofs.Laws.{default_any}
use borrow.Author.Rules.{rules}
use Rattle.file_chars.proofs.entry_word.Statement.{statement}
use Rattle.file_chars.proofs.entry_word.Tie as tie

word-at-requires : tie.Need-word_at-requires
word-at-requires c κs = search rules

returns : tie.Need-returns-then-place-table
returns c =
    let a = c.args in number_is c.word_at.ensures ∙ default_any a.table.now a.place (pos 0) (negsuc 0) c.if-place-table.true

returns-2 : tie.Need-returns-else-place-table
returns-2 c = let a = c.args in sym (get_or-eq_default a.table.now (negsuc 0) c.if-place-table.false)

pub entry_word_spec : {M : Type 1} → statement M
entry_word_spec =
    tie.close
    (tie.spec
    word-at-requires
    returns
    returns-2)
