-- `file_commands::is_lig_tagged` meets its contract: its tests are those of the definition.
-- Assumes nothing.
use mathlib.Core.Path.{sym, ◌∙◌}
use borrow.Author.Tests.{eq-eqb, ne_eqb}
use Rattle.files.specs.Commands.{word_byte}
use borrow.Author.Rules.{rules}
use Rattle.file_commands.proofs.is_lig_tagged.Statement.{statement}
use Rattle.file_commands.proofs.is_lig_tagged.Tie as tie

word-byte-requires : tie.Need-word_byte-requires
word-byte-requires c κs = search rules

returns : tie.Need-returns-then-word_byte-eq0
returns c =
    let a = c.args in
    rw (eq-eqb (word_byte a.file.now a.w 0) 0 (sym c.word_byte.ensures ∙ c.if-word_byte-eq0.true))

word-byte-requires-2 : tie.Need-word_byte-requires-2
word-byte-requires-2 c κs = search rules

returns-2 : tie.Need-returns
returns-2 c =
    let a = c.args in
    rw (ne_eqb (word_byte a.file.now a.w 0) 0 (λ z. c.if-word_byte-eq0.false (c.word_byte.ensures ∙ z)), c.word_byte-2.ensures)

pub is_lig_tagged_spec : {M : Type 1} → statement M
is_lig_tagged_spec =
    tie.close
    (tie.spec
    word-byte-requires
    returns
    word-byte-requires-2
    returns-2)
