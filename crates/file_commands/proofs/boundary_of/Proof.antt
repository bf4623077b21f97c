-- `file_commands::boundary_of` meets its contract: the character that the first word names.
-- Assumes nothing.
use mathlib.Core.Path.{sym, ap, ◌∙◌}
use native.Mathlib.Omega.{arith}
use lib.IntN.{pos}
use Rattle.words.proofs.Bits.{number_pos}
use Rattle.files.specs.Commands.{word_byte}
use Rattle.file_commands.proofs.Naming.{no_word, word_names, word_names_none}
use borrow.Author.Rules.{rules}
use Rattle.file_commands.proofs.boundary_of.Statement.{statement}
use Rattle.file_commands.proofs.boundary_of.Tie as tie

returns : tie.Need-returns-then-n-eq0
returns c =
    let a = c.args in
    no_word a.file.now a.w a.n (pos (word_byte a.file.now a.w 1)) c.if-n-eq0.true

word-byte-requires : tie.Need-word_byte-requires
word-byte-requires c κs = search rules

word-byte-requires-2 : tie.Need-word_byte-requires-then-word_byte
word-byte-requires-2 c κs = search rules

cast-result : tie.Need-overflow_cast-result
cast-result c = search rules

returns-2 : tie.Need-returns-then-word_byte
returns-2 c =
    let a = c.args in
    number_pos c.word_byte-then-word_byte.result (omega arith)
    ∙ ap pos c.word_byte-then-word_byte.ensures
    ∙ word_names a.file.now a.w a.n (pos (word_byte a.file.now a.w 1)) c.if-n-eq0.false (sym c.word_byte.ensures ∙ c.if-word_byte.true)

returns-3 : tie.Need-returns-else-word_byte
returns-3 c =
    let a = c.args in
    word_names_none a.file.now a.w a.n (pos (word_byte a.file.now a.w 1)) c.if-n-eq0.false
    (λ z. c.if-word_byte.false (c.word_byte.ensures ∙ z))

pub boundary_of_spec : {M : Type 1} → statement M
boundary_of_spec =
    tie.close
    (tie.spec
    returns
    word-byte-requires
    word-byte-requires-2
    cast-result
    returns-2
    returns-3)
