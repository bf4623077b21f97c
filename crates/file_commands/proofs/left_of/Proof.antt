-- `file_commands::left_of` meets its contract: the entry that the last word names.
-- Assumes nothing.
use mathlib.Core.Path.{sym, ◌∙◌}
use mathlib.Core.List.{List}
use Prim.Native.Nat.{ℕ, ◌+◌, ◌*◌}
use native.Mathlib.Omega.{arith}
use lib.IntN.{ℤ, pos}
use Rattle.words.proofs.Bits.{number_pos}
use Rattle.files.specs.Commands.{word_byte}
use Rattle.file_commands.proofs.Naming.{no_word, word_names, word_names_none}
use borrow.Author.Rules.{rules}
use Rattle.file_commands.proofs.left_of.Statement.{statement}
use Rattle.file_commands.proofs.left_of.Tie as tie

-- the entry in word w
abbrev entry : List ℕ → ℕ → ℤ
entry file w = pos (256 * word_byte file w 2 + word_byte file w 3)

returns : tie.Need-returns-then-n-eq0
returns c =
    let a = c.args in
    no_word a.file.now a.w a.n (entry a.file.now a.w) c.if-n-eq0.true

word-byte-requires : tie.Need-word_byte-requires
word-byte-requires c κs = search rules

word-byte-requires-2 : tie.Need-word_byte-requires-then-word_byte
word-byte-requires-2 c κs = search rules

cast-result : tie.Need-overflow_cast-result
cast-result c = search rules

mul-result : tie.Need-overflow_mul-result
mul-result c = search rules

word-byte-requires-3 : tie.Need-word_byte-requires-then-word_byte-2
word-byte-requires-3 c κs = search rules

cast-result-2 : tie.Need-overflow_cast-result-then-word_byte
cast-result-2 c = search rules

add-result : tie.Need-overflow_add-result
add-result c = search rules

returns-2 : tie.Need-returns-then-word_byte
returns-2 c =
    let a = c.args in
    number_pos (256 * c.word_byte-then-word_byte.result + c.word_byte-then-word_byte-2.result) (omega arith)
    ∙ rw (c.word_byte-then-word_byte.ensures, c.word_byte-then-word_byte-2.ensures)
    (word_names a.file.now a.w a.n (entry a.file.now a.w) c.if-n-eq0.false (sym c.word_byte.ensures ∙ c.if-word_byte.true))

returns-3 : tie.Need-returns-else-word_byte
returns-3 c =
    let a = c.args in
    word_names_none a.file.now a.w a.n (entry a.file.now a.w) c.if-n-eq0.false (λ z. c.if-word_byte.false (c.word_byte.ensures ∙ z))

pub left_of_spec : {M : Type 1} → statement M
left_of_spec =
    tie.close
    (tie.spec
    returns
    word-byte-requires
    word-byte-requires-2
    cast-result
    mul-result
    word-byte-requires-3
    cast-result-2
    add-result
    returns-2
    returns-3)
