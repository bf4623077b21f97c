-- `file_words::command_word` meets its contract: the word has the four bytes that it is put together from.
-- Assumes nothing.
use mathlib.Core.Path.{◌∙◌}
use Prim.Native.Nat.{◌%◌}
use Rattle.file_words.proofs.Bytes.{joined_half}
use native.Mathlib.Omega.{arith}
use borrow.Author.Rules.{rules}
use Rattle.file_words.proofs.command_word.Statement.{statement}
use Rattle.file_words.proofs.command_word.Tie as tie

first-byte-requires : tie.Need-first_byte-first-requires
first-byte-requires c κs = search rules

cast-first : tie.Need-overflow_cast-first
cast-first c = search rules

field-at-requires : tie.Need-field_at-right-requires
field-at-requires c κs = search rules

mul-result : tie.Need-overflow_mul-result
mul-result c = search rules

mul-result-2 : tie.Need-overflow_mul-result-2
mul-result-2 c = search rules

add-result : tie.Need-overflow_add-result
add-result c = search rules

last-half-requires : tie.Need-last_half-requires
last-half-requires c κs = search rules

cast-result : tie.Need-overflow_cast-result
cast-result c = search rules

add-result-2 : tie.Need-overflow_add-result-2
add-result-2 c = search rules

returns : tie.Need-returns
returns c =
    joined_half c.first_byte-first.result (c.field_at-right.result % 256) c.last_half.result (omega arith) (omega arith) (omega arith)
    ∙ rw (c.first_byte-first.ensures, c.field_at-right.ensures.is, c.last_half.ensures)

pub command_word_spec : {M : Type 1} → statement M
command_word_spec =
    tie.close
    (tie.spec
    first-byte-requires
    cast-first
    field-at-requires
    mul-result
    mul-result-2
    add-result
    last-half-requires
    cast-result
    add-result-2
    returns)
