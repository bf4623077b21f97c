-- `file_commands::kern_word` meets its contract: the number of the four bytes.
-- Assumes nothing.
use borrow.Author.Rules.{rules}
use Rattle.file_commands.proofs.kern_word.Statement.{statement}
use Rattle.file_commands.proofs.kern_word.Tie as tie

word-byte-requires : tie.Need-word_byte-a-requires
word-byte-requires c κs = search rules

cast-a : tie.Need-overflow_cast-a
cast-a c = search rules

word-byte-requires-2 : tie.Need-word_byte-b-requires
word-byte-requires-2 c κs = search rules

cast-b : tie.Need-overflow_cast-b
cast-b c = search rules

word-byte-requires-3 : tie.Need-word_byte-c-requires
word-byte-requires-3 c κs = search rules

cast-c : tie.Need-overflow_cast-c
cast-c c = search rules

mul-result : tie.Need-overflow_mul-result
mul-result c = search rules

mul-result-2 : tie.Need-overflow_mul-result-2
mul-result-2 c = search rules

add-result : tie.Need-overflow_add-result
add-result c = search rules

mul-result-3 : tie.Need-overflow_mul-result-3
mul-result-3 c = search rules

add-result-2 : tie.Need-overflow_add-result-2
add-result-2 c = search rules

word-byte-requires-4 : tie.Need-word_byte-requires
word-byte-requires-4 c κs = search rules

cast-result : tie.Need-overflow_cast-result
cast-result c = search rules

add-result-3 : tie.Need-overflow_add-result-3
add-result-3 c = search rules

returns : tie.Need-returns
returns c =
    rw (
      c.word_byte-a.ensures,
      c.word_byte-b.ensures,
      c.word_byte-c.ensures,
      c.word_byte.ensures,
    )

pub kern_word_spec : {M : Type 1} → statement M
kern_word_spec =
    tie.close
    (tie.spec
    word-byte-requires
    cast-a
    word-byte-requires-2
    cast-b
    word-byte-requires-3
    cast-c
    mul-result
    mul-result-2
    add-result
    mul-result-3
    add-result-2
    word-byte-requires-4
    cast-result
    add-result-3
    returns)
