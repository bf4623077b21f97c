-- `file_font::file_length` meets its contract: its tests are those of the definition.
-- Assumes nothing.
use borrow.Author.Rules.{rules}
use Rattle.file_font.proofs.Lengths.{short_length, asked_length_lem, whole_length}
use Rattle.file_font.proofs.file_length.Statement.{statement}
use Rattle.file_font.proofs.file_length.Tie as tie

file-half-requires : tie.Need-file_half-requires
file-half-requires c κs = search rules

cast-asked : tie.Need-overflow_cast-asked
cast-asked c = search rules

mul-asked : tie.Need-overflow_mul-asked
mul-asked c = search rules

returns : tie.Need-returns-then-bytes-asked
returns c =
    short_length c.args.bytes.now c.file_half.ensures c.if-bytes-asked.true

zeros-from-requires : tie.Need-zeros_from-requires
zeros-from-requires c κs = search rules

returns-2 : tie.Need-returns-then-zeros_from
returns-2 c =
    asked_length_lem c.args.bytes.now c.file_half.ensures c.if-bytes-asked.false c.zeros_from.ensures c.if-zeros_from.true

returns-3 : tie.Need-returns-else-zeros_from
returns-3 c =
    whole_length c.args.bytes.now c.file_half.ensures c.if-bytes-asked.false c.zeros_from.ensures c.if-zeros_from.false

pub file_length_spec : {M : Type 1} → statement M
file_length_spec =
    tie.close
    (tie.spec
    file-half-requires
    cast-asked
    mul-asked
    returns
    zeros-from-requires
    returns-2
    returns-3)
