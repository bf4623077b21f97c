-- What is proved of the column text: the statements of specs/Purpose.
-- Assumes nothing.
use mathlib.Core.Path.{◌≡◌, sym, ap}
use mathlib.Core.List.{[], ◌∷◌}
use Prim.Native.Nat.{◌*◌, ◌/◌, ◌%◌}
use native.Mathlib.Omega.{arith}
use lib.Dec.{eqb}
use lib.ListN.{length}
use borrow.Author.Tests.{eqb-true}
use Rattle.columns.specs.Lines.{read_fields, lettered, fields_of}
use Rattle.columns.specs.Purpose.{FieldWritten, FieldReadsBack, LineWritten, LineRead, LinesWritten, TextNumbers}
use Rattle.columns.proofs.Options.{none_some, cond_some, lettered_some}
use Rattle.columns.proofs.Fields as fields
use Rattle.columns.proofs.ReadBack.{field_long, fields_long, fields_read}
use Rattle.columns.proofs.ReadBack as back
use Rattle.columns.proofs.RefusalNumbers as refusals

-- A field that is read, written again, is that field byte for byte.
pub field_written : FieldWritten
field_written = fields.field_written

-- An i32 that is written in a field is read from it.
pub field_read : FieldReadsBack
field_read z t = (field_long z, back.field_read z t)

-- A line that is read, written again from its numbers, is that line byte for byte.
pub line_written : LineWritten
line_written [] l e = absurd (none_some e)
line_written (b ∷ bs) l e =
    let c = cond_some (eqb (length bs % 12) 0) (lettered b (read_fields (length bs / 12) bs)) l e in
    let z : length bs % 12 ≡ 0 = eqb-true (length bs % 12) 0 c.0 in
    let g = lettered_some b (read_fields (length bs / 12) bs) l c.1 in
    let k : length bs ≡ 12 * (length bs / 12) = omega arith in
    let f = fields.fields_written (length bs / 12) bs l.numbers k g.0 in
    (λ i. sym g.1 i ∷ f i)

-- A line that is written, of i32, is read as it was.
pub line_read : LineRead
line_read l t =
    let n = fields_long l.numbers in
    let z : length (fields_of l.numbers) % 12 ≡ 0 = omega arith in
    let k : length (fields_of l.numbers) / 12 ≡ length l.numbers = omega arith in
    rw (z, k) (ap (lettered l.letter) (fields_read l.numbers t))

-- The lines of a text, written one after the other, are that text.
pub lines_written : LinesWritten
lines_written = fields.lines_written

-- A text is answered, or refused by 2, 4, 5 or one of 12 to 16.
pub text_numbers : TextNumbers
text_numbers = refusals.text_numbers
