-- The example of R275 reads as it should, by computation.
-- Assumes nothing.
use mathlib.Core.Path.{◌≡◌, refl}
use mathlib.Core.Option.{some}
use Rattle.columns.specs.Numbers.{read_field, more_digits}
use Rattle.columns.specs.Lines.{lines_of, read_fields}
use Rattle.columns.specs.Texts.{add_lines, read_text}
use Rattle.columns.specs.Example.{example_bytes, example_text}

pub example_read : read_text example_bytes ≡ some example_text
unfolding read_field more_digits lines_of read_fields add_lines
example_read = refl
