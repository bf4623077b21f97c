-- The example of a text written anew (specs/ConvertingExample), by computation.
-- Assumes nothing.
use mathlib.Core.Path.{◌≡◌, refl}
use Rattle.words.specs.Lists.{tabulate}
use Rattle.program_kerns.specs.Kerns.{kern_place}
use Rattle.program_kerns.specs.SharedKerns.{shared_kerns}
use Rattle.columns.specs.Numbers.{read_field, more_digits, digits}
use Rattle.columns.specs.Lines.{lines_of, read_fields, fields_of, text_of}
use Rattle.columns.specs.Texts.{add_lines}
use Rattle.columns.specs.Converting.{converted_lines, converted_text}
use Rattle.columns.specs.ConvertingExample.{value_bytes, index_bytes}

pub example_converted : converted_text value_bytes ≡ index_bytes
unfolding read_field more_digits digits lines_of read_fields fields_of text_of add_lines converted_lines tabulate kern_place shared_kerns
example_converted = refl
