-- What is proved of what is printed: the statements of specs/Printing.
-- Assumes nothing.
use mathlib.Core.Path.{◌≡◌, sym, ap, ◌∙◌}
use mathlib.Core.Bool.{Bool, false, cond}
use mathlib.Core.List.{List}
use mathlib.Core.Logic.{◌⊎◌, inl, inr}
use mathlib.Core.Option.{Option, none}
use Prim.Native.Nat.{ℕ, ◌<◌, ◌≤◌}
use native.Mathlib.Omega.{arith}
use lib.ListN.{length, take}
use lib.Seq.{take_all, length-take-le}
use borrow.Author.Tests.{lt-leb}
use Rattle.words.proofs.Tests.{less_or_not}
use Rattle.columns.specs.Lines.{lines_of}
use Rattle.columns.specs.Texts.{Text, read_lines}
use Rattle.columns.specs.Ligcols.{number_of_text, bytes_of_text}
use Rattle.columns.specs.Converting.{converted_by, convert_number}
use Rattle.text_print.specs.Printing.{printed_bytes, printed_text, printed_converted, LongRefused, LongNotConverted, FirstBytesPrinted, FirstBytesConverted}

-- A text of more than 65,536 bytes is 16.
pub long_refused : LongRefused
long_refused input l =
    ap (λ (t : Bool). printed_bytes (number_of_text (cond t (read_lines (lines_of input)) none) 65536) (bytes_of_text (cond t (read_lines (lines_of input)) none)))
    (lt-leb (length input) 65536 l)

-- What is printed for the first 65,537 bytes is what is printed for all.
pub first_bytes_printed : FirstBytesPrinted
first_bytes_printed input = by (less_or_not 65536 (length input))
  where
    by : (65536 < length input) ⊎ (length input ≤ 65536) → printed_text (take 65537 input) ≡ printed_text input
    by (inl l) = long_refused (take 65537 input) (omega (arith, length-take-le 65537 input (omega (arith, l)))) ∙ sym (long_refused input l)
    by (inr l) = ap printed_text (take_all 65537 input (omega (arith, l)))

-- The same of a text that is written anew.
pub long_not_converted : LongNotConverted
long_not_converted input l =
    ap
    (λ (t : Bool).
    printed_bytes (convert_number (cond t (read_lines (lines_of input)) none) (converted_by (cond t (read_lines (lines_of input)) none) input) 65536)
    (converted_by (cond t (read_lines (lines_of input)) none) input))
    (lt-leb (length input) 65536 l)

pub first_bytes_converted : FirstBytesConverted
first_bytes_converted input = by (less_or_not 65536 (length input))
  where
    by : (65536 < length input) ⊎ (length input ≤ 65536) → printed_converted (take 65537 input) ≡ printed_converted input
    by (inl l) =
        long_not_converted (take 65537 input) (omega (arith, length-take-le 65537 input (omega (arith, l)))) ∙ sym (long_not_converted input l)
    by (inr l) = ap printed_converted (take_all 65537 input (omega (arith, l)))
