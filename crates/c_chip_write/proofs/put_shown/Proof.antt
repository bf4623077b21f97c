-- `c_chip_write::put_shown` meets its contract: by the item, its seven numbers.
-- Assumes nothing.
use mathlib.Core.Path.{◌∙◌}
use Rattle.lang.proofs.Records.{word_passed}
use borrow.Author.Rules.{rules}
use Rattle.c_chip_write.proofs.put_shown.Statement.{statement}
use Rattle.c_chip_write.proofs.put_shown.Tie as tie

enum-known-item : tie.Need-enum_known-item
enum-known-item c = search rules

put-seven-requires : tie.Need-put_seven-requires
put-seven-requires c κs = search rules

enum-known-item-2 : tie.Need-enum_known-item-in-Ligature-1
enum-known-item-2 c = search rules

bit-requires : tie.Need-bit-requires
bit-requires c κs = search rules

bit-requires-2 : tie.Need-bit-requires-in-Ligature
bit-requires-2 c κs = search rules

put-seven-requires-2 : tie.Need-put_seven-requires-in-Ligature
put-seven-requires-2 c κs = search rules

enum-known-item-3 : tie.Need-enum_known-item-in-Kern-1
enum-known-item-3 c = search rules

word-of-requires : tie.Need-word_of-requires
word-of-requires c κs = search rules

put-seven-requires-3 : tie.Need-put_seven-requires-in-Kern
put-seven-requires-3 c κs = search rules

enum_told : tie.Need-enum_told-1
enum_told c = search rules

put-seven-requires-4 : tie.Need-put_seven-requires-in-End
put-seven-requires-4 c κs = search rules

enum-told-2 : tie.Need-enum_told-in-Refused
enum-told-2 c = search rules

put-seven-requires-5 : tie.Need-put_seven-requires-in-Refused
put-seven-requires-5 c κs = search rules

same_length : tie.Need-shape_of-list-in-Char
same_length c = search rules

returns : tie.Need-returns-in-Char
returns c = c.put_seven.ensures ∙ rw c.in-Char.is

same-length-2 : tie.Need-shape_of-list-in-Ligature
same-length-2 c = search rules

returns-2 : tie.Need-returns-in-Ligature
returns-2 c =
    c.put_seven-in-Ligature.ensures ∙ rw (c.in-Ligature.is, c.bit-in-Ligature.ensures, c.bit.ensures)

same-length-3 : tie.Need-shape_of-list-in-Kern
same-length-3 c = search rules

returns-3 : tie.Need-returns-in-Kern
returns-3 c =
    c.put_seven-in-Kern.ensures
    ∙ rw (c.in-Kern.is, (word_passed {x = c.in-Kern.k} (record { sfits = search rules }) c.word_of.ensures).is)

same-length-4 : tie.Need-shape_of-list-in-End
same-length-4 c = search rules

returns-4 : tie.Need-returns-in-End
returns-4 c = c.put_seven-in-End.ensures ∙ rw c.in-End.is

same-length-5 : tie.Need-shape_of-list-in-Refused
same-length-5 c = search rules

returns-5 : tie.Need-returns-in-Refused
returns-5 c = c.put_seven-in-Refused.ensures ∙ rw c.in-Refused.is

pub put_shown_spec : {M : Type 1} → statement M
put_shown_spec =
    tie.close
    (tie.spec
    enum-known-item
    put-seven-requires
    enum-known-item-2
    bit-requires
    bit-requires-2
    put-seven-requires-2
    enum-known-item-3
    word-of-requires
    put-seven-requires-3
    enum_told
    put-seven-requires-4
    enum-told-2
    put-seven-requires-5
    same_length
    returns
    same-length-2
    returns-2
    same-length-3
    returns-3
    same-length-4
    returns-4
    same-length-5
    returns-5)
