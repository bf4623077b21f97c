-- `chip_block::show_item` meets its contract: by the item, its eight bytes.
-- Assumes nothing.
use mathlib.Core.Path.{◌∙◌}
use Rattle.lang.proofs.Records.{word_passed}
use borrow.Author.Rules.{rules}
use Rattle.chip_block.proofs.show_item.Statement.{statement}
use Rattle.chip_block.proofs.show_item.Tie as tie

enum-known-item : tie.Need-enum_known-item
enum-known-item c = search rules

put-item-requires : tie.Need-put_item-requires
put-item-requires c κs = search rules

enum-known-item-2 : tie.Need-enum_known-item-in-Ligature-1
enum-known-item-2 c = search rules

weight-requires : tie.Need-weight-requires
weight-requires c κs = search rules

weight-requires-2 : tie.Need-weight-requires-in-Ligature
weight-requires-2 c κs = search rules

cast-put-item : tie.Need-overflow_cast-n
cast-put-item c = search rules

put-item-requires-2 : tie.Need-put_item-requires-in-Ligature
put-item-requires-2 c κs = search rules

enum-known-item-3 : tie.Need-enum_known-item-in-Kern-1
enum-known-item-3 c = search rules

word-of-requires : tie.Need-word_of-requires
word-of-requires c κs = search rules

put-item-requires-3 : tie.Need-put_item-requires-in-Kern
put-item-requires-3 c κs = search rules

enum_told : tie.Need-enum_told-1
enum_told c = search rules

put-item-requires-4 : tie.Need-put_item-requires-in-End
put-item-requires-4 c κs = search rules

enum-told-2 : tie.Need-enum_told-in-Refused
enum-told-2 c = search rules

put-item-requires-5 : tie.Need-put_item-requires-in-Refused
put-item-requires-5 c κs = search rules

same_length : tie.Need-shape_of-block-in-Char
same_length c = search rules

returns : tie.Need-returns-in-Char
returns c = c.put_item.ensures ∙ rw c.in-Char.is

same-length-2 : tie.Need-shape_of-block-in-Ligature
same-length-2 c = search rules

returns-2 : tie.Need-returns-in-Ligature
returns-2 c =
    c.put_item-in-Ligature.ensures ∙ rw (c.in-Ligature.is, c.weight-in-Ligature.ensures, c.weight.ensures)

same-length-3 : tie.Need-shape_of-block-in-Kern
same-length-3 c = search rules

returns-3 : tie.Need-returns-in-Kern
returns-3 c =
    c.put_item-in-Kern.ensures
    ∙ rw (c.in-Kern.is, (word_passed {x = c.in-Kern.k} (record { sfits = search rules }) c.word_of.ensures).is)

same-length-4 : tie.Need-shape_of-block-in-End
same-length-4 c = search rules

returns-4 : tie.Need-returns-in-End
returns-4 c = c.put_item-in-End.ensures ∙ rw c.in-End.is

same-length-5 : tie.Need-shape_of-block-in-Refused
same-length-5 c = search rules

returns-5 : tie.Need-returns-in-Refused
returns-5 c = c.put_item-in-Refused.ensures ∙ rw c.in-Refused.is

pub show_item_spec : {M : Type 1} → statement M
show_item_spec =
    tie.close
    (tie.spec
    enum-known-item
    put-item-requires
    enum-known-item-2
    weight-requires
    weight-requires-2
    cast-put-item
    put-item-requires-2
    enum-known-item-3
    word-of-requires
    put-item-requires-3
    enum_told
    put-item-requires-4
    enum-told-2
    put-item-requires-5
    same_length
    returns
    same-length-2
    returns-2
    same-length-3
    returns-3
    same-length-4
    returns-4
    same-length-5
    returns-5)
