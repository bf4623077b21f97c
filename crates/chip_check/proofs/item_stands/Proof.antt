-- `chip_check::item_stands` meets its contract: by the item.
-- Assumes nothing.
use borrow.Author.Rules.{rules}
use Rattle.chip_check.proofs.item_stands.Statement.{statement}
use Rattle.chip_check.proofs.item_stands.Tie as tie

enum_told : tie.Need-enum_told-1
enum_told c = search rules

enum-known-item : tie.Need-enum_known-item
enum-known-item c = search rules

enum-told-2 : tie.Need-enum_told-in-Kern
enum-told-2 c = search rules

enum-told-3 : tie.Need-enum_told-in-End
enum-told-3 c = search rules

enum-told-4 : tie.Need-enum_told-in-Refused
enum-told-4 c = search rules

returns : tie.Need-returns-in-Char
returns c = search rules

returns-2 : tie.Need-returns-in-Ligature
returns-2 c = rw c.in-Ligature.is

returns-3 : tie.Need-returns-in-Kern
returns-3 c = search rules

returns-4 : tie.Need-returns-in-End
returns-4 c = search rules

returns-5 : tie.Need-returns-in-Refused
returns-5 c = search rules

pub item_stands_spec : {M : Type 1} → statement M
item_stands_spec =
    tie.close
    (tie.spec
    enum_told
    enum-known-item
    enum-told-2
    enum-told-3
    enum-told-4
    returns
    returns-2
    returns-3
    returns-4
    returns-5)
