-- `same_answer::is_character_item` meets its contract, arm by arm.
-- Assumes nothing.
use borrow.Author.Rules.{rules}
use borrow.Author.Tests.{eq-eqb, ne_eqb}
use Rattle.same_answer.proofs.is_character_item.Statement.{statement}
use Rattle.same_answer.proofs.is_character_item.Tie as tie

enum-known-b : tie.Need-enum_known-b
enum-known-b c = search rules

enum_told : tie.Need-enum_told-1
enum_told c = search rules

enum-told-2 : tie.Need-enum_told-in-Kern
enum-told-2 c = search rules

enum-told-3 : tie.Need-enum_told-in-End
enum-told-3 c = search rules

enum-told-4 : tie.Need-enum_told-in-Refused
enum-told-4 c = search rules

returns : tie.Need-returns-then-code-c
returns c = rw (c.in-Char.is, eq-eqb _ c.in-Char.c c.if-code-c.true)

returns-2 : tie.Need-returns-else-code-c
returns-2 c = rw (c.in-Char.is, ne_eqb _ c.in-Char.c c.if-code-c.false)

returns-3 : tie.Need-returns-in-Ligature
returns-3 c = search rules

returns-4 : tie.Need-returns-in-Kern
returns-4 c = search rules

returns-5 : tie.Need-returns-in-End
returns-5 c = search rules

returns-6 : tie.Need-returns-in-Refused
returns-6 c = search rules

pub is_character_item_spec : {M : Type 1} → statement M
is_character_item_spec =
    tie.close
    (tie.spec
    enum-known-b
    enum_told
    enum-told-2
    enum-told-3
    enum-told-4
    returns
    returns-2
    returns-3
    returns-4
    returns-5
    returns-6)
