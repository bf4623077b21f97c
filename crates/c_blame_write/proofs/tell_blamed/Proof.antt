-- `c_blame_write::tell_blamed` meets its contract, arm by arm.
-- Assumes nothing.
use borrow.Author.Rules.{rules}
use Rattle.c_blame_write.proofs.tell_blamed.Statement.{statement}
use Rattle.c_blame_write.proofs.tell_blamed.Tie as tie

enum-known-answer : tie.Need-enum_known-answer
enum-known-answer c = search rules

tell-two-requires : tie.Need-tell_two-requires
tell-two-requires c κs = search rules

enum_told : tie.Need-enum_told-1
enum_told c = search rules

tell-two-requires-2 : tie.Need-tell_two-requires-in-Nothing
tell-two-requires-2 c κs = search rules

enum-known-answer-2 : tie.Need-enum_known-answer-in-Refused-1
enum-known-answer-2 c = search rules

tell-number-requires : tie.Need-tell_number-requires
tell-number-requires c κs = search rules

same_length : tie.Need-shape_of-values-in-At
same_length c = search rules

returns : tie.Need-returns-in-At
returns c = rw c.in-At.is c.tell_two.ensures

same-length-2 : tie.Need-shape_of-values-in-Nothing
same-length-2 c = search rules

returns-2 : tie.Need-returns-in-Nothing
returns-2 c = rw c.in-Nothing.is c.tell_two-in-Nothing.ensures

same-length-3 : tie.Need-shape_of-values-in-Refused
same-length-3 c = search rules

returns-3 : tie.Need-returns-in-Refused
returns-3 c = rw c.in-Refused.is c.tell_number.ensures

pub tell_blamed_spec : {M : Type 1} → statement M
tell_blamed_spec =
    tie.close
    (tie.spec
    enum-known-answer
    tell-two-requires
    enum_told
    tell-two-requires-2
    enum-known-answer-2
    tell-number-requires
    same_length
    returns
    same-length-2
    returns-2
    same-length-3
    returns-3)
