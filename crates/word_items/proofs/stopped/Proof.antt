-- `word_items::stopped` meets its contract: each arm is a clause of its definition.
-- Assumes nothing.
use mathlib.Core.Path.{refl}
use borrow.Author.Rules.{rules}
use Rattle.word_items.proofs.stopped.Statement.{statement}
use Rattle.word_items.proofs.stopped.Tie as tie

enum_told : tie.Need-enum_told-1
enum_told c = search rules

enum-told-2 : tie.Need-enum_told-in-Ligature
enum-told-2 c = search rules

enum-told-3 : tie.Need-enum_told-in-Kern
enum-told-3 c = search rules

enum-told-4 : tie.Need-enum_told-in-End
enum-told-4 c = search rules

enum-known-answer : tie.Need-enum_known-answer
enum-known-answer c = search rules

zero-all-requires : tie.Need-zero_all-requires
zero-all-requires c κs = search rules

returns : tie.Need-returns-in-Char
returns c = rw c.in-Char.is (refl, refl)

returns-2 : tie.Need-returns-in-Ligature
returns-2 c = rw c.in-Ligature.is (refl, refl)

returns-3 : tie.Need-returns-in-Kern
returns-3 c = rw c.in-Kern.is (refl, refl)

returns-4 : tie.Need-returns-in-End
returns-4 c = rw c.in-End.is (refl, refl)

same_length : tie.Need-shape_of-items
same_length c = search rules

returns-5 : tie.Need-returns-in-Refused
returns-5 c = rw c.in-Refused.is (refl, c.zero_all.ensures)

pub stopped_spec : {M : Type 1} → statement M
stopped_spec =
    tie.close
    (tie.spec
    enum_told
    enum-told-2
    enum-told-3
    enum-told-4
    enum-known-answer
    zero-all-requires
    returns
    returns-2
    returns-3
    returns-4
    same_length
    returns-5)
