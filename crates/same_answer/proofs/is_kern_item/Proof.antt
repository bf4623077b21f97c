-- `same_answer::is_kern_item` meets its contract, arm by arm; two kerns are compared by their words.
-- Assumes nothing.
use mathlib.Core.Path.{sym}
use borrow.Author.Rules.{rules}
use Rattle.lang.proofs.Records.{word_passed}
use Rattle.same_answer.proofs.Laws.{word_same}
use Rattle.same_answer.proofs.is_kern_item.Statement.{statement}
use Rattle.same_answer.proofs.is_kern_item.Tie as tie

enum-known-b : tie.Need-enum_known-b
enum-known-b c = search rules

word-of-requires : tie.Need-word_of-requires
word-of-requires c κs = search rules

word-of-requires-2 : tie.Need-word_of-requires-in-Kern
word-of-requires-2 c κs = search rules

enum_told : tie.Need-enum_told-1
enum_told c = search rules

enum-told-2 : tie.Need-enum_told-in-Ligature
enum-told-2 c = search rules

enum-told-3 : tie.Need-enum_told-in-End
enum-told-3 c = search rules

enum-told-4 : tie.Need-enum_told-in-Refused
enum-told-4 c = search rules

returns : tie.Need-returns-in-Kern
returns c =
    rw c.in-Kern.is
    (word_same (word_passed {x = c.args.kern} c.ranges.kern c.word_of.ensures)
    (word_passed {x = c.in-Kern.k} (record { sfits = search rules }) c.word_of-in-Kern.ensures))

returns-2 : tie.Need-returns-in-Char
returns-2 c = search rules

returns-3 : tie.Need-returns-in-Ligature
returns-3 c = search rules

returns-4 : tie.Need-returns-in-End
returns-4 c = search rules

returns-5 : tie.Need-returns-in-Refused
returns-5 c = search rules

pub is_kern_item_spec : {M : Type 1} → statement M
is_kern_item_spec =
    tie.close
    (tie.spec
    enum-known-b
    word-of-requires
    word-of-requires-2
    enum_told
    enum-told-2
    enum-told-3
    enum-told-4
    returns
    returns-2
    returns-3
    returns-4
    returns-5)
