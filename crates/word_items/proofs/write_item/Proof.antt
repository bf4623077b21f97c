-- `word_items::write_item` meets its contract, by the arm that is taken: the numbers of its case; the end and a refusal have none.
-- Assumes nothing.
use mathlib.Core.Path.{subst}
use native.Mathlib.Omega.{arith}
use Rattle.words.proofs.Bits.{number_is}
use Rattle.lang.proofs.Records.{word_passed}
use Rattle.word_items.specs.ItemLists.{Small}
use Rattle.word_items.proofs.Laws.{character_numbers, ligature_numbers, kern_numbers, six_as, six_none}
use borrow.Author.Rules.{rules}
use Rattle.word_items.proofs.write_item.Statement.{statement}
use Rattle.word_items.proofs.write_item.Tie as tie

enum-known-answer : tie.Need-enum_known-answer
enum-known-answer c = search rules

cast-put-six : tie.Need-overflow_cast-start
cast-put-six c = record { fits = omega (arith, (subst Small c.in-Char.is c.requires).1) }

put-six-requires : tie.Need-put_six-requires
put-six-requires c κs = search rules

enum-known-answer-2 : tie.Need-enum_known-answer-in-Ligature-1
enum-known-answer-2 c = search rules

cast-put-six-2 : tie.Need-overflow_cast-start-in-Ligature
cast-put-six-2 c = record { fits = omega (arith, (subst Small c.in-Ligature.is c.requires).1) }

cast-put-six-3 : tie.Need-overflow_cast-n
cast-put-six-3 c = record { fits = omega (arith, (subst Small c.in-Ligature.is c.requires).2) }

bit-requires : tie.Need-bit-requires
bit-requires c κs = search rules

bit-requires-2 : tie.Need-bit-requires-in-Ligature
bit-requires-2 c κs = search rules

put-six-requires-2 : tie.Need-put_six-requires-in-Ligature
put-six-requires-2 c κs = search rules

enum-known-answer-3 : tie.Need-enum_known-answer-in-Kern-1
enum-known-answer-3 c = search rules

word-of-requires : tie.Need-word_of-requires
word-of-requires c κs = search rules

put-six-requires-3 : tie.Need-put_six-requires-in-Kern
put-six-requires-3 c κs = search rules

enum_told : tie.Need-enum_told-1
enum_told c = search rules

enum-told-2 : tie.Need-enum_told-in-Refused
enum-told-2 c = search rules

same_length : tie.Need-shape_of-items-in-Char
same_length c = search rules

returns : tie.Need-returns-in-Char
returns c =
    six_as c.args.items.now c.put_six.new.items c.args.at (character_numbers c.in-Char.is c.requires) c.put_six.ensures

same-length-2 : tie.Need-shape_of-items-in-Ligature
same-length-2 c = search rules

returns-2 : tie.Need-returns-in-Ligature
returns-2 c =
    six_as c.args.items.now c.put_six-in-Ligature.new.items c.args.at (ligature_numbers c.bit.result c.bit-in-Ligature.result c.in-Ligature.is c.requires c.bit.ensures c.bit-in-Ligature.ensures)
    c.put_six-in-Ligature.ensures

same-length-3 : tie.Need-shape_of-items-in-Kern
same-length-3 c = search rules

returns-3 : tie.Need-returns-in-Kern
returns-3 c =
    let x = c.put_six-in-Kern in
    six_as c.args.items.now c.put_six-in-Kern.new.items c.args.at
    (kern_numbers c.word_of.result c.in-Kern.is (number_is (word_passed {x = c.in-Kern.value} (record { sfits = search rules }) c.word_of.ensures)))
    c.put_six-in-Kern.ensures

returns-4 : tie.Need-returns-in-End
returns-4 c = let a = c.args in rw c.in-End.is (six_none a.items.now a.at)

returns-5 : tie.Need-returns-in-Refused
returns-5 c = let a = c.args in rw c.in-Refused.is (six_none a.items.now a.at)

pub write_item_spec : {M : Type 1} → statement M
write_item_spec =
    tie.close
    (tie.spec
    enum-known-answer
    cast-put-six
    put-six-requires
    enum-known-answer-2
    cast-put-six-2
    cast-put-six-3
    bit-requires
    bit-requires-2
    put-six-requires-2
    enum-known-answer-3
    word-of-requires
    put-six-requires-3
    enum_told
    enum-told-2
    same_length
    returns
    same-length-2
    returns-2
    same-length-3
    returns-3
    returns-4
    returns-5)
