-- `c_steps::items::tell_character` meets its contract: 1 and the numbers of a character; the answer is no other.
-- Assumes nothing.
use mathlib.Core.Path.{sym, ap, subst, ◌∙◌}
use native.Mathlib.Omega.{arith}
use Rattle.captions.specs.Replies.{answer_reply}
use Rattle.word_items.specs.ItemLists.{is_item, Small}
use Rattle.word_items.proofs.Laws.{no, character_numbers, six_as, six_there}
use Rattle.c_steps.specs.Step.{is_char_item}
use Rattle.c_steps.proofs.Stepping.{stored_told}
use borrow.Author.Rules.{rules}
use Rattle.c_steps.proofs.items.tell_character.Statement.{statement}
use Rattle.c_steps.proofs.items.tell_character.Tie as tie

enum-known-answer : tie.Need-enum_known-answer
enum-known-answer c = search rules

put-word-requires : tie.Need-put_word-requires
put-word-requires c κs = search rules

cast-put-six : tie.Need-overflow_cast-start
cast-put-six c =
    record { fits = omega (arith, (subst Small c.in-Char.is c.requires.0).1) }

put-six-requires : tie.Need-put_six-requires
put-six-requires c κs = search rules

enum_told : tie.Need-enum_told-1
enum_told c = search rules

enum-told-2 : tie.Need-enum_told-in-Kern
enum-told-2 c = search rules

enum-told-3 : tie.Need-enum_told-in-End
enum-told-3 c = search rules

enum-told-4 : tie.Need-enum_told-in-Refused
enum-told-4 c = search rules

same_length : tie.Need-shape_of-item
same_length c = search rules

returns : tie.Need-returns-in-Char
returns c =
    let a = c.args in
    let e = c.in-Char.is in
    stored_told a.item.now c.put_word.new.s c.put_six.new.items a.answer (ap is_item e) c.requires.1 c.put_word.ensures
    (λ r. six_there c.put_word.new.s c.put_six.new.items 1 (answer_reply a.answer).values r
    (six_as c.put_word.new.s c.put_six.new.items 1 (character_numbers e c.requires.0) c.put_six.ensures))

returns-2 : tie.Need-returns-in-Ligature
returns-2 c = no (sym (ap is_char_item c.in-Ligature.is) ∙ c.requires.2)

returns-3 : tie.Need-returns-in-Kern
returns-3 c = no (sym (ap is_char_item c.in-Kern.is) ∙ c.requires.2)

returns-4 : tie.Need-returns-in-End
returns-4 c = search rules

returns-5 : tie.Need-returns-in-Refused
returns-5 c = search rules

pub tell_character_spec : {M : Type 1} → statement M
tell_character_spec =
    tie.close
    (tie.spec
    enum-known-answer
    put-word-requires
    cast-put-six
    put-six-requires
    enum_told
    enum-told-2
    enum-told-3
    enum-told-4
    same_length
    returns
    returns-2
    returns-3
    returns-4
    returns-5)
